use Rattle.std.proofs.Common.{take}
use Rattle.fp_text.specs.Writing.{told, GoesOn, Adds}
use Rattle.fp_cert.specs.CertText.{trials_text}
use Rattle.fp_cert.proofs.certificate.write_trials.Given as goal

abbrev pub invariant-loop-number : goal.invariant-loop-number
invariant-loop-number g l =
    let tells = told g.F.Folder.held g.F.Folder.made g.F.Folder.faults in
    record {
      adds : Adds l.name (trials_text 0 (take l.number l.fn.trials)) (tells l.fn.folder) (tells l.folder) l.fn.writer l.writer;
      goes_on : GoesOn l.name (tells l.folder) l.writer;
    }
