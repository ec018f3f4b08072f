use Rattle.std.proofs.Common.{◌++◌, codes, length, take, flat_map}
use Rattle.fp_text.specs.Writing.{told, GoesOn, Adds}
use Rattle.fp_cert.specs.CertText.{number_line, cut_line}
use Rattle.fp_cert.proofs.trial_lines.write_cuts.Given as goal

abbrev pub invariant-loop-cut : goal.invariant-loop-cut
invariant-loop-cut g l =
    let tells = told g.F.Folder.held g.F.Folder.made g.F.Folder.faults in
    record {
      adds : Adds l.name (number_line (codes "Terminals") (length l.fn.cuts) ++ flat_map cut_line (take l.cut-index l.fn.cuts)) (tells l.fn.folder) (tells l.folder) l.fn.writer l.writer;
      goes_on : GoesOn l.name (tells l.folder) l.writer;
    }
