use Rattle.fp_text.specs.Writing.{told, GoesOn, Adds}
use Rattle.fp_out.specs.OutText.{terminals_text}
use Rattle.fp_out.proofs.Lists.{terminals_below}
use Rattle.fp_out.proofs.output.write_centres.Given as goal

abbrev pub invariant-loop-net : goal.invariant-loop-net
invariant-loop-net g l =
    let tells = told g.F.Folder.held g.F.Folder.made g.F.Folder.faults in
    record {
      adds : Adds l.name (terminals_text l.problem (terminals_below l.net l.placement.terminals)) (tells l.fn.folder) (tells l.folder) l.fn.writer l.writer;
      goes_on : GoesOn l.name (tells l.folder) l.writer;
    }
