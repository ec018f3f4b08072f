use Rattle.fp_text.specs.Writing.{told, GoesOn, Adds}
use Rattle.fp_out.specs.OutText.{insts_text}
use Rattle.fp_out.proofs.Lists.{lines_below}
use Rattle.fp_out.proofs.output.write_cells.Given as goal

abbrev pub invariant-loop-cell : goal.invariant-loop-cell
invariant-loop-cell g l =
    let tells = told g.F.Folder.held g.F.Folder.made g.F.Folder.faults in
    record {
      adds : Adds l.name (insts_text l.problem (lines_below l.die l.cell l.placement)) (tells l.fn.folder) (tells l.folder) l.fn.writer l.writer;
      goes_on : GoesOn l.name (tells l.folder) l.writer;
    }
