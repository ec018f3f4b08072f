use Rattle.std.proofs.Common.{take, flat_map}
use Rattle.fp_text.specs.Writing.{told, GoesOn, Adds}
use Rattle.fp_contest_in.specs.PrintedText.{spaced, numbers}
use Rattle.fp_contest_in.proofs.lines.write_numbers.Given as goal

abbrev pub invariant-loop-value : goal.invariant-loop-value
invariant-loop-value g l =
    let tells = told g.F.Folder.held g.F.Folder.made g.F.Folder.faults in
    record {
      adds : Adds l.name (flat_map spaced (take l.value-index (numbers l.fn.values))) (tells l.fn.folder) (tells l.folder) l.fn.writer l.writer;
      goes_on : GoesOn l.name (tells l.folder) l.writer;
    }
