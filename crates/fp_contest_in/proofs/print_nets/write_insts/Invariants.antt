use Rattle.std.proofs.Common.{take, map, ◌++◌, [], ◌∷◌, length}
use Rattle.std.specs.Prelude.{codes, flat_map}
use Rattle.fp_text.specs.Writing.{told, GoesOn, Adds}
use Rattle.fp_contest_in.specs.PrintedText.{line, numbers, inst_line, inst_said}
use Rattle.fp_contest_in.proofs.print_nets.write_insts.Given as goal

abbrev pub invariant-loop-cell : goal.invariant-loop-cell
invariant-loop-cell g l =
    let tells = told g.F.Folder.held g.F.Folder.made g.F.Folder.faults in
    record {
      adds : Adds l.name (line (codes "NumInstances") (numbers (length l.problem.cells ∷ [])) ++ flat_map inst_line (take l.cell (map (inst_said l.problem.plan.book.names) l.problem.cells))) (tells l.fn.folder) (tells l.folder) l.fn.writer l.writer;
      goes_on : GoesOn l.name (tells l.folder) l.writer;
    }
