use Rattle.std.proofs.Common.{take, ◌++◌, [], ◌∷◌, length}
use Rattle.std.specs.Prelude.{codes, flat_map}
use Rattle.fp_text.specs.Writing.{told, GoesOn, Adds}
use Rattle.fp_netlist.specs.Netlist.{cell_names}
use Rattle.fp_contest_in.specs.PrintedText.{line, numbers, net_lines, nets_said}
use Rattle.fp_contest_in.proofs.print_nets.write_nets.Given as goal

abbrev pub invariant-loop-net : goal.invariant-loop-net
invariant-loop-net g l =
    let tells = told g.F.Folder.held g.F.Folder.made g.F.Folder.faults in
    record {
      adds : Adds l.name (line (codes "NumNets") (numbers (length l.problem.nets ∷ [])) ++ flat_map (net_lines (cell_names l.problem)) (take l.net (nets_said l.problem 0 l.problem.nets))) (tells l.fn.folder) (tells l.folder) l.fn.writer l.writer;
      goes_on : GoesOn l.name (tells l.folder) l.writer;
    }
