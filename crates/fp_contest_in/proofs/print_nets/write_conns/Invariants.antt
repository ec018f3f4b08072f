use Rattle.std.proofs.Common.{take, map}
use Rattle.fp_text.specs.Writing.{told, GoesOn, Adds}
use Rattle.fp_netlist.specs.Netlist.{cell_names}
use Rattle.fp_contest_in.specs.PrintedText.{conn_lines, conn_said, net_conns}
use Rattle.fp_contest_in.proofs.print_nets.write_conns.Given as goal

abbrev pub invariant-loop-conn : goal.invariant-loop-conn
invariant-loop-conn g l =
    let tells = told g.F.Folder.held g.F.Folder.made g.F.Folder.faults in
    record {
      adds : Adds l.name (conn_lines (cell_names l.problem) (take l.conn-index (map (conn_said l.problem) (net_conns l.problem l.fn.net.0)))) (tells l.fn.folder) (tells l.folder) l.fn.writer l.writer;
      goes_on : GoesOn l.name (tells l.folder) l.writer;
    }
