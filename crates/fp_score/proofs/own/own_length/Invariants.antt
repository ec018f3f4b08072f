use Rattle.std.proofs.Common.{◌+◌, ◌≤◌, ◌*◌, ◌^◌, drop}
use Rattle.fp_netlist.specs.Netlist.{conns_of_cell}
use Rattle.fp_place.specs.Placed.{places_of}
use Rattle.fp_score.proofs.Others.{Added}
use Rattle.fp_score.proofs.own.own_length.Given as goal

abbrev pub invariant-loop-conn : goal.invariant-loop-conn
invariant-loop-conn l = record {
  added : Added l.problem (places_of l.base) l.cell.0 l.die l.axis l.at (drop l.conn-index (conns_of_cell l.problem l.cell.0)) l.total;
  small : l.total + l.conn-index ≤ l.conn-index * 2 ^ 35;
}
