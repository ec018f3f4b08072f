use Rattle.std.proofs.Common.{IfSome, drop}
use Rattle.fp_netlist.specs.Netlist.{conns_of_net}
use Rattle.fp_place.specs.Placed.{places_of}
use Rattle.fp_score.specs.Ends.{AreNearEnds}
use Rattle.fp_score.proofs.Others.{Seen}
use Rattle.fp_score.proofs.own.others.Given as goal

abbrev pub invariant-loop-conn : goal.invariant-loop-conn
invariant-loop-conn l = record {
  seen : Seen l.problem (places_of l.base) l.cell.0 l.axis l.fn.net.0 (drop l.conn-index (conns_of_net l.problem l.fn.net.0)) l.ends;
  near : IfSome l.ends AreNearEnds;
}
