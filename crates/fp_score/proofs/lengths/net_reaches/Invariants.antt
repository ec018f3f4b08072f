use Rattle.std.proofs.Common.{drop}
use Rattle.fp_netlist.specs.Netlist.{conns_of_net}
use Rattle.fp_place.specs.Placed.{places_of}
use Rattle.fp_score.specs.Reaches.{AreNear}
use Rattle.fp_score.proofs.Pins.{Walked}
use Rattle.fp_score.proofs.lengths.net_reaches.Given as goal

abbrev pub invariant-loop-conn : goal.invariant-loop-conn
invariant-loop-conn l = record {
  walked : Walked l.problem (places_of l.placement) l.fn.net.0 (drop l.conn-index (conns_of_net l.problem l.fn.net.0)) l.reaches;
  near : AreNear l.reaches;
}
