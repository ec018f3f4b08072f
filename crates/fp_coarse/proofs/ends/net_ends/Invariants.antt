use Rattle.std.proofs.Common.{IfSome, drop, pos, ◌^◌, ◌-ℤ◌, neg_ℤ}
use Rattle.fp_netlist.specs.Netlist.{conns_of_net}
use Rattle.fp_place.specs.Placed.{places_of}
use Rattle.fp_coarse.specs.EndsOfNets.{IsOrdered, IsWithin}
use Rattle.fp_coarse.proofs.KeptEnds.{IsKept}
use Rattle.fp_coarse.proofs.ends.net_ends.Given as goal

abbrev pub invariant-loop-conn : goal.invariant-loop-conn
invariant-loop-conn l = record {
  low : IsKept (λ at. at) l.problem (places_of l.base) l.axis l.fn.net.0 (drop l.conn-index (conns_of_net l.problem l.fn.net.0)) l.low;
  high : IsKept neg_ℤ l.problem (places_of l.base) l.axis l.fn.net.0 (drop l.conn-index (conns_of_net l.problem l.fn.net.0)) l.high;
  low_ordered : IfSome l.low IsOrdered;
  high_ordered : IfSome l.high IsOrdered;
  low_within : IfSome l.low (IsWithin (pos 0) (pos (2 ^ 31)));
  high_within : IfSome l.high (IsWithin (pos 0 -ℤ pos (2 ^ 31)) (pos 0));
}
