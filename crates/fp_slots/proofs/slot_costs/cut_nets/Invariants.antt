use Rattle.std.proofs.Common.{◌≡◌, All}
use Rattle.fp_place.specs.Placed.{places_of}
use Rattle.fp_slots.specs.CutNets.{cut_nets, IsNearNet}
use Rattle.fp_slots.proofs.slot_costs.cut_nets.Given as goal

abbrev pub invariant-loop-net : goal.invariant-loop-net
invariant-loop-net l = record {
  are : l.rows.items ≡ cut_nets l.problem (places_of l.placement) l.net;
  near : All IsNearNet l.rows.items;
}
