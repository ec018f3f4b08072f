use Rattle.std.proofs.Common.{◌≡◌, ◌≤◌}
use Rattle.fp_place.specs.Cut.{cut_below}
use Rattle.fp_place.specs.Places.{dies_of}
use Rattle.fp_place.specs.Placed.{places_of}
use Rattle.faceplace.proofs.seed.cut_nets.Given as goal

abbrev pub invariant-loop-net : goal.invariant-loop-net
invariant-loop-net l = (l.count ≡ cut_below l.problem (dies_of (places_of l.placement)) l.net) × (l.count ≤ l.net)
