use Rattle.std.proofs.Common.{◌≡◌, take}
use Rattle.fp_place.specs.Places.{dies_of}
use Rattle.fp_place.specs.Placed.{places_of}
use Rattle.fp_part.proofs.dies.dies_of.Given as goal

abbrev pub invariant-loop-cell : goal.invariant-loop-cell
invariant-loop-cell l = l.dies.items ≡ take l.cell (dies_of (places_of l.placement))
