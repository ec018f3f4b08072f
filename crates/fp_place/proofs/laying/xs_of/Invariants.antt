use Rattle.std.proofs.Common.{◌≡◌, take, map}
use Rattle.fp_place.specs.Places.{Place}
use Rattle.fp_place.proofs.laying.xs_of.Given as goal

abbrev pub invariant-loop-place : goal.invariant-loop-place
invariant-loop-place l = l.xs.items ≡ map (λ (place : Place). place.x) (take l.place-index l.places)
