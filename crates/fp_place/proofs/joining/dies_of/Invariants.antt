use Rattle.std.proofs.Common.{◌≡◌, take}
use Rattle.fp_place.specs.Places.{dies_of}
use Rattle.fp_place.proofs.joining.dies_of.Given as goal

abbrev pub invariant-loop-place : goal.invariant-loop-place
invariant-loop-place l = l.dies.items ≡ dies_of (take l.place-index l.places)
