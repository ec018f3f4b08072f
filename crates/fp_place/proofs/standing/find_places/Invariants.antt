use Rattle.std.proofs.Common.{◌≡◌, ◌<◌, ℕ}
use Rattle.fp_place.specs.Drawing.{places_in}
use Rattle.fp_place.specs.Legal.{StandsOnce}
use Rattle.fp_place.proofs.standing.find_places.Given as goal

abbrev pub invariant-loop-cell : goal.invariant-loop-cell
invariant-loop-cell l =
    (l.places.items ≡ places_in l.drawn l.cell) × ((before : ℕ) → before < l.cell → StandsOnce l.drawn before)
