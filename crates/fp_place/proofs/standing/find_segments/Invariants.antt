use Rattle.std.proofs.Common.{◌≡◌, ◌<◌, ℕ, length}
use Rattle.fp_place.specs.Standing.{IsInSegment}
use Rattle.fp_place.proofs.standing.find_segments.Given as goal

abbrev pub invariant-loop-cell : goal.invariant-loop-cell
invariant-loop-cell l =
    (length l.numbers.items ≡ l.cell) × ((before : ℕ) → before < l.cell → IsInSegment l.problem l.places l.numbers.items before)
