use Rattle.std.proofs.Common.{◌<◌, ℕ}
use Rattle.fp_place.specs.Legal.{FitsItsDie}
use Rattle.fp_place.proofs.standing.check_heights.Given as goal

abbrev pub invariant-loop-cell : goal.invariant-loop-cell
invariant-loop-cell l = (before : ℕ) → before < l.cell → FitsItsDie l.problem l.places before
