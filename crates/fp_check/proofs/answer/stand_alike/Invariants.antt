use Rattle.std.proofs.Common.{◌≡◌, ℕ, ◌<◌}
use Rattle.fp_place.specs.Placed.{place_of, spot_at}
use Rattle.fp_check.proofs.answer.stand_alike.Given as goal

abbrev pub invariant-loop-number : goal.invariant-loop-number
invariant-loop-number l = (cell : ℕ) → cell < l.number → place_of (spot_at l.first.spots cell) ≡ place_of (spot_at l.second.spots cell)
