use Rattle.std.proofs.Common.{◌≡◌, ℕ, ◌<◌}
use Rattle.fp_place.specs.Places.{place_at}
use Rattle.fp_place.specs.Placed.{places_of}
use Rattle.fp_score.specs.Pick.{point_at}
use Rattle.fp_score.specs.Score.{corner}
use Rattle.fp_check.proofs.start.aim_at_places.Given as goal

abbrev pub invariant-loop-number : goal.invariant-loop-number
invariant-loop-number l = (k : ℕ) → k < l.number → point_at l.targets k ≡ corner (place_at (places_of l.placement) k)
