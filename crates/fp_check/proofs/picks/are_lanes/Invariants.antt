use Rattle.std.proofs.Common.{◌≡◌, ℕ, ◌<◌, slice_get}
use Rattle.fp_place.specs.Placed.{lanes_of}
use Rattle.fp_check.proofs.picks.are_lanes.Given as goal

abbrev pub invariant-loop-segment : goal.invariant-loop-segment
invariant-loop-segment g l = (k : ℕ) → k < l.segment → slice_get l.lanes k ≡ slice_get (lanes_of l.placement g.S.Side.DIE) k
