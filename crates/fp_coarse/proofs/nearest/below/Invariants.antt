use Rattle.std.proofs.Common.{◌-◌, ◌≤◌, ◌<◌, length, IsTrue}
use Rattle.fp_coarse.specs.Nearest.{IsBestOf}
use Rattle.fp_coarse.specs.Rooms.{has_free}
use Rattle.fp_coarse.proofs.nearest.below.Given as goal

abbrev pub invariant-loop-low : goal.invariant-loop-low
invariant-loop-low l = record {
  within : l.low ≤ l.from;
  best : IsBestOf l.segments l.rooms.free.items l.aim l.low (length l.segments) l.best;
  open_is : 0 < l.low → IsTrue (has_free l.rooms.free.items l.aim.width (l.low - 1));
}

abbrev pub decreases-loop-low : goal.decreases-loop-low
decreases-loop-low l = l.low
