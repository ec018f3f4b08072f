use Rattle.std.proofs.Common.{◌-◌, ◌≤◌, ◌<◌, length, IsTrue}
use Rattle.fp_coarse.specs.Nearest.{IsBestOf}
use Rattle.fp_coarse.specs.Rooms.{has_free}
use Rattle.fp_coarse.proofs.nearest.above.Given as goal

abbrev pub invariant-loop-number : goal.invariant-loop-number
invariant-loop-number l = record {
  from : l.from ≤ l.number;
  within : l.number ≤ length l.segments;
  best : IsBestOf l.segments l.rooms.free.items l.aim l.from l.number l.best;
  open_is : l.number < length l.segments → IsTrue (has_free l.rooms.free.items l.aim.width l.number);
}

abbrev pub decreases-loop-number : goal.decreases-loop-number
decreases-loop-number l = length l.segments - l.number
