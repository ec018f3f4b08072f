use Rattle.std.proofs.Common.{◌≤◌}
use Rattle.fp_coarse.specs.Rooms.{AreShut}
use Rattle.fp_coarse.proofs.rooms.Rooms.last_open.Given as goal

abbrev pub invariant-loop-low : goal.invariant-loop-low
invariant-loop-low l = (l.low ≤ l.below) × AreShut l.self.free.items l.width l.low l.below

abbrev pub decreases-loop-low : goal.decreases-loop-low
decreases-loop-low l = l.low
