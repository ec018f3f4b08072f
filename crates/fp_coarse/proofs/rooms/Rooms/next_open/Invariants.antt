use Rattle.std.proofs.Common.{◌≡◌, ℕ, ◌<◌, ◌≤◌, ◌-◌, false, length}
use Rattle.fp_coarse.specs.Rooms.{has_free}
use Rattle.fp_coarse.proofs.rooms.Rooms.next_open.Given as goal

abbrev pub invariant-loop-at : goal.invariant-loop-at
invariant-loop-at l =
    (l.from ≤ l.at) × ((number : ℕ) → l.from ≤ number → number < l.at → number < length l.self.free.items → has_free l.self.free.items l.width number ≡ false)

abbrev pub decreases-loop-at : goal.decreases-loop-at
decreases-loop-at l = length l.self.free.items - l.at
