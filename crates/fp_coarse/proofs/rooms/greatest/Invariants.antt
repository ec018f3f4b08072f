use Rattle.std.proofs.Common.{ℕ, ◌<◌, ◌≤◌, get_or, pos, ◌≤ℤ◌}
use Rattle.fp_coarse.proofs.rooms.greatest.Given as goal

abbrev pub invariant-loop-number : goal.invariant-loop-number
invariant-loop-number l = (other : ℕ) → l.from ≤ other → other < l.number → get_or l.free other (pos 0) ≤ℤ l.most
