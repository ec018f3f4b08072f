use Rattle.std.proofs.Common.{◌≡◌, ℕ, ◌<◌, ◌/◌, length, get_or, pos, ◌≤ℤ◌, vec_len}
use Rattle.fp_coarse.proofs.rooms.bounds.Given as goal

abbrev pub invariant-loop-block : goal.invariant-loop-block
invariant-loop-block l =
    (vec_len l.most ≡ l.block) × ((number : ℕ) → number < length l.free → number / 64 < l.block → get_or l.free number (pos 0) ≤ℤ get_or l.most.items (number / 64) (pos 0))
