use Rattle.std.proofs.Common.{length, ◌-◌, ◌≡◌, ◌≤◌, ◌<◌, ℕ, slice_index}
use Rattle.fp_text.specs.Words.{is_blank}
use Rattle.fp_text.proofs.cursor.run_end.Given as goal

abbrev pub invariant-loop-place : goal.invariant-loop-place
invariant-loop-place l = record {
  behind : l.from ≤ l.place;
  within : l.place ≤ length l.bytes;
  run : (k : ℕ) → l.from ≤ k → k < l.place → is_blank (slice_index l.bytes k) ≡ l.blank;
}

abbrev pub decreases-loop-place : goal.decreases-loop-place
decreases-loop-place l = length l.bytes - l.place
