use Rattle.std.proofs.Common.{◌≡◌, ℕ, ◌-◌, ◌<◌, ◌≤◌, false, length, IsTrue}
use Rattle.fp_coarse.specs.Nearest.{at, is_behind}
use Rattle.fp_coarse.proofs.nearest.first_behind.Given as goal

abbrev pub invariant-loop-low : goal.invariant-loop-low
invariant-loop-low l = record {
  order : l.low ≤ l.high;
  within : l.high ≤ length l.segments;
  before : (number : ℕ) → number < l.low → is_behind l.place (at l.segments number) ≡ false;
  behind : (number : ℕ) → l.high ≤ number → number < length l.segments → IsTrue (is_behind l.place (at l.segments number));
}

abbrev pub decreases-loop-low : goal.decreases-loop-low
decreases-loop-low l = l.high - l.low
