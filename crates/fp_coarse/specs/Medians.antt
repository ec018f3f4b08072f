-- The lower median of numbers, and the breakpoints of a cell's own length, which it is the least place of.
use Rattle.std.specs.Prelude.{ℕ, ◌*◌, ◌<◌, ◌≤◌, List, [], ◌∷◌, length, int_le, Contains, ℤ, pos, ◌-ℤ◌}
use Rattle.std.specs.List.{count_by}
use Rattle.fp_score.specs.Target.{Pull}

-- how many numbers are at most a bound
unfoldable pub at_most : List ℤ → ℤ → ℕ
at_most numbers bound = count_by (λ number. int_le number bound) numbers

-- a number is the lower median: at least half of them are at most it, and fewer than half are below it
pub record IsLowerMedian (numbers : List ℤ) (median : ℤ) : Type 0 where
  pub among : Contains numbers median
  pub half : length numbers ≤ 2 * at_most numbers median
  pub below : 2 * at_most numbers (median -ℤ pos 1) < length numbers

-- where the own length turns: where a connection's pin meets an end of its net's other pins
unfoldable pub breakpoints_of : List Pull → List ℤ
breakpoints_of [] = []
breakpoints_of (pull ∷ pulls) = (pull.low -ℤ pull.off) ∷ (pull.high -ℤ pull.off) ∷ breakpoints_of pulls
