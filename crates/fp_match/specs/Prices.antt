-- Choices of a column for each row, their cost, and prices of columns.
use Rattle.std.specs.Prelude.{◌≡◌, ◌≢◌, ℕ, ◌+◌, ◌*◌, ◌^◌, ◌<◌, ◌≤◌, List, [], ◌∷◌, length, slice_index}

-- no two of the first n rows have one column
abbrev pub AreDistinctBelow : ℕ → List ℕ → Type 0
AreDistinctBelow n chosen = (i j : ℕ) → i < j → j < n → slice_index chosen i ≢ slice_index chosen j

-- some row has the column
abbrev pub IsUsed : List ℕ → ℕ → Type 0
IsUsed chosen s = (n : ℕ) × (n < length chosen) × (slice_index chosen n ≡ s)

-- the list gives each row a column of its own
pub record IsChoice (rows columns : ℕ) (chosen : List ℕ) : Type 0 where
  pub each_row : length chosen ≡ rows
  pub in_range : (n : ℕ) → n < length chosen → slice_index chosen n < columns
  pub distinct : AreDistinctBelow (length chosen) chosen

-- the cost of the columns of the rows from `row` on
abbrev pub cost_from : (ℕ → ℕ → ℕ) → ℕ → List ℕ → ℕ
cost_from cost row [] = 0
cost_from cost row (s ∷ rest) = cost row s + cost_from cost (row + 1) rest

abbrev pub total_cost : (ℕ → ℕ → ℕ) → List ℕ → ℕ
total_cost cost chosen = cost_from cost 0 chosen

-- no choice of distinct columns costs less
abbrev pub IsLeast : (ℕ → ℕ → ℕ) → ℕ → ℕ → List ℕ → Type 0
IsLeast cost rows columns chosen =
    (other : List ℕ) → IsChoice rows columns other → total_cost cost chosen ≤ total_cost cost other

-- with the prices added, no column costs row n less than column s
abbrev pub IsBest : (ℕ → ℕ → ℕ) → ℕ → List ℕ → ℕ → ℕ → Type 0
IsBest cost columns prices n s =
    (t : ℕ) → t < columns → cost n s + slice_index prices s ≤ cost n t + slice_index prices t

-- unused columns have price 0, and each row's column is its best
pub record ArePrices (cost : ℕ → ℕ → ℕ) (columns : ℕ) (chosen prices : List ℕ) : Type 0 where
  pub unused : (s : ℕ) → s < columns → ¬ (IsUsed chosen s) → slice_index prices s ≡ 0
  pub best : (n : ℕ) → n < length chosen → IsBest cost columns prices n (slice_index chosen n)

-- `second` is the least row whose column an earlier row has, and `first` is that row
pub record IsFirstClash (chosen : List ℕ) (first second : ℕ) : Type 0 where
  pub earlier : first < second
  pub row : second < length chosen
  pub same : slice_index chosen first ≡ slice_index chosen second
  pub least : AreDistinctBelow second chosen

-- how large a problem and a cost may be
pub record IsWithinLimits (rows columns : ℕ) (cost : ℕ → ℕ → ℕ) : Type 0 where
  pub most_rows : rows ≤ 2 ^ 18
  pub most_columns : columns ≤ 2 ^ 20
  pub most_cost : (n s : ℕ) → n < rows → s < columns → cost n s ≤ 2 ^ 36

-- at most the cost of each column of the stripe
abbrev pub IsFloor : (ℕ → ℕ) → ℕ → ℕ → ℕ → ℕ → Type 0
IsFloor cost columns width stripe floor =
    (s : ℕ) → stripe * width ≤ s → s < stripe * width + width → s < columns → floor ≤ cost s

-- the columns of the stripe outside the range cost at least the limit
pub record IsNear (cost : ℕ → ℕ) (columns width stripe limit start end : ℕ) : Type 0 where
  pub before : (s : ℕ) → stripe * width ≤ s → s < stripe * width + width → s < columns → s < start → limit ≤ cost s
  pub after : (s : ℕ) → stripe * width ≤ s → s < stripe * width + width → s < columns → end ≤ s → limit ≤ cost s

-- the columns of stripes outside the range cost at least the limit
pub record AreNearStripes (cost : ℕ → ℕ) (columns width limit start end : ℕ) : Type 0 where
  pub before : (s : ℕ) → s < columns → s < start * width → limit ≤ cost s
  pub after : (s : ℕ) → s < columns → end * width ≤ s → limit ≤ cost s

-- a choice among so many columns
pub record Chosen : Type 0 where
  pub columns : ℕ
  pub chosen : List ℕ

-- a matcher's room, and the choice and prices of its last `solve`
pub record Solution : Type 0 where
  pub row_room : ℕ
  pub column_room : ℕ
  pub chosen : List ℕ
  pub prices : List ℕ
