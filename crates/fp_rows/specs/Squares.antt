-- Cells whose cost is their weight times the square of their distance from a target.
use Rattle.std.specs.Prelude.{◌≡◌, ℕ, ◌^◌, ℤ, pos, neg_ℤ, ◌+ℤ◌, ◌-ℤ◌, ◌*ℤ◌, ◌≤ℤ◌, List, [], ◌∷◌, All, length}
use Rattle.fp_rows.specs.Rows.{FeasibleBy, total_by, IsBestBy, AreDualsBy}
use Rattle.fp_rows.specs.declared.RowCell.{RowCell}

abbrev pub width_of : RowCell → ℤ
width_of c = c.width

unfoldable pub squared_cost : RowCell → ℤ → ℤ
squared_cost c x = c.weight *ℤ ((x -ℤ c.target) *ℤ (x -ℤ c.target))

-- what the cost rises by from x to x + 1
unfoldable pub squared_rise : RowCell → ℤ → ℤ
squared_rise c x = c.weight *ℤ (pos 2 *ℤ (x -ℤ c.target) +ℤ pos 1)

abbrev pub total_width : List RowCell → ℤ
total_width [] = pos 0
total_width (c ∷ cs) = c.width +ℤ total_width cs

abbrev pub total_weight : List RowCell → ℤ
total_weight [] = pos 0
total_weight (c ∷ cs) = c.weight +ℤ total_weight cs

abbrev pub total_cost : List RowCell → List ℤ → ℤ
total_cost cells xs = total_by squared_cost cells xs

abbrev pub Feasible : List RowCell → ℤ → ℤ → List ℤ → Type 0
Feasible cells lo hi xs = FeasibleBy width_of lo hi cells xs

-- no feasible whole positions cost less
abbrev pub IsBest : List RowCell → ℤ → ℤ → List ℤ → Type 0
IsBest cells lo hi xs = IsBestBy width_of squared_cost lo hi cells xs

abbrev pub AreDuals : List RowCell → ℤ → ℤ → List ℤ → List ℕ → Type 0
AreDuals cells lo hi xs duals = AreDualsBy width_of squared_rise lo hi cells xs duals

-- ---- the ranges in which nothing overflows

pub record IsCell (c : RowCell) : Type 0 where
  pub width_from : pos 1 ≤ℤ c.width
  pub width_to : c.width ≤ℤ pos (2 ^ 30)
  pub weight_from : pos 1 ≤ℤ c.weight
  pub target_from : neg_ℤ (pos (2 ^ 32)) ≤ℤ c.target
  pub target_to : c.target ≤ℤ pos (2 ^ 32)

pub record AreCells (cells : List RowCell) : Type 0 where
  pub each : All IsCell cells
  pub weight : total_weight cells ≤ℤ pos (2 ^ 22)

-- the cells, and a row from lo to hi that has room for them
pub record IsRow (cells : List RowCell) (lo hi : ℤ) : Type 0 where
  pub each : AreCells cells
  pub start : pos 0 ≤ℤ lo
  pub ordered : lo ≤ℤ hi
  pub finish : hi ≤ℤ pos (2 ^ 31)
  pub room : total_width cells ≤ℤ (hi -ℤ lo)

abbrev pub IsPlace : ℤ → Type 0
IsPlace x = (pos 0 ≤ℤ x) × (x ≤ℤ pos (2 ^ 31))

-- a position for each cell, within the widest row
pub record ArePlaces (cells : List RowCell) (xs : List ℤ) : Type 0 where
  pub count : length xs ≡ length cells
  pub range : All IsPlace xs
