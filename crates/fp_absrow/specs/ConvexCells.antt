-- Cells of a row whose costs are convex, whatever the costs are: what an engine for any such cost may use, and what it gives.
use Rattle.std.specs.Prelude.{◌≡◌, ℕ, ◌^◌, ◌≤◌, ℤ, pos, neg_ℤ, ◌+ℤ◌, ◌-ℤ◌, ◌≤ℤ◌, List, All, get_or}
use Rattle.fp_rows.specs.Rows.{FeasibleBy, IsBestBy, AreDualsBy}
use Rattle.fp_rows.specs.Runs.{span, total_most}

-- a cell: its width, what it costs at each position, what that rises by from there to the next, and a bound of how much it rises or falls by
pub record ConvexCell : Type 0 where
  pub width : ℤ
  pub cost : ℤ → ℤ
  pub rise : ℤ → ℤ
  pub most : ℕ

abbrev pub width_of : ConvexCell → ℤ
width_of c = c.width

abbrev pub cost_of : ConvexCell → ℤ → ℤ
cost_of c = c.cost

abbrev pub rise_of : ConvexCell → ℤ → ℤ
rise_of c = c.rise

abbrev pub most_of : ConvexCell → ℕ
most_of c = c.most

-- stands for a cell that is not there
abbrev pub no_cell : ConvexCell
no_cell = record { width = pos 0; cost = λ x. pos 0; rise = λ x. pos 0; most = 0 }

abbrev pub cell_at : List ConvexCell → ℕ → ConvexCell
cell_at cells i = get_or cells i no_cell

-- ---- the laws of costs

-- the positions at which a cost is told
abbrev pub IsTold : ℤ → Type 0
IsTold x = (neg_ℤ (pos (2 ^ 33)) ≤ℤ x) × (x ≤ℤ pos (2 ^ 33))

pub record IsConvexCell (c : ConvexCell) : Type 0 where
  pub width_from : pos 1 ≤ℤ c.width
  pub width_to : c.width ≤ℤ pos (2 ^ 30)
  pub difference : (x : ℤ) → IsTold x → IsTold (x +ℤ pos 1) → c.rise x ≡ c.cost (x +ℤ pos 1) -ℤ c.cost x
  pub grows : (x : ℤ) → IsTold x → IsTold (x +ℤ pos 1) → c.rise x ≤ℤ c.rise (x +ℤ pos 1)
  pub low : (x : ℤ) → IsTold x → neg_ℤ (pos c.most) ≤ℤ c.rise x
  pub high : (x : ℤ) → IsTold x → c.rise x ≤ℤ pos c.most

pub record AreConvexCells (cells : List ConvexCell) : Type 0 where
  pub each : All IsConvexCell cells
  pub most : total_most most_of cells ≤ 2 ^ 57

-- a row from lo to hi that has room for the cells
pub record HasRoom (cells : List ConvexCell) (lo hi : ℤ) : Type 0 where
  pub start : pos 0 ≤ℤ lo
  pub ordered : lo ≤ℤ hi
  pub finish : hi ≤ℤ pos (2 ^ 31)
  pub room : span width_of cells ≤ℤ (hi -ℤ lo)

-- ---- what an engine gives

abbrev pub ConvexFeasible : List ConvexCell → ℤ → ℤ → List ℤ → Type 0
ConvexFeasible cells lo hi xs = FeasibleBy width_of lo hi cells xs

-- no feasible whole positions cost less
abbrev pub ConvexBest : List ConvexCell → ℤ → ℤ → List ℤ → Type 0
ConvexBest cells lo hi xs = IsBestBy width_of cost_of lo hi cells xs

abbrev pub ConvexDuals : List ConvexCell → ℤ → ℤ → List ℤ → List ℕ → Type 0
ConvexDuals cells lo hi xs duals = AreDualsBy width_of rise_of lo hi cells xs duals
