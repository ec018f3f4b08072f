-- A row: cells in a fixed order between two ends, each with a width and a convex cost by its position. Nothing here knows what kind of cell it is.
use Rattle.std.specs.Prelude.{◌≡◌, ℕ, ◌<◌, ℤ, pos, ◌+ℤ◌, ◌-ℤ◌, ◌≤ℤ◌, List, [], ◌∷◌}

-- whole positions from one end to the other, in the order of the cells and without overlap
abbrev pub FeasibleBy : {Cell : Type 0} → (Cell → ℤ) → ℤ → ℤ → List Cell → List ℤ → Type 0
FeasibleBy width from to [] [] = from ≤ℤ to
FeasibleBy width from to [] (x ∷ xs) = ⊥
FeasibleBy width from to (c ∷ cs) [] = ⊥
FeasibleBy width from to (c ∷ cs) (x ∷ xs) = (from ≤ℤ x) × FeasibleBy width (x +ℤ width c) to cs xs

-- the costs of the cells at their positions, in all
abbrev pub total_by : {Cell : Type 0} → (Cell → ℤ → ℤ) → List Cell → List ℤ → ℤ
total_by cost [] xs = pos 0
total_by cost (c ∷ cs) [] = pos 0
total_by cost (c ∷ cs) (x ∷ xs) = cost c x +ℤ total_by cost cs xs

-- feasible positions, and none that are feasible cost less
abbrev pub IsBestBy : {Cell : Type 0} → (Cell → ℤ) → (Cell → ℤ → ℤ) → ℤ → ℤ → List Cell → List ℤ → Type 0
IsBestBy width cost from to cells xs =
    FeasibleBy width from to cells xs × ((zs : List ℤ) → FeasibleBy width from to cells zs → total_by cost cells xs ≤ℤ total_by cost cells zs)

-- At the places from low to high, `rise c x` is what the cost of the cell rises by from x to x + 1, and it does not fall with x; the cell is not of
-- negative width.
pub record IsConvexOn {Cell : Type 0} (low high : ℤ) (width : Cell → ℤ) (cost rise : Cell → ℤ → ℤ) (c : Cell) : Type 0 where
  pub wide : pos 0 ≤ℤ width c
  pub step : (x : ℤ) → low ≤ℤ x → (x +ℤ pos 1) ≤ℤ high → cost c (x +ℤ pos 1) ≡ cost c x +ℤ rise c x
  pub grows : (x : ℤ) → low ≤ℤ x → (x +ℤ pos 1) ≤ℤ high → rise c x ≤ℤ rise c (x +ℤ pos 1)

-- over a cell the duals fall by no less than its cost's rise up to its position, and by no more than the rise from there
abbrev pub FallsBy : {Cell : Type 0} → (Cell → ℤ → ℤ) → Cell → ℤ → ℕ → ℕ → Type 0
FallsBy rise c x before after = (rise c (x -ℤ pos 1) ≤ℤ (pos before -ℤ pos after)) × ((pos before -ℤ pos after) ≤ℤ rise c x)

-- The first dual stands before the first cell, and one behind each cell. A dual is above 0 only where what is before it, the start of the
-- row or a cell's right end, touches what is behind it, a cell or the end of the row.
abbrev pub ShownBy : {Cell : Type 0} → (Cell → ℤ) → (Cell → ℤ → ℤ) → ℤ → ℤ → List Cell → List ℤ → ℕ → List ℕ → Type 0
ShownBy width rise from to [] [] before [] = 0 < before → from ≡ to
ShownBy width rise from to [] [] before (after ∷ afters) = ⊥
ShownBy width rise from to [] (x ∷ xs) before afters = ⊥
ShownBy width rise from to (c ∷ cs) [] before afters = ⊥
ShownBy width rise from to (c ∷ cs) (x ∷ xs) before [] = ⊥
ShownBy width rise from to (c ∷ cs) (x ∷ xs) before (after ∷ afters) =
    (0 < before → from ≡ x) × FallsBy rise c x before after × ShownBy width rise (x +ℤ width c) to cs xs after afters

-- one dual more than cells; a row without cells has the one dual 0
abbrev pub AreDualsBy : {Cell : Type 0} → (Cell → ℤ) → (Cell → ℤ → ℤ) → ℤ → ℤ → List Cell → List ℤ → List ℕ → Type 0
AreDualsBy width rise from to cells xs [] = ⊥
AreDualsBy width rise from to [] xs (dual ∷ duals) = (xs ≡ []) × (dual ≡ 0) × (duals ≡ [])
AreDualsBy width rise from to (c ∷ cs) xs (dual ∷ duals) = ShownBy width rise from to (c ∷ cs) xs dual duals
