-- The least duals of cells at their positions. Nothing here knows what kind of cell it is.
use Rattle.std.specs.Prelude.{ℕ, ℤ, pos, negsuc, ◌+ℤ◌, ◌-ℤ◌, List, [], ◌∷◌, max}

-- a number, or 0 in place of one below 0
unfoldable pub above : ℤ → ℕ
above (pos n) = n
above (negsuc n) = 0

-- the least dual before the cells, where those behind them may fall to 0
abbrev pub need : {Cell : Type 0} → (Cell → ℤ → ℤ) → List Cell → List ℤ → ℕ
need rise [] xs = 0
need rise (c ∷ cs) [] = 0
need rise (c ∷ cs) (x ∷ xs) = above (pos (need rise cs xs) +ℤ rise c (x -ℤ pos 1))

-- those before each cell, and behind the last
abbrev pub needs : {Cell : Type 0} → (Cell → ℤ → ℤ) → List Cell → List ℤ → List ℕ
needs rise [] xs = 0 ∷ []
needs rise (c ∷ cs) [] = 0 ∷ []
needs rise (c ∷ cs) (x ∷ xs) = need rise (c ∷ cs) (x ∷ xs) ∷ needs rise cs xs

abbrev pub first_dual : {Cell : Type 0} → (Cell → ℤ → ℤ) → ℕ → List Cell → List ℤ → ℕ
first_dual rise spare cells xs = max spare (need rise cells xs)

-- the least duals, where the one before the cells is no less than `spare`
abbrev pub least_duals : {Cell : Type 0} → (Cell → ℤ → ℤ) → ℕ → List Cell → List ℤ → List ℕ
least_duals rise spare [] xs = first_dual rise spare [] xs ∷ []
least_duals rise spare (c ∷ cs) [] = first_dual rise spare (c ∷ cs) [] ∷ []
least_duals rise spare (c ∷ cs) (x ∷ xs) =
    first_dual rise spare (c ∷ cs) (x ∷ xs) ∷ least_duals rise (above (pos spare -ℤ rise c x)) cs xs
