-- Runs of cells that touch, by what their costs rise by. Nothing here knows what kind of cell it is.
use Rattle.std.specs.Prelude.{ℕ, ◌+◌, ℤ, pos, ◌+ℤ◌, ◌≤ℤ◌, List, [], ◌∷◌}

-- what a cost rises by does not fall with the position
abbrev pub Grows : {Cell : Type 0} → (Cell → ℤ → ℤ) → Cell → Type 0
Grows rise c = (x y : ℤ) → x ≤ℤ y → rise c x ≤ℤ rise c y

-- the widths of the cells, in all
abbrev pub span : {Cell : Type 0} → (Cell → ℤ) → List Cell → ℤ
span width [] = pos 0
span width (c ∷ cs) = width c +ℤ span width cs

-- the positions of cells that touch, the first at x
abbrev pub packed : {Cell : Type 0} → (Cell → ℤ) → ℤ → List Cell → List ℤ
packed width x [] = []
packed width x (c ∷ cs) = x ∷ packed width (x +ℤ width c) cs

-- what their costs rise by from there
abbrev pub rises : {Cell : Type 0} → (Cell → ℤ) → (Cell → ℤ → ℤ) → ℤ → List Cell → List ℤ
rises width rise x [] = []
rises width rise x (c ∷ cs) = rise c x ∷ rises width rise (x +ℤ width c) cs

abbrev pub total : List ℤ → ℤ
total [] = pos 0
total (r ∷ rs) = r +ℤ total rs

-- with `before` before them, no first few of the numbers sum to more than 0
abbrev pub FirstsAtMostZero : ℤ → List ℤ → Type 0
FirstsAtMostZero before [] = Unit {0}
FirstsAtMostZero before (r ∷ rs) = ((before +ℤ r) ≤ℤ pos 0) × FirstsAtMostZero (before +ℤ r) rs

-- with `after` behind them, no last few of the numbers sum to less than 0
abbrev pub LastsAtLeastZero : ℤ → List ℤ → Type 0
LastsAtLeastZero after [] = Unit {0}
LastsAtLeastZero after (r ∷ rs) = (pos 0 ≤ℤ ((r +ℤ total rs) +ℤ after)) × LastsAtLeastZero after rs

-- the most that the costs of the cells rise by, or fall by, from a position to the next, in all
abbrev pub total_most : {Cell : Type 0} → (Cell → ℕ) → List Cell → ℕ
total_most most [] = 0
total_most most (c ∷ cs) = most c + total_most most cs
