-- Positions that the least duals show to be the best.
use Rattle.std.proofs.Common.{◌≡◌, ℕ, ◌<◌, ◌≤◌, ◌-◌, max, ℤ, pos, negsuc, neg_ℤ, ◌+ℤ◌, ◌-ℤ◌, ◌≤ℤ◌, ◌<ℤ◌, List, [], ◌∷◌, ◌++◌, length, arith, ap, refl}
use Rattle.std.proofs.lemmas.Int.{ints, by_lt_z}
use borrow.Author.Differences.{up, down}
use Rattle.fp_rows.specs.Rows.{FeasibleBy, ShownBy, AreDualsBy}
use Rattle.fp_rows.specs.Runs.{total, FirstsAtMostZero, LastsAtLeastZero, rises, packed, span}
use Rattle.fp_rows.specs.LeastDuals.{above, need, first_dual, least_duals}
use Rattle.fp_rows.specs.SumsLaws.{lasts_total}

pub above-is : (z : ℤ) → above z ≡ up z - down z
unfolding above
above-is (pos n) = omega arith
above-is (negsuc n) = omega arith

-- what the cost of a cell rises by up to its position and from there does not fall, and lies within `most` of 0
abbrev pub IsRise : {Cell : Type 0} → (Cell → ℤ → ℤ) → (Cell → ℕ) → Cell → ℤ → Type 0
IsRise rise most c x = (neg_ℤ (pos (most c)) ≤ℤ rise c (x -ℤ pos 1)) × (rise c (x -ℤ pos 1) ≤ℤ rise c x) × (rise c x ≤ℤ pos (most c))

abbrev pub AreRises : {Cell : Type 0} → (Cell → ℤ → ℤ) → (Cell → ℕ) → List Cell → List ℤ → Type 0
AreRises rise most [] xs = Unit {0}
AreRises rise most (c ∷ cs) [] = Unit {0}
AreRises rise most (c ∷ cs) (x ∷ xs) = IsRise rise most c x × AreRises rise most cs xs

-- Positions in order, of which each touches what is before it where the dual there is above 0; `spare` is what is left of the least
-- dual before the first cell.
abbrev pub Tight : {Cell : Type 0} → (Cell → ℤ) → (Cell → ℤ → ℤ) → ℤ → ℤ → ℕ → List Cell → List ℤ → Type 0
Tight width rise from to spare [] [] = (from ≤ℤ to) × (0 < first_dual rise spare [] [] → from ≡ to)
Tight width rise from to spare [] (x ∷ xs) = ⊥
Tight width rise from to spare (c ∷ cs) [] = ⊥
Tight width rise from to spare (c ∷ cs) (x ∷ xs) =
    (from ≤ℤ x) × (0 < first_dual rise spare (c ∷ cs) (x ∷ xs) → from ≡ x) × Tight width rise (x +ℤ width c) to (above (pos spare -ℤ rise c x)) cs xs

pub tight_is_feasible : {Cell : Type 0} (width : Cell → ℤ) (rise : Cell → ℤ → ℤ) (cells : List Cell) (xs : List ℤ) (from to : ℤ) (spare : ℕ) → Tight width rise from to spare cells xs → FeasibleBy width from to cells xs
tight_is_feasible width rise [] [] from to spare h = h.0
tight_is_feasible width rise [] (x ∷ xs) from to spare h = absurd h
tight_is_feasible width rise (c ∷ cs) [] from to spare h = absurd h
tight_is_feasible width rise (c ∷ cs) (x ∷ xs) from to spare h = (h.0, tight_is_feasible width rise cs xs (x +ℤ width c) to (above (pos spare -ℤ rise c x)) h.2)

falls : (spare needed : ℕ) (up_to from : ℤ) → up_to ≤ℤ from → (up_to ≤ℤ (pos (max spare (above (pos needed +ℤ up_to))) -ℤ pos (max (above (pos spare -ℤ from)) needed))) × ((pos (max spare (above (pos needed +ℤ up_to))) -ℤ pos (max (above (pos spare -ℤ from)) needed)) ≤ℤ from)
falls spare needed up_to from le =
    let e = above-is (pos needed +ℤ up_to) in
    let f = above-is (pos spare -ℤ from) in
    (omega (arith, ints), omega (arith, ints))

later_duals : {Cell : Type 0} → (Cell → ℤ → ℤ) → ℕ → List Cell → List ℤ → List ℕ
later_duals rise spare [] xs = []
later_duals rise spare (c ∷ cs) [] = []
later_duals rise spare (c ∷ cs) (x ∷ xs) = least_duals rise (above (pos spare -ℤ rise c x)) cs xs

least_duals-is : {Cell : Type 0} (rise : Cell → ℤ → ℤ) (cells : List Cell) (xs : List ℤ) (spare : ℕ) → least_duals rise spare cells xs ≡ first_dual rise spare cells xs ∷ later_duals rise spare cells xs
unfolding later_duals
least_duals-is rise [] xs spare = refl
least_duals-is rise (c ∷ cs) [] spare = refl
least_duals-is rise (c ∷ cs) (x ∷ xs) spare = refl

shown_by_least : {Cell : Type 0} (width : Cell → ℤ) (rise : Cell → ℤ → ℤ) (most : Cell → ℕ) (cells : List Cell) (xs : List ℤ) (from to : ℤ) (spare : ℕ) → AreRises rise most cells xs → Tight width rise from to spare cells xs → ShownBy width rise from to cells xs (first_dual rise spare cells xs) (later_duals rise spare cells xs)
unfolding later_duals
shown_by_least width rise most [] [] from to spare near h = h.1
shown_by_least width rise most [] (x ∷ xs) from to spare near h = absurd h
shown_by_least width rise most (c ∷ cs) [] from to spare near h = absurd h
shown_by_least width rise most (c ∷ cs) (x ∷ xs) from to spare near h =
    let spare2 = above (pos spare -ℤ rise c x) in
    let others = shown_by_least width rise most cs xs (x +ℤ width c) to spare2 near.1 h.2 in
    let falling = falls spare (need rise cs xs) (rise c (x -ℤ pos 1)) (rise c x) near.0.1 in
    rw (least_duals-is rise cs xs spare2) (h.1, falling, others)

pub tight_is_shown : {Cell : Type 0} (width : Cell → ℤ) (rise : Cell → ℤ → ℤ) (most : Cell → ℕ) (cells : List Cell) (xs : List ℤ) (from to : ℤ) → AreRises rise most cells xs → Tight width rise from to 0 cells xs → AreDualsBy width rise from to cells xs (least_duals rise 0 cells xs)
unfolding later_duals
tight_is_shown width rise most [] [] from to near h = (refl, refl, refl)
tight_is_shown width rise most [] (x ∷ xs) from to near h = absurd h
tight_is_shown width rise most (c ∷ cs) [] from to near h = absurd h
tight_is_shown width rise most (c ∷ cs) (x ∷ xs) from to near h =
    shown_by_least width rise most (c ∷ cs) (x ∷ xs) from to 0 near h

-- ---- cells that touch
pub need_before_run : {Cell : Type 0} (width : Cell → ℤ) (rise : Cell → ℤ → ℤ) (run others : List Cell) (xs : List ℤ) (x y before : ℤ) → x ≡ y +ℤ pos 1 → before ≤ℤ pos 0 → FirstsAtMostZero before (rises width rise y run) → need rise others xs ≡ 0 → (before +ℤ pos (need rise (run ++ others) (packed width x run ++ xs))) ≤ℤ pos 0
need_before_run width rise [] others xs x y before e le f none = omega (arith, ints)
need_before_run width rise (c ∷ cs) others xs x y before e le f none =
    let here : rise c (x -ℤ pos 1) ≡ rise c y = ap (rise c) (omega (arith, ints)) in
    let rest = need_before_run width rise cs others xs (x +ℤ width c) (y +ℤ width c) (before +ℤ rise c y) (omega (arith, ints)) f.0 f.1 none in
    let g = above-is (pos (need rise (cs ++ others) (packed width (x +ℤ width c) cs ++ xs)) +ℤ rise c (x -ℤ pos 1)) in
    omega (arith, ints)

-- what is left of a dual behind cells whose costs rise so
abbrev pub left_over : ℕ → List ℤ → ℕ
left_over spare [] = spare
left_over spare (r ∷ rs) = left_over (above (pos spare -ℤ r)) rs

left_over-le : (rs : List ℤ) (spare : ℕ) → LastsAtLeastZero (pos 0) rs → left_over spare rs ≤ above (pos spare -ℤ total rs)
left_over-le [] spare f = omega (arith, ints, above-is (pos spare -ℤ pos 0))
left_over-le (r ∷ rs) spare f =
    let others = lasts_total rs f.1 in
    let rest = left_over-le rs (above (pos spare -ℤ r)) f.1 in
    let e = above-is (pos spare -ℤ r) in
    let g = above-is (pos (above (pos spare -ℤ r)) -ℤ total rs) in
    let h = above-is (pos spare -ℤ (r +ℤ total rs)) in
    omega (arith, ints)

pub nothing_left : (rs : List ℤ) → LastsAtLeastZero (pos 0) rs → left_over 0 rs ≡ 0
nothing_left rs f =
    let whole = lasts_total rs f in
    let most = left_over-le rs 0 f in
    let e = above-is (pos 0 -ℤ total rs) in
    omega (arith, ints)

pub tight_run : {Cell : Type 0} (width : Cell → ℤ) (rise : Cell → ℤ → ℤ) (run others : List Cell) (xs : List ℤ) (x y to : ℤ) (spare : ℕ) → y ≡ x +ℤ span width run → Tight width rise y to (left_over spare (rises width rise x run)) others xs → Tight width rise x to spare (run ++ others) (packed width x run ++ xs)
tight_run width rise [] others xs x y to spare e h =
    let here : y ≡ x = omega (arith, ints) in
    rw (← here) h
tight_run width rise (c ∷ cs) others xs x y to spare e h =
    (omega (arith, ints), λ some. refl, tight_run width rise cs others xs (x +ℤ width c) y to (above (pos spare -ℤ rise c x)) (omega (arith, ints)) h)

-- ---- runs at levels between lo and top, which do not fall
pub tight_end : (lo top level hi from : ℤ) (spare : ℕ) → level ≤ℤ top → from ≡ level → hi ≡ top → (level <ℤ top → spare ≡ 0) → (from ≤ℤ hi) × (0 < max spare 0 → from ≡ hi)
tight_end lo top level hi from spare le here end left =
    by_lt_z level top
    (λ lt. let none = left lt in (omega (arith, ints), λ some. absurd (omega arith)))
    (λ ge. (omega (arith, ints), λ some. omega (arith, ints)))

-- the first cell of a run touches what is before it, or no dual is needed there
pub tight_gap : (lo top level next from at : ℤ) (spare needed : ℕ) → lo ≤ℤ level → next ≤ℤ top → level ≤ℤ next → from ≡ level +ℤ at → (level <ℤ top → spare ≡ 0) → (lo <ℤ next → needed ≡ 0) → 0 < max spare needed → from ≡ next +ℤ at
tight_gap lo top level next from at spare needed low high rising here left none some =
    by_lt_z level next
    (λ lt. let a = left (omega (arith, ints)) in let b = none (omega (arith, ints)) in absurd (omega arith))
    (λ ge. omega (arith, ints))

-- the first cell apart from the others of its run
pub tight_first : {Cell : Type 0} (width : Cell → ℤ) (rise : Cell → ℤ → ℤ) (run others : List Cell) (xs : List ℤ) (from x to : ℤ) (spare : ℕ) → 0 < length run → from ≤ℤ x → (0 < first_dual rise spare (run ++ others) (packed width x run ++ xs) → from ≡ x) → Tight width rise x to spare (run ++ others) (packed width x run ++ xs) → Tight width rise from to spare (run ++ others) (packed width x run ++ xs)
tight_first width rise [] others xs from x to spare some le touching h = absurd (omega arith)
tight_first width rise (c ∷ cs) others xs from x to spare some le touching h = (le, touching, h.2)
