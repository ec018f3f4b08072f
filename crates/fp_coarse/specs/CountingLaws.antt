-- How often a number stands in a list.
use Rattle.std.specs.Prelude.{◌≡◌, ℕ, ◌+◌, ◌<◌, ◌≤◌, Bool, true, false, nat_eq, List, [], ◌∷◌, length, filter, get_or, ◌⊎◌}
use Rattle.std.specs.List.{sum_by, range_with_len}
use Rattle.std.proofs.Common.{zero, suc, refl, sym, ap, subst, ◌∙◌, arith, cond, inl, inr}
use Rattle.std.proofs.lemmas.Bool.{cases_eq, eq-eqb}
use Rattle.std.proofs.lemmas.Bool.Decides.{nat_tests}
use Rattle.std.proofs.lemmas.List.Sums.{sum_by-cons}
use Rattle.fp_score.specs.Pick.{Taken}

-- 1 where two numbers are the same
abbrev pub same : ℕ → ℕ → ℕ
same y z = cond (nat_eq z y) 1 0

abbrev pub count : ℕ → List ℕ → ℕ
count y xs = sum_by (same y) xs

pub same_itself : (y z : ℕ) → z ≡ y → same y z ≡ 1
same_itself y z e = ap (λ (b : Bool). cond b 1 0) (eq-eqb z y e)

pub same_other : (y z : ℕ) → (z ≡ y → ⊥) → same y z ≡ 0
same_other y z apart = ap (λ (b : Bool). cond b 1 0) (let test : nat_eq z y ≡ false = grind (arith, nat_tests) in test)

pub same_most : (y z : ℕ) → same y z ≤ 1
same_most y z = by (nat_eq z y)
  where
    by : (b : Bool) → cond b 1 0 ≤ 1
    by true = omega arith
    by false = omega arith

-- a number that stands at a place counts
pub counts_at : (y : ℕ) (xs : List ℕ) (r : ℕ) → r < length xs → get_or xs r 0 ≡ y → 1 ≤ count y xs
counts_at y [] r below e = absurd (omega (arith, below))
counts_at y (x ∷ xs) zero below e = omega (arith, sum_by-cons (same y) x xs, same_itself y x e)
counts_at y (x ∷ xs) (suc r) below e = omega (arith, sum_by-cons (same y) x xs, counts_at y xs r (omega (arith, below)) e)

-- and one that counts stands at a place
pub record StandsIn (y : ℕ) (xs : List ℕ) : Type 0 where
  pub rank : ℕ
  pub within : rank < length xs
  pub is : get_or xs rank 0 ≡ y

pub stands_in : (y : ℕ) (xs : List ℕ) → 1 ≤ count y xs → StandsIn y xs
stands_in y [] some = absurd (omega (arith, some))
stands_in y (x ∷ xs) some = by (cases_eq x y) (stands_in y xs)
  where
    by : (x ≡ y) ⊎ (x ≡ y → ⊥) → (1 ≤ count y xs → StandsIn y xs) → StandsIn y (x ∷ xs)
    by (inl e) rest = record { rank = 0; within = omega arith; is = e }
    by (inr apart) rest = let found = rest (omega (arith, some, sum_by-cons (same y) x xs, same_other y x apart)) in
        record { rank = suc found.rank; within = omega (arith, found.within); is = found.is }

-- at one place alone, where it counts at most once
pub one_place : (y : ℕ) (xs : List ℕ) (r s : ℕ) → count y xs ≤ 1 → r < length xs → s < length xs → get_or xs r 0 ≡ y → get_or xs s 0 ≡ y → r ≡ s
one_place y [] r s few one two a b = absurd (omega (arith, one))
one_place y (x ∷ xs) zero zero few one two a b = refl
one_place y (x ∷ xs) zero (suc s) few one two a b = absurd (omega (arith, few, sum_by-cons (same y) x xs, same_itself y x a, counts_at y xs s (omega (arith, two)) b))
one_place y (x ∷ xs) (suc r) zero few one two a b = absurd (omega (arith, few, sum_by-cons (same y) x xs, same_itself y x b, counts_at y xs r (omega (arith, one)) a))
one_place y (x ∷ xs) (suc r) (suc s) few one two a b =
    ap suc (one_place y xs r s (omega (arith, few, sum_by-cons (same y) x xs)) (omega (arith, one)) (omega (arith, two)) a b)

-- the numbers of a range that pass a test
pub before_range : (y from k : ℕ) (test : ℕ → Bool) → y < from → count y (filter test (range_with_len from k)) ≡ 0
before_range y from zero test below = refl
before_range y from (suc k) test below = by (test from) (before_range y (from + 1) k test (omega arith))
  where
    by : (b : Bool) → count y (filter test (range_with_len (from + 1) k)) ≡ 0 → count y (cond b (from ∷ filter test (range_with_len (from + 1) k)) (filter test (range_with_len (from + 1) k))) ≡ 0
    by true rest = omega (arith, rest, sum_by-cons (same y) from (filter test (range_with_len (from + 1) k)), same_other y from (λ e. omega (arith, e, below)))
    by false rest = rest

pub range_most : (y from k : ℕ) (test : ℕ → Bool) → count y (filter test (range_with_len from k)) ≤ 1
range_most y from zero test = omega arith
range_most y from (suc k) test = by (test from) (cases_eq from y) (range_most y (from + 1) k test)
  where
    by : (b : Bool) → (from ≡ y) ⊎ (from ≡ y → ⊥) → count y (filter test (range_with_len (from + 1) k)) ≤ 1
        → count y (cond b (from ∷ filter test (range_with_len (from + 1) k)) (filter test (range_with_len (from + 1) k))) ≤ 1
    by true (inl e) rest = omega (arith, sum_by-cons (same y) from (filter test (range_with_len (from + 1) k)), same_most y from, before_range y (from + 1) k test (omega (arith, e)))
    by true (inr apart) rest = omega (arith, rest, sum_by-cons (same y) from (filter test (range_with_len (from + 1) k)), same_other y from apart)
    by false e rest = rest

pub range_holds : (y from k : ℕ) (test : ℕ → Bool) → test y ≡ true → from ≤ y → y < from + k → 1 ≤ count y (filter test (range_with_len from k))
range_holds y from zero test passes low high = absurd (omega (arith, low, high))
range_holds y from (suc k) test passes low high = by (test from) refl (cases_eq from y) (λ above. range_holds y (from + 1) k test passes above (omega (arith, high)))
  where
    by : (b : Bool) → test from ≡ b → (from ≡ y) ⊎ (from ≡ y → ⊥) → (from + 1 ≤ y → 1 ≤ count y (filter test (range_with_len (from + 1) k)))
        → 1 ≤ count y (cond b (from ∷ filter test (range_with_len (from + 1) k)) (filter test (range_with_len (from + 1) k)))
    by true e (inl here) rest = omega (arith, sum_by-cons (same y) from (filter test (range_with_len (from + 1) k)), same_itself y from here)
    by true e (inr apart) rest = omega (arith, sum_by-cons (same y) from (filter test (range_with_len (from + 1) k)), rest (omega (arith, low, apart)))
    by false e (inl here) rest = absurd (let nothing : false ≡ true = sym e ∙ ap test here ∙ passes in cc)
    by false e (inr apart) rest = rest (omega (arith, low, apart))

pub record PassesIn (y from k : ℕ) (test : ℕ → Bool) : Type 0 where
  pub passes : test y ≡ true
  pub below : y < from + k

pub range_passes : (y from k : ℕ) (test : ℕ → Bool) → 1 ≤ count y (filter test (range_with_len from k)) → PassesIn y from k test
range_passes y from zero test some = absurd (omega (arith, some))
range_passes y from (suc k) test some = by (test from) refl (cases_eq from y) (range_passes y (from + 1) k test) some
  where
    further : PassesIn y (from + 1) k test → PassesIn y from (suc k) test
    further is = record { passes = is.passes; below = omega (arith, is.below) }

    by : (b : Bool) → test from ≡ b → (from ≡ y) ⊎ (from ≡ y → ⊥) → (1 ≤ count y (filter test (range_with_len (from + 1) k)) → PassesIn y (from + 1) k test)
        → 1 ≤ count y (cond b (from ∷ filter test (range_with_len (from + 1) k)) (filter test (range_with_len (from + 1) k))) → PassesIn y from (suc k) test
    by true e (inl here) rest some = record { passes = sym (ap test here) ∙ e; below = omega (arith, here) }
    by true e (inr apart) rest some = further (rest (omega (arith, some, sum_by-cons (same y) from (filter test (range_with_len (from + 1) k)), same_other y from apart)))
    by false e here rest some = further (rest some)

-- the segment that a cell took
unfoldable pub segment_of : List Taken → ℕ → ℕ
segment_of [] cell = 0
segment_of (t ∷ taken) cell = cond (nat_eq t.cell cell) t.segment (segment_of taken cell)

abbrev pub counts_on : ℕ → ℕ → Taken → ℕ
counts_on segment cell t = cond (nat_eq t.segment segment) (same cell t.cell) 0

abbrev pub counts_all : ℕ → Taken → ℕ
counts_all cell t = same cell t.cell

on_most : (segment cell : ℕ) (t : Taken) → counts_on segment cell t ≤ counts_all cell t
on_most segment cell t = by (nat_eq t.segment segment)
  where
    by : (b : Bool) → cond b (same cell t.cell) 0 ≤ same cell t.cell
    by true = omega arith
    by false = omega arith

pub sum_most : (segment cell : ℕ) (taken : List Taken) → sum_by (counts_on segment cell) taken ≤ sum_by (counts_all cell) taken
sum_most segment cell [] = omega arith
sum_most segment cell (t ∷ taken) =
    omega (arith, sum_most segment cell taken, on_most segment cell t, sum_by-cons (counts_on segment cell) t taken, sum_by-cons (counts_all cell) t taken)

first_here : (t : Taken) (taken : List Taken) (cell : ℕ) → t.cell ≡ cell → segment_of (t ∷ taken) cell ≡ t.segment
unfolding segment_of
first_here t taken cell e = ap (λ b. cond b t.segment (segment_of taken cell)) (eq-eqb t.cell cell e)

first_there : (t : Taken) (taken : List Taken) (cell : ℕ) → (t.cell ≡ cell → ⊥) → segment_of (t ∷ taken) cell ≡ segment_of taken cell
unfolding segment_of
first_there t taken cell apart = ap (λ b. cond b t.segment (segment_of taken cell)) (let test : nat_eq t.cell cell ≡ false = grind (arith, nat_tests) in test)

-- a cell that took a segment counts on it
pub counts_there : (cell : ℕ) (taken : List Taken) → 1 ≤ sum_by (counts_all cell) taken → 1 ≤ sum_by (counts_on (segment_of taken cell) cell) taken
counts_there cell [] some = absurd (omega (arith, some))
counts_there cell (t ∷ taken) some = by (cases_eq t.cell cell) (counts_there cell taken)
  where
    by : (t.cell ≡ cell) ⊎ (t.cell ≡ cell → ⊥) → (1 ≤ sum_by (counts_all cell) taken → 1 ≤ sum_by (counts_on (segment_of taken cell) cell) taken)
        → 1 ≤ sum_by (counts_on (segment_of (t ∷ taken) cell) cell) (t ∷ taken)
    by (inl here) rest =
        subst (λ s. 1 ≤ sum_by (counts_on s cell) (t ∷ taken)) (sym (first_here t taken cell here))
        (omega (arith, sum_by-cons (counts_on t.segment cell) t taken, ap (λ (b : Bool). cond b (same cell t.cell) 0) (eq-eqb t.segment t.segment refl), same_itself cell t.cell here))
    by (inr apart) rest =
        subst (λ s. 1 ≤ sum_by (counts_on s cell) (t ∷ taken)) (sym (first_there t taken cell apart))
        (omega (arith, sum_by-cons (counts_on (segment_of taken cell) cell) t taken, rest (omega (arith, some, sum_by-cons (counts_all cell) t taken, same_other cell t.cell apart))))

-- and on no other, where it took one alone
pub counts_once : (segment cell : ℕ) (taken : List Taken) → sum_by (counts_all cell) taken ≤ 1 → 1 ≤ sum_by (counts_on segment cell) taken → segment_of taken cell ≡ segment
counts_once segment cell [] few some = absurd (omega (arith, some))
counts_once segment cell (t ∷ taken) few some = by (cases_eq t.cell cell) (cases_eq t.segment segment) (counts_once segment cell taken)
  where
    by : (t.cell ≡ cell) ⊎ (t.cell ≡ cell → ⊥) → (t.segment ≡ segment) ⊎ (t.segment ≡ segment → ⊥)
        → (sum_by (counts_all cell) taken ≤ 1 → 1 ≤ sum_by (counts_on segment cell) taken → segment_of taken cell ≡ segment) → segment_of (t ∷ taken) cell ≡ segment
    by (inl here) (inl e) rest = first_here t taken cell here ∙ e
    by (inl here) (inr apart) rest =
        let none : counts_on segment cell t ≡ 0 = ap (λ (b : Bool). cond b (same cell t.cell) 0) (let test : nat_eq t.segment segment ≡ false = grind (arith, nat_tests) in test) in
        absurd (omega (arith, few, some, none, sum_by-cons (counts_all cell) t taken, sum_by-cons (counts_on segment cell) t taken, same_itself cell t.cell here, sum_most segment cell taken))
    by (inr apart) e rest =
        first_there t taken cell apart ∙ rest (omega (arith, few, sum_by-cons (counts_all cell) t taken))
        (omega (arith, some, sum_by-cons (counts_on segment cell) t taken, on_most segment cell t, same_other cell t.cell apart))
