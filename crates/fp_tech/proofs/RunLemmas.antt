-- How the first places of a range change the intervals of those that pass a test.
use Rattle.std.proofs.Common.{◌≡◌, ℕ, zero, suc, ◌+◌, ◌-◌, ◌<◌, ◌≤◌, Bool, true, false, List, [], ◌∷◌, if◌then◌else◌, refl, sym, ap, ◌∙◌, inl, inr, ◌⊎◌, arith}
use Rattle.std.specs.Prelude.{Some, slice_get}
use Rattle.std.proofs.lemmas.Bool.{cases_lt, eq-eqb, ne_eqb}
use Rattle.fp_tech.specs.Rows.{Run, joined, runs}
use Rattle.fp_tech.specs.RunsLaws.{run_is}

-- No interval begins before a place.
abbrev BeginFrom : ℕ → List Run → Type 0
BeginFrom at [] = Unit {0}
BeginFrom at (run ∷ runs) = at ≤ run.start

begin_from : (at : ℕ) (list : List Run) → ((run : Run) → slice_get list 0 ≡ Some run → at ≤ run.start) → BeginFrom at list
begin_from at [] first = tt
begin_from at (run ∷ runs) first = first run refl

runs_from : (f : ℕ → Bool) (at n : ℕ) → BeginFrom at (runs f at n)
runs_from f at n = begin_from at (runs f at n) (λ run first. (run_is f at n 0 run first).from)

-- A place that touches no interval is one of its own.
alone : (at : ℕ) (list : List Run) → BeginFrom (at + 2) list → joined at list ≡ record { start = at; count = 1 } ∷ list
unfolding joined
alone at [] from = refl
alone at (run ∷ runs) from = ap (λ b. if b then record { start = at; count = run.count + 1 } ∷ runs else record { start = at; count = 1 } ∷ run ∷ runs) (ne_eqb run.start (at + 1) (λ e. omega (arith, e, from)))

-- A place that touches an interval lengthens it.
touching : (at count : ℕ) (list : List Run) → joined at (record { start = at + 1; count = count } ∷ list) ≡ record { start = at; count = count + 1 } ∷ list
unfolding joined
touching at count list = ap (λ b. if b then record { start = at; count = count + 1 } ∷ list else record { start = at; count = 1 } ∷ record { start = at + 1; count = count } ∷ list) (eq-eqb (at + 1) (at + 1) refl)

-- These are the intervals from a place up to another.
abbrev pub between : (ℕ → Bool) → ℕ → ℕ → List Run
between f at end = runs f at (end - at)

-- There are none where the range is at its end.
pub none_left : (f : ℕ → Bool) (at end : ℕ) → end ≤ at → between f at end ≡ []
unfolding runs
none_left f at end past = let e : end - at ≡ 0 = omega arith in ap (runs f at) e

turn : (f : ℕ → Bool) (at end : ℕ) → at < end → (b : Bool) → f at ≡ b → between f at end ≡ (if b then joined at (between f (at + 1) end) else between f (at + 1) end)
unfolding runs
turn f at end less b is =
    let e : end - at ≡ suc (end - (at + 1)) = omega arith in
    ap (runs f at) e ∙ ap (λ passes. if passes then joined at (between f (at + 1) end) else between f (at + 1) end) is

-- Places that do not pass are left out.
passed_over : (f : ℕ → Bool) (k at to end : ℕ) → at + k ≡ to → ((x : ℕ) → at ≤ x → x < to → x < end → f x ≡ false) → between f at end ≡ between f to end
passed_over f zero at to end e none = let same : at ≡ to = omega (arith, e) in ap (λ a. between f a end) same
passed_over f (suc k) at to end e none = by (cases_lt at end) (passed_over f k (at + 1) to end (omega (arith, e)) (λ x from below within. none x (omega arith) below within))
  where
    by : (at < end) ⊎ (end ≤ at) → between f (at + 1) end ≡ between f to end → between f at end ≡ between f to end
    by (inl less) rest = turn f at end less false (none at (omega arith) (omega (arith, e)) less) ∙ rest
    by (inr past) rest = none_left f at end past ∙ sym (none_left f to end (omega (arith, e)))

pub covered : (f : ℕ → Bool) (at to end : ℕ) → at ≤ to → ((x : ℕ) → at ≤ x → x < to → x < end → f x ≡ false) → between f at end ≡ between f to end
covered f at to end le none = passed_over f (to - at) at to end (omega arith) none

-- Where the first place does not pass, no interval begins there.
untouched : (f : ℕ → Bool) (at end : ℕ) → (at < end → f at ≡ false) → BeginFrom (at + 1) (between f at end)
untouched f at end ends = by (cases_lt at end)
  where
    by : (at < end) ⊎ (end ≤ at) → BeginFrom (at + 1) (between f at end)
    by (inl less) = let e : between f at end ≡ between f (at + 1) end = turn f at end less false (ends less) in rw e (runs_from f (at + 1) (end - (at + 1)))
    by (inr past) = let e : between f at end ≡ [] = none_left f at end past in rw e tt

filled : (f : ℕ → Bool) (k at to end : ℕ) → at + suc k ≡ to → to ≤ end → ((x : ℕ) → at ≤ x → x < to → f x ≡ true) → (to < end → f to ≡ false)
    → between f at end ≡ record { start = at; count = to - at } ∷ between f to end
filled f zero at to end e within all ends =
    let next : at + 1 ≡ to = omega (arith, e) in
    let one : 1 ≡ to - at = omega (arith, e) in
    let apart : BeginFrom (at + 2) (between f to end) = last next in
    turn f at end (omega (arith, e)) true (all at (omega arith) (omega (arith, e)))
    ∙ ap (λ a. joined at (between f a end)) next
    ∙ alone at (between f to end) apart
    ∙ ap (λ count. record { start = at; count = count } ∷ between f to end) one
  where
    last : at + 1 ≡ to → BeginFrom (at + 2) (between f to end)
    last next = let e : to + 1 ≡ at + 2 = omega (arith, next) in rw (← e) (untouched f to end ends)
filled f (suc k) at to end e within all ends =
    let more : (to - (at + 1)) + 1 ≡ to - at = omega (arith, e) in
    turn f at end (omega (arith, e)) true (all at (omega arith) (omega (arith, e)))
    ∙ ap (joined at) (filled f k (at + 1) to end (omega (arith, e)) within (λ x from below. all x (omega arith) below) ends)
    ∙ touching at (to - (at + 1)) (between f to end)
    ∙ ap (λ count. record { start = at; count = count } ∷ between f to end) more

-- Places that all pass, up to one that does not, are an interval.
pub one_interval : (f : ℕ → Bool) (at to end : ℕ) → at < to → to ≤ end → ((x : ℕ) → at ≤ x → x < to → f x ≡ true) → (to < end → f to ≡ false)
    → between f at end ≡ record { start = at; count = to - at } ∷ between f to end
one_interval f at to end less within all ends = filled f (to - (at + 1)) at to end (omega arith) within all ends
