-- Laws of the greatest intervals of the places that pass a test.
use Rattle.std.specs.Prelude.{◌≡◌, ℕ, zero, suc, ◌+◌, ◌<◌, ◌≤◌, Bool, true, false, List, [], ◌∷◌, Some, slice_get, ◌⊎◌}
use Rattle.std.proofs.Common.{refl, ap, sym, subst, ◌∙◌, ⊎_elim, eqb, arith}
use Rattle.std.proofs.lemmas.Bool.{cases_lt, cases_order, cond_both, cond-true, cond-false, eqb-true, eqb-false, eq-eqb}
use Rattle.std.proofs.lemmas.Option.{none-some, same_Some}
use Rattle.fp_tech.specs.Rows.{Run, joined, runs}

-- A run of at least one place lies among so many places from `at` on, and each of its places passes.
pub record IsRun (passes : ℕ → Bool) (at n : ℕ) (run : Run) : Type 0 where
  pub from : at ≤ run.start
  pub some : 1 ≤ run.count
  pub to : run.start + run.count ≤ at + n
  pub passing : (x : ℕ) → run.start ≤ x → x < run.start + run.count → passes x ≡ true

record AreRuns (passes : ℕ → Bool) (at n : ℕ) (list : List Run) : Type 0 where
  each : (k : ℕ) (run : Run) → slice_get list k ≡ Some run → IsRun passes at n run

-- One of the runs has this place.
pub record HasRun (x : ℕ) (list : List Run) : Type 0 where
  pub number : ℕ
  pub run : Run
  pub at : slice_get list number ≡ Some run
  pub from : run.start ≤ x
  pub to : x < run.start + run.count

-- The runs stand in order from a place on, with a place between each and the next.
data InOrder : ℕ → List Run → Type 0 where
  none : {low : ℕ} → InOrder low []
  one : {low : ℕ} {run : Run} {rest : List Run} → low ≤ run.start → 1 ≤ run.count → InOrder (run.start + run.count + 1) rest → InOrder low (run ∷ rest)

from_lower : {low high : ℕ} {list : List Run} → low ≤ high → InOrder high list → InOrder low list
from_lower less none = none
from_lower less (one from some behind) = one (omega (arith, from, less)) some behind

-- A place in front of runs lengthens the first of them or is a run of its own.
abbrev longer : ℕ → Run → List Run → List Run
longer at run rest = record { start = at; count = run.count + 1 } ∷ rest

abbrev apart : ℕ → Run → List Run → List Run
apart at run rest = record { start = at; count = 1 } ∷ run ∷ rest

joined_as : (P : List Run → Type 0) (at : ℕ) (run : Run) (rest : List Run) → (run.start ≡ at + 1 → P (longer at run rest))
    → ((run.start ≡ at + 1 → ⊥) → P (apart at run rest)) → P (joined at (run ∷ rest))
unfolding joined
joined_as P at run rest touching behind = cond_both (eqb run.start (at + 1)) (longer at run rest) (apart at run rest) P
    (λ same. touching (eqb-true run.start (at + 1) same)) (λ other. behind (eqb-false run.start (at + 1) other))

joined_in_order : (at : ℕ) (list : List Run) → InOrder (at + 1) list → InOrder at (joined at list)
unfolding joined
joined_in_order at [] none = one (omega arith) (omega arith) none
joined_in_order at (run ∷ rest) (one low some behind) = joined_as (InOrder at) at run rest
    (λ same. one (omega arith) (omega arith) (from_lower (omega (arith, same)) behind))
    (λ other. one (omega arith) (omega arith) (one (omega (arith, low, other)) some behind))

joined_has : (at : ℕ) (list : List Run) → HasRun at (joined at list)
unfolding joined
joined_has at [] = record { number = 0; run = record { start = at; count = 1 }; at = refl; from = omega arith; to = omega arith }
joined_has at (run ∷ rest) = joined_as (HasRun at) at run rest
    (λ _. record { number = 0; run = record { start = at; count = run.count + 1 }; at = refl; from = omega arith; to = omega arith })
    (λ _. record { number = 0; run = record { start = at; count = 1 }; at = refl; from = omega arith; to = omega arith })

joined_keeps : (at x : ℕ) (list : List Run) → HasRun x list → HasRun x (joined at list)
joined_keeps at x [] has = absurd (none-some has.run has.at)
joined_keeps at x (run ∷ rest) has = joined_as (HasRun x) at run rest (λ same. in_longer same has.number has.run has.at has.from has.to)
    (λ _. record { number = suc has.number; run = has.run; at = has.at; from = has.from; to = has.to })
  where
    in_longer : run.start ≡ at + 1 → (k : ℕ) (found : Run) → slice_get (run ∷ rest) k ≡ Some found → found.start ≤ x → x < found.start + found.count
        → HasRun x (longer at run rest)
    in_longer same zero found is from to =
        let first : run ≡ found = same_Some run found is in
        record {
          number = 0;
          run = record { start = at; count = run.count + 1 };
          at = refl;
          from = omega (arith, same, from, ap (λ (r : Run). r.start) first);
          to = omega (arith, same, to, ap (λ (r : Run). r.start) first, ap (λ (r : Run). r.count) first);
        }
    in_longer same (suc k) found is from to = record { number = suc k; run = found; at = is; from = from; to = to }

wider : (passes : ℕ → Bool) (at n : ℕ) (run : Run) → IsRun passes (at + 1) n run → IsRun passes at (suc n) run
wider passes at n run is = record { from = omega (arith, is.from); some = is.some; to = omega (arith, is.to); passing = is.passing }

begun : (passes : ℕ → Bool) (at n count : ℕ) → passes at ≡ true → count ≤ n → ((x : ℕ) → at + 1 ≤ x → x < at + 1 + count → passes x ≡ true)
    → IsRun passes at (suc n) (record { start = at; count = count + 1 })
begun passes at n count here few behind = record {
  from = omega arith;
  some = omega arith;
  to = omega (arith, few);
  passing = λ x from to. ⊎_elim
      (λ (first : x ≡ at). ap passes first ∙ here)
      (λ (other : (x < at) ⊎ (at < x)). ⊎_elim (λ (less : x < at). absurd (omega (arith, less, from))) (λ (more : at < x). behind x (omega (arith, more)) (omega (arith, to))) other)
      (cases_order x at);
}

joined_are : (passes : ℕ → Bool) (at n : ℕ) (list : List Run) → passes at ≡ true → AreRuns passes (at + 1) n list → AreRuns passes at (suc n) (joined at list)
unfolding joined
joined_are passes at n [] here are = record { each = only }
  where
    only : (k : ℕ) (run : Run) → slice_get (record { start = at; count = 1 } ∷ []) k ≡ Some run → IsRun passes at (suc n) run
    only zero run is = subst (λ r. IsRun passes at (suc n) r) (same_Some (record { start = at; count = 1 }) run is)
        (begun passes at n 0 here (omega arith) (λ x from to. absurd (omega (arith, from, to))))
    only (suc k) run is = absurd (none-some run is)
joined_are passes at n (run ∷ rest) here are = joined_as (AreRuns passes at (suc n)) at run rest (λ same. record { each = of_longer same }) (λ _. record { each = of_apart })
  where
    head : IsRun passes (at + 1) n run
    head = are.each 0 run refl

    of_longer : run.start ≡ at + 1 → (k : ℕ) (found : Run) → slice_get (longer at run rest) k ≡ Some found → IsRun passes at (suc n) found
    of_longer same zero found is = subst (λ r. IsRun passes at (suc n) r) (same_Some (record { start = at; count = run.count + 1 }) found is)
        (begun passes at n run.count here (omega (arith, same, head.to)) (λ x from to. head.passing x (omega (arith, same, from)) (omega (arith, same, to))))
    of_longer same (suc k) found is = wider passes at n found (are.each (suc k) found is)

    of_apart : (k : ℕ) (found : Run) → slice_get (apart at run rest) k ≡ Some found → IsRun passes at (suc n) found
    of_apart zero found is = subst (λ r. IsRun passes at (suc n) r) (same_Some (record { start = at; count = 1 }) found is)
        (begun passes at n 0 here (omega arith) (λ x from to. absurd (omega (arith, from, to))))
    of_apart (suc k) found is = wider passes at n found (are.each k found is)

runs_in_order : (passes : ℕ → Bool) (at n : ℕ) → InOrder at (runs passes at n)
unfolding runs
runs_in_order passes at zero = none
runs_in_order passes at (suc n) = cond_both (passes at) (joined at (runs passes (at + 1) n)) (runs passes (at + 1) n) (InOrder at)
    (λ _. joined_in_order at (runs passes (at + 1) n) (runs_in_order passes (at + 1) n))
    (λ _. from_lower (omega arith) (runs_in_order passes (at + 1) n))

runs_are : (passes : ℕ → Bool) (at n : ℕ) → AreRuns passes at n (runs passes at n)
unfolding runs
runs_are passes at zero = record { each = λ _ run is. absurd (none-some run is) }
runs_are passes at (suc n) = cond_both (passes at) (joined at (runs passes (at + 1) n)) (runs passes (at + 1) n) (AreRuns passes at (suc n))
    (λ passing. joined_are passes at n (runs passes (at + 1) n) passing (runs_are passes (at + 1) n))
    (λ _. record { each = λ k run is. wider passes at n run ((runs_are passes (at + 1) n).each k run is) })

-- Each run lies among the places, has at least one, and its places pass.
pub run_is : (passes : ℕ → Bool) (at n k : ℕ) (run : Run) → slice_get (runs passes at n) k ≡ Some run → IsRun passes at n run
run_is passes at n = (runs_are passes at n).each

-- Each place that passes lies in a run.
pub run_with : (passes : ℕ → Bool) (at n x : ℕ) → at ≤ x → x < at + n → passes x ≡ true → HasRun x (runs passes at n)
unfolding runs
run_with passes at zero x from to passing = absurd (omega (arith, from, to))
run_with passes at (suc n) x from to passing = ⊎_elim
    (λ (behind : at < x). let later : HasRun x (runs passes (at + 1) n) = run_with passes (at + 1) n x (omega (arith, behind)) (omega (arith, to)) passing in
    cond_both (passes at) (joined at (runs passes (at + 1) n)) (runs passes (at + 1) n) (HasRun x) (λ _. joined_keeps at x (runs passes (at + 1) n) later) (λ _. later))
    (λ (not_behind : x ≤ at). let first : at ≡ x = omega (arith, from, not_behind) in
    subst (HasRun x) (sym (cond-true (passes at) (joined at (runs passes (at + 1) n)) (runs passes (at + 1) n) (ap passes first ∙ passing)))
    (subst (λ place. HasRun place (joined at (runs passes (at + 1) n))) first (joined_has at (runs passes (at + 1) n))))
    (cases_lt at x)

-- A later run starts past the end of an earlier one, with a place between them.
pub runs_rise : (passes : ℕ → Bool) (at n j k : ℕ) (a b : Run) → j < k → slice_get (runs passes at n) j ≡ Some a → slice_get (runs passes at n) k ≡ Some b
    → a.start + a.count < b.start
runs_rise passes at n j k a b less is_a is_b = rise (runs_in_order passes at n) j k less is_a is_b
  where
    from_low : {low : ℕ} {list : List Run} → InOrder low list → (k : ℕ) → slice_get list k ≡ Some b → low ≤ b.start
    from_low none k is = absurd (none-some b is)
    from_low (one {run = run} from some behind) zero is = omega (arith, from, ap (λ (r : Run). r.start) (same_Some run b is))
    from_low (one {run = run} from some behind) (suc k) is = let past : run.start + run.count + 1 ≤ b.start = from_low behind k is in omega (arith, from, past)

    rise : {low : ℕ} {list : List Run} → InOrder low list → (j k : ℕ) → j < k → slice_get list j ≡ Some a → slice_get list k ≡ Some b → a.start + a.count < b.start
    rise none j k less is_a is_b = absurd (none-some a is_a)
    rise (one from some behind) j zero less is_a is_b = absurd (omega (arith, less))
    rise (one {run = run} from some behind) zero (suc k) less is_a is_b =
        let past : run.start + run.count + 1 ≤ b.start = from_low behind k is_b in
        let first : run ≡ a = same_Some run a is_a in
        omega (arith, past, ap (λ (r : Run). r.start) first, ap (λ (r : Run). r.count) first)
    rise (one from some behind) (suc j) (suc k) less is_a is_b = rise behind j k (omega (arith, less)) is_a is_b

-- Two tests that agree on the places have the same runs.
pub runs_same : (p q : ℕ → Bool) (at n : ℕ) → ((x : ℕ) → at ≤ x → x < at + n → p x ≡ q x) → runs p at n ≡ runs q at n
unfolding runs
runs_same p q at zero agree = refl
runs_same p q at (suc n) agree =
    let here : p at ≡ q at = agree at (omega arith) (omega arith) in
    let rest : runs p (at + 1) n ≡ runs q (at + 1) n = runs_same p q (at + 1) n (λ x from to. agree x (omega (arith, from)) (omega (arith, to))) in
    cc

-- Where no place passes there is no run.
pub runs_none : (passes : ℕ → Bool) (at n : ℕ) → ((x : ℕ) → at ≤ x → x < at + n → passes x ≡ false) → runs passes at n ≡ []
unfolding runs
runs_none passes at zero fails = refl
runs_none passes at (suc n) fails =
    cond-false (passes at) (joined at (runs passes (at + 1) n)) (runs passes (at + 1) n) (fails at (omega arith) (omega arith))
    ∙ runs_none passes (at + 1) n (λ x from to. fails x (omega (arith, from)) (omega (arith, to)))

-- Where each place passes they are one run.
pub runs_whole : (passes : ℕ → Bool) (at n : ℕ) → 1 ≤ n → ((x : ℕ) → at ≤ x → x < at + n → passes x ≡ true)
    → runs passes at n ≡ record { start = at; count = n } ∷ []
unfolding runs joined
runs_whole passes at zero some passing = absurd (omega (arith, some))
runs_whole passes at (suc zero) some passing = cond-true (passes at) (record { start = at; count = 1 } ∷ []) [] (passing at (omega arith) (omega arith))
runs_whole passes at (suc (suc n)) some passing =
    cond-true (passes at) (joined at (runs passes (at + 1) (suc n))) (runs passes (at + 1) (suc n)) (passing at (omega arith) (omega arith))
    ∙ ap (joined at) (runs_whole passes (at + 1) (suc n) (omega arith) (λ x from to. passing x (omega (arith, from)) (omega (arith, to))))
    ∙ cond-true (eqb (at + 1) (at + 1)) (record { start = at; count = suc n + 1 } ∷ []) (record { start = at; count = 1 } ∷ record { start = at + 1; count = suc n } ∷ []) (eq-eqb (at + 1) (at + 1) refl)
    ∙ ap (λ count. record { start = at; count = count } ∷ []) (let more : suc n + 1 ≡ suc (suc n) = omega arith in more)
