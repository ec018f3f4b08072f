-- Laws of the first number of least cost among those that pass.
use Rattle.std.specs.Prelude.{◌≡◌, ℕ, zero, suc, ◌<◌, ◌≤◌, Bool, false, ◌&&◌, nat_lt, IsTrue, Option, Some, None, MatchOption, ◌⊎◌}
use Rattle.std.proofs.Common.{refl, ap, sym, subst, ◌∙◌, ⊎_elim, arith}
use Rattle.std.proofs.lemmas.Bool.{and_parts, and_cases, cond_both, cases_order, false≢true, ltb-false, ltb-true}
use Rattle.fp_place.specs.Settled.{or_lower, first_least}

-- of the numbers below a bound that pass, a number has the least cost, and each lesser one has a greater cost
pub record IsFirstLeast (passes : ℕ → Bool) (cost : ℕ → ℕ) (bound number : ℕ) : Type 0 where
  pub in_range : number < bound
  pub passing : IsTrue (passes number)
  pub least : (other : ℕ) → other < bound → IsTrue (passes other) → cost number ≤ cost other
  pub first : (other : ℕ) → other < number → IsTrue (passes other) → cost number < cost other

-- no number below a bound passes
pub record NonePasses (passes : ℕ → Bool) (bound : ℕ) : Type 0 where
  pub fails : (number : ℕ) → number < bound → passes number ≡ false

-- the first least number is that, and where there is none, no number passes
pub first_least_is : (passes : ℕ → Bool) (cost : ℕ → ℕ) (bound : ℕ) → MatchOption (first_least passes cost bound) (NonePasses passes bound) (IsFirstLeast passes cost bound)
unfolding first_least
first_least_is passes cost zero = record { fails = λ number below. absurd (omega (arith, below)) }
first_least_is passes cost (suc number) = by (first_least passes cost number) (first_least_is passes cost number)
  where
    Meets : Option ℕ → Type 0
    Meets found = MatchOption found (NonePasses passes (suc number)) (IsFirstLeast passes cost (suc number))

    up_to : (P : ℕ → Type 0) → ((other : ℕ) → other < number → P other) → P number → (other : ℕ) → other < suc number → P other
    up_to P before here other below = ⊎_elim
        (λ (same : other ≡ number). subst P (sym same) here)
        (λ (apart : (other < number) ⊎ (number < other)). ⊎_elim (λ (less : other < number). before other less) (λ (more : number < other). absurd (omega (arith, more, below))) apart)
        (cases_order other number)

    first_one : NonePasses passes number → IsTrue (passes number) → IsFirstLeast passes cost (suc number) number
    first_one none passing = record {
      in_range = omega arith;
      passing = passing;
      least = up_to (λ other. IsTrue (passes other) → cost number ≤ cost other) (λ other below passes_too. absurd (false≢true (sym (none.fails other below) ∙ passes_too))) (λ _. omega arith);
      first = λ other below passes_too. absurd (false≢true (sym (none.fails other below) ∙ passes_too));
    }

    lower : (least : ℕ) → IsFirstLeast passes cost number least → IsTrue (passes number) → cost number < cost least → IsFirstLeast passes cost (suc number) number
    lower least is passing less = record {
      in_range = omega arith;
      passing = passing;
      least = up_to (λ other. IsTrue (passes other) → cost number ≤ cost other) (λ other below passes_too. omega (arith, less, is.least other below passes_too)) (λ _. omega arith);
      first = λ other below passes_too. omega (arith, less, is.least other below passes_too);
    }

    stays : (least : ℕ) → IsFirstLeast passes cost number least → (IsTrue (passes number) → cost least ≤ cost number) → IsFirstLeast passes cost (suc number) least
    stays least is here = record {
      in_range = omega (arith, is.in_range);
      passing = is.passing;
      least = up_to (λ other. IsTrue (passes other) → cost least ≤ cost other) is.least here;
      first = is.first;
    }

    not_lower : (least : ℕ) → (passes number && nat_lt (cost number) (cost least)) ≡ false → IsTrue (passes number) → cost least ≤ cost number
    not_lower least refused passing = ⊎_elim
        (λ (fails : passes number ≡ false). absurd (false≢true (sym fails ∙ passing)))
        (λ (more : nat_lt (cost number) (cost least) ≡ false). ltb-false (cost number) (cost least) more)
        (and_cases (passes number) (nat_lt (cost number) (cost least)) refused)

    by : (found : Option ℕ) → MatchOption found (NonePasses passes number) (IsFirstLeast passes cost number) → Meets (or_lower passes cost number found)
    by None none = cond_both (passes number) (Some number) None Meets (first_one none) (λ fails. record { fails = up_to (λ other. passes other ≡ false) none.fails fails })
    by (Some least) is = cond_both (passes number && nat_lt (cost number) (cost least)) (Some number) (Some least) Meets
        (λ both. let parts = and_parts (passes number) (nat_lt (cost number) (cost least)) both in lower least is parts.0 (ltb-true (cost number) (cost least) parts.1))
        (λ refused. stays least is (not_lower least refused))

-- one law for each answer
pub first_least_found : (passes : ℕ → Bool) (cost : ℕ → ℕ) (bound number : ℕ) → first_least passes cost bound ≡ Some number → IsFirstLeast passes cost bound number
first_least_found passes cost bound number found =
    subst (λ answer. MatchOption answer (NonePasses passes bound) (IsFirstLeast passes cost bound)) found (first_least_is passes cost bound)

pub first_least_none : (passes : ℕ → Bool) (cost : ℕ → ℕ) (bound : ℕ) → first_least passes cost bound ≡ None → NonePasses passes bound
first_least_none passes cost bound none =
    subst (λ answer. MatchOption answer (NonePasses passes bound) (IsFirstLeast passes cost bound)) none (first_least_is passes cost bound)

-- a number of which this holds is the first least one
pub first_least_some : (passes : ℕ → Bool) (cost : ℕ → ℕ) (bound best : ℕ) → IsFirstLeast passes cost bound best → first_least passes cost bound ≡ Some best
first_least_some passes cost bound best is = by (first_least passes cost bound) (first_least_is passes cost bound)
  where
    same : (other : ℕ) → IsFirstLeast passes cost bound other → other ≡ best
    same other that = ⊎_elim
        (λ (alike : other ≡ best). alike)
        (λ (apart : (other < best) ⊎ (best < other)). ⊎_elim
        (λ (less : other < best). absurd (omega (arith, is.first other less that.passing, that.least best is.in_range is.passing)))
        (λ (more : best < other). absurd (omega (arith, that.first best more is.passing, is.least other that.in_range that.passing))) apart)
        (cases_order other best)

    by : (found : Option ℕ) → MatchOption found (NonePasses passes bound) (IsFirstLeast passes cost bound) → found ≡ Some best
    by None none = absurd (false≢true (sym (none.fails best is.in_range) ∙ is.passing))
    by (Some other) that = ap Some (same other that)

pub none_least : (passes : ℕ → Bool) (cost : ℕ → ℕ) (bound : ℕ) → NonePasses passes bound → first_least passes cost bound ≡ None
none_least passes cost bound none = by (first_least passes cost bound) (first_least_is passes cost bound)
  where
    by : (found : Option ℕ) → MatchOption found (NonePasses passes bound) (IsFirstLeast passes cost bound) → found ≡ None
    by None _ = refl
    by (Some other) that = absurd (false≢true (sym (none.fails other that.in_range) ∙ that.passing))
