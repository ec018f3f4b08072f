-- The first of least cost: it is that, and it is one number alone.
use Rattle.std.specs.Prelude.{◌≡◌, ℕ, ◌<◌, ◌≤◌, Bool, true, false, Option, Some, None, MatchOption, IsTrue, ◌⊎◌}
use Rattle.std.proofs.Common.{refl, sym, ap, ◌∙◌, arith, inl, inr}
use Rattle.std.proofs.lemmas.Bool.{cases_lt}
use Rattle.fp_place.specs.FirstLeast.{IsFirstLeast, NonePasses, first_least_is}
use Rattle.fp_place.specs.Settled.{first_least}
use Rattle.fp_coarse.specs.Nearest.{IsLeastOrNone}

passes_not : (passes : ℕ → Bool) (n : ℕ) → passes n ≡ false → IsTrue (passes n) → ⊥
passes_not passes n fails holds = let nothing : true ≡ false = sym holds ∙ fails in cc

-- the first of least cost is that
pub least_is : (passes : ℕ → Bool) (cost : ℕ → ℕ) (n : ℕ) → IsLeastOrNone passes cost 0 n (first_least passes cost n)
least_is passes cost n = by (first_least passes cost n) (first_least_is passes cost n)
  where
    by : (found : Option ℕ) → MatchOption found (NonePasses passes n) (IsFirstLeast passes cost n) → IsLeastOrNone passes cost 0 n found
    by None none = λ other low below. none.fails other below
    by (Some found) is = record {
      from = omega arith;
      below = is.in_range;
      passing = is.passing;
      least = λ other low below pass. is.least other below pass;
      first = λ other low below pass. is.first other below pass;
    }

-- and one alone
pub least_once : (passes : ℕ → Bool) (cost : ℕ → ℕ) (low high : ℕ) (a b : Option ℕ) → IsLeastOrNone passes cost low high a → IsLeastOrNone passes cost low high b → a ≡ b
least_once passes cost low high None None one two = refl
least_once passes cost low high None (Some b) one two = absurd (passes_not passes b (one b two.from two.below) two.passing)
least_once passes cost low high (Some a) None one two = absurd (passes_not passes a (two a one.from one.below) one.passing)
least_once passes cost low high (Some a) (Some b) one two = ap Some (by (cases_lt a b) (cases_lt b a))
  where
    by : (a < b) ⊎ (b ≤ a) → (b < a) ⊎ (a ≤ b) → a ≡ b
    by (inl less) rest = absurd (omega (arith, two.first a one.from less one.passing, one.least b two.from two.below two.passing))
    by (inr le) (inl less) = absurd (omega (arith, one.first b two.from less two.passing, two.least a one.from one.below one.passing))
    by (inr le) (inr other) = omega (arith, le, other)

-- by tests and costs that agree
pub least_alike : (passes tests : ℕ → Bool) (cost : ℕ → ℕ) (high : ℕ) (o : Option ℕ) → ((n : ℕ) → n < high → tests n ≡ passes n)
    → IsLeastOrNone passes cost 0 high o → IsLeastOrNone tests cost 0 high o
least_alike passes tests cost high None agree is = λ other low below. agree other below ∙ is other low below
least_alike passes tests cost high (Some found) agree is = record {
  from = is.from;
  below = is.below;
  passing = agree found is.below ∙ is.passing;
  least = λ other low below pass. is.least other low below (sym (agree other below) ∙ pass);
  first = λ other low below pass. is.first other low below (sym (agree other (omega (arith, below, is.below))) ∙ pass);
}
