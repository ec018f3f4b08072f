-- The first fault, rule by rule.
use Rattle.std.proofs.Common.{◌≡◌, ℕ, ◌+◌, ◌<◌, ◌≤◌, List, refl, sym, subst, ◌⊎◌, inl, inr, arith, Option, Some, None, Result, Ok, Err, MatchResult, Bool, true, false, nat_le, if◌then◌else◌}
use Rattle.std.specs.Result.{IsErrAnd}
use Rattle.std.proofs.lemmas.Bool.{cases_lt, leb-true, leb-false}
use Rattle.fp_netlist.specs.Netlist.{Netlist}
use Rattle.fp_place.specs.declared.judge.Subject.{Subject}
use Rattle.fp_place.specs.declared.fault.Fault.{Fault}
use Rattle.fp_place.specs.declared.fault.Fault.TheVariants.{Memory, Breaks}
use Rattle.fp_place.specs.Places.{Place}
use Rattle.fp_place.specs.Drawing.{Drawing}
use Rattle.fp_place.specs.Breaks.{Rule, rule_number, subjects, subject_of, Holds, HoldsOfAll}
use Rattle.fp_place.specs.BreaksLaws.{same_rule, some_number}
use Rattle.fp_place.specs.FirstFaults.{IsFirst, FindsFirst, IsFaultOf, HoldBelow, IsFirstFault, earlier}

pub told : (count : ℕ) (holds : ℕ → Type 0) (rule : ℕ) (subject : ℕ → Subject) (number : ℕ) (fault : Fault) → fault ≡ Breaks rule (subject number) → number < count
    → (holds number → ⊥) → ((before : ℕ) → before < number → holds before) → IsFaultOf count holds rule subject fault
told count holds rule subject number fault e counted broken first =
    subst (IsFaultOf count holds rule subject) (sym e)
    (record { number = number; rule_is = refl; subject_is = refl; is_first = record { counted = counted; broken = broken; first = first } })

pub told_first : (count : ℕ) (holds : ℕ → Type 0) (rule : ℕ) (subject : ℕ → Subject) (number : ℕ) (fault : Fault) → fault ≡ Breaks rule (subject number)
    → IsFirst count holds number → IsFaultOf count holds rule subject fault
told_first count holds rule subject number fault e is = told count holds rule subject number fault e is.counted is.broken is.first

pub of_memory : (count : ℕ) (holds : ℕ → Type 0) (rule : ℕ) (subject : ℕ → Subject) (fault : Fault) → fault ≡ Memory → IsFaultOf count holds rule subject fault
of_memory count holds rule subject fault e = subst (IsFaultOf count holds rule subject) (sym e) tt

-- the first number that breaks a rule is that of a rule that holds alike
pub first_alike : (count : ℕ) (holds other : ℕ → Type 0) (number : ℕ) → ((n : ℕ) → n < count → holds n → other n) → ((n : ℕ) → n < count → other n → holds n)
    → IsFirst count holds number → IsFirst count other number
first_alike count holds other number to from is = record {
  counted = is.counted;
  broken = λ h. is.broken (from number is.counted h);
  first = λ before less. to before (omega (arith, less, is.counted)) (is.first before less);
}

pub fault_alike : (count : ℕ) (holds other : ℕ → Type 0) (rule : ℕ) (subject : ℕ → Subject) (fault : Fault) → ((n : ℕ) → n < count → holds n → other n)
    → ((n : ℕ) → n < count → other n → holds n) → IsFaultOf count holds rule subject fault → IsFaultOf count other rule subject fault
fault_alike count holds other rule subject Memory to from is = is
fault_alike count holds other rule subject (Breaks told_rule told_subject) to from is =
    record { number = is.number; rule_is = is.rule_is; subject_is = is.subject_is; is_first = first_alike count holds other is.number to from is.is_first }

-- the rules before it hold, so a rule's fault is the first
pub first_fault : (p : Netlist) (drawing : Drawing) (places : List Place) (rule : Rule) (fault : Fault) → HoldBelow p drawing places (rule_number rule)
    → IsFaultOf (subjects p rule) (Holds p drawing places rule) (rule_number rule) (subject_of rule) fault → IsFirstFault p drawing places fault
first_fault p drawing places rule Memory below is = tt
first_fault p drawing places rule (Breaks told_rule told_subject) below is =
    (rule, is.number, is.rule_is, is.subject_is, record { counted = is.is_first.counted; broken = is.is_first.broken; first = is.is_first.first; rules_before = below })

pub none_below : (p : Netlist) (drawing : Drawing) (places : List Place) → HoldBelow p drawing places 1
none_below p drawing places other less = absurd (omega (arith, less, some_number other))

pub one_more : (p : Netlist) (drawing : Drawing) (places : List Place) (rule : Rule) (next : ℕ) → next ≡ rule_number rule + 1 → HoldBelow p drawing places (rule_number rule)
    → HoldsOfAll p drawing places rule → HoldBelow p drawing places next
one_more p drawing places rule next e below holds other less = by (cases_lt (rule_number other) (rule_number rule))
  where
    by : (rule_number other < rule_number rule) ⊎ (rule_number rule ≤ rule_number other) → HoldsOfAll p drawing places other
    by (inl before) = below other before
    by (inr from) = subst (HoldsOfAll p drawing places) (same_rule rule other (omega (arith, from, less, e))) holds

-- the earlier of two finds is the first where both do not hold
pub first_of_both : (count : ℕ) (a b : ℕ → Type 0) (first second : Option ℕ) → FindsFirst count a first → FindsFirst count b second → FindsFirst count (λ n. a n × b n) (earlier first second)
first_of_both count a b None None all also = λ n less. (all n less, also n less)
first_of_both count a b None (Some number) all is = record {
  counted = is.counted;
  broken = λ h. is.broken h.1;
  first = λ before less. (all before (omega (arith, less, is.counted)), is.first before less);
}
first_of_both count a b (Some number) None is all = record {
  counted = is.counted;
  broken = λ h. is.broken h.0;
  first = λ before less. (is.first before less, all before (omega (arith, less, is.counted)));
}
first_of_both count a b (Some m) (Some n) is also = by (nat_le m n) refl
  where
    by : (c : Bool) → nat_le m n ≡ c → IsFirst count (λ k. a k × b k) (if c then m else n)
    by true e = record {
      counted = is.counted;
      broken = λ h. is.broken h.0;
      first = λ before less. (is.first before less, also.first before (omega (arith, less, leb-true m n e)));
    }
    by false e = record {
      counted = also.counted;
      broken = λ h. also.broken h.1;
      first = λ before less. (is.first before (omega (arith, less, leb-false m n e)), also.first before less);
    }

-- a fault that is handed on
pub handed : {T : Type 0} (r : Result T Fault) (P : T → Type 0) (Q : Fault → Type 0) (fault : Fault) → IsErrAnd r (λ f. f ≡ fault) → Q fault → MatchResult r P Q
handed (Ok value) P Q fault is q = absurd is
handed (Err f) P Q fault is q = subst Q (sym is) q
