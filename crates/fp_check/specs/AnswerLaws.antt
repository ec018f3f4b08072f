-- Laws of a run's answer: it is the last trial that is better, or the first, and no trial that placed its cells scores less.
use Rattle.std.specs.Prelude.{◌≡◌, ◌⊎◌, ℕ, zero, suc, ◌+◌, ◌-◌, ◌<◌, ◌≤◌, Bool, true, false, nat_lt, if◌then◌else◌, List, [], ◌∷◌, get_or, slice_get, Some}
use Rattle.std.proofs.Common.{refl, sym, ap, subst, ◌∙◌, inl, inr, arith}
use Rattle.std.proofs.lemmas.Bool.{cases_order}
use Rattle.std.proofs.lemmas.Bool.Decides.{nat_tests}
use Rattle.std.proofs.lemmas.Option.{same_Some, slice_get_within, slice_get-get_or, get_or_from_slice_get}
use Rattle.fp_cert.specs.declared.shown.Ending.{Ending}
use Rattle.fp_cert.specs.declared.shown.Ending.TheVariants as endings
use Rattle.fp_cert.specs.Endings.{has_rows}
use Rattle.fp_cert.specs.Shown.{ShownTrial, ShownRun}
use Rattle.fp_cert.specs.Trials.{compared, is_better, last_better, no_trial, answer_of}
use Rattle.fp_check.specs.Conditions.{OfNextPlaced, GoesOnFromStart}

-- ---- the last of trials that is better

-- a number is that of a trial that is better, of trials that are numbered from here on
record IsBetterAt (number : ℕ) (trials : List ShownTrial) (it : ℕ) : Type 0 where
  k : ℕ
  trial : ShownTrial
  number_is : it ≡ number + k
  at : slice_get trials k ≡ Some trial
  better : is_better trial.ending ≡ true

-- it is the last such number, or another one where there is none
record IsLastOf (number last : ℕ) (trials : List ShownTrial) (it : ℕ) : Type 0 where
  among : (it ≡ last) ⊎ IsBetterAt number trials it
  behind : (k : ℕ) (trial : ShownTrial) → slice_get trials k ≡ Some trial → it < number + k → is_better trial.ending ≡ false

later : (number : ℕ) (first : ShownTrial) (trials : List ShownTrial) (it : ℕ) → IsBetterAt (number + 1) trials it → IsBetterAt number (first ∷ trials) it
later number first trials it is = record { k = suc is.k; trial = is.trial; number_is = omega (arith, is.number_is); at = is.at; better = is.better }

last_is : (number last : ℕ) (trials : List ShownTrial) → IsLastOf number last trials (last_better number last trials)
unfolding last_better
last_is number last [] = record { among = inl refl; behind = λ k trial at less. absurd cc }
last_is number last (first ∷ trials) = by (is_better first.ending) refl (λ l. last_is (number + 1) l trials)
  where
    at_least : (it : ℕ) → (it ≡ number) ⊎ IsBetterAt (number + 1) trials it → number ≤ it
    at_least it (inl same) = omega (arith, same)
    at_least it (inr is) = omega (arith, is.number_is)

    here : (it : ℕ) → is_better first.ending ≡ true → (it ≡ number) ⊎ IsBetterAt (number + 1) trials it → IsBetterAt number (first ∷ trials) it
    here it is (inl same) = record { k = 0; trial = first; number_is = omega (arith, same); at = refl; better = is }
    here it is (inr rest) = later number first trials it rest

    beyond : (it : ℕ) → (it ≡ last) ⊎ IsBetterAt (number + 1) trials it → (it ≡ last) ⊎ IsBetterAt number (first ∷ trials) it
    beyond it (inl same) = inl same
    beyond it (inr rest) = inr (later number first trials it rest)

    behind : (l it : ℕ) → IsLastOf (number + 1) l trials it → (it < number → is_better first.ending ≡ false) → (k : ℕ) (trial : ShownTrial) → slice_get (first ∷ trials) k ≡ Some trial → it < number + k → is_better trial.ending ≡ false
    behind l it rest low zero trial at less =
        let same : first ≡ trial = same_Some first trial at in
        ap (λ (t : ShownTrial). is_better t.ending) (sym same) ∙ low (omega (arith, less))
    behind l it rest low (suc k) trial at less = rest.behind k trial at (omega (arith, less))

    by : (b : Bool) → is_better first.ending ≡ b → ((l : ℕ) → IsLastOf (number + 1) l trials (last_better (number + 1) l trials))
        → IsLastOf number last (first ∷ trials) (last_better (number + 1) (if b then number else last) trials)
    by true is rest =
        let it = last_better (number + 1) number trials in
        let found = rest number in
        record {
          among = inr (here it is found.among);
          behind = behind number it found (λ less. absurd (omega (arith, less, at_least it found.among)));
        }
    by false is rest =
        let it = last_better (number + 1) last trials in
        let found = rest last in
        record { among = beyond it found.among; behind = behind last it found (λ less. is) }

-- ---- endings

better_is : (ending : Ending) → is_better ending ≡ true → ending ≡ endings.Better
better_is endings.Start is = absurd (let no : false ≡ true = is in cc)
better_is endings.Better is = refl
better_is endings.NotBetter is = absurd (let no : false ≡ true = is in cc)
better_is (endings.NoRow cell) is = absurd (let no : false ≡ true = is in cc)

-- a score is below another one exactly where it is compared as better
compared_better : (score before : ℕ) → is_better (compared score before) ≡ true → score < before
compared_better score before = by (nat_lt score before) refl
  where
    by : (b : Bool) → nat_lt score before ≡ b → is_better (if b then endings.Better else endings.NotBetter) ≡ true → score < before
    by true less is = grind (arith, nat_tests)
    by false less is = absurd (let no : false ≡ true = is in cc)

compared_not_better : (score before : ℕ) → is_better (compared score before) ≡ false → before ≤ score
compared_not_better score before = by (nat_lt score before) refl
  where
    by : (b : Bool) → nat_lt score before ≡ b → is_better (if b then endings.Better else endings.NotBetter) ≡ false → before ≤ score
    by true less is = absurd (let no : true ≡ false = is in cc)
    by false less is = grind (arith, nat_tests)

-- ---- the answer of a run

-- the answer is a trial that placed its cells, the first one or one that is better, and none behind it is better
pub record IsAnswerAt (run : ShownRun) : Type 0 where
  pub trial : ShownTrial
  pub at : slice_get run.trials run.answer ≡ Some trial
  pub answers : answer_of run ≡ trial
  pub has : has_rows trial.ending ≡ true
  pub better : 1 ≤ run.answer → is_better trial.ending ≡ true
  pub behind : (number : ℕ) (other : ShownTrial) → run.answer < number → slice_get run.trials number ≡ Some other → is_better other.ending ≡ false

pub answer_at : (run : ShownRun) → GoesOnFromStart run → IsAnswerAt run
answer_at run goes = by last.among
  where
    last : IsLastOf 0 0 run.trials run.answer
    last = subst (IsLastOf 0 0 run.trials) (sym goes.going.answer_is) (last_is 0 0 run.trials)

    behind : (number : ℕ) (other : ShownTrial) → run.answer < number → slice_get run.trials number ≡ Some other → is_better other.ending ≡ false
    behind number other less at = last.behind number other at (omega (arith, less))

    by : (run.answer ≡ 0) ⊎ IsBetterAt 0 run.trials run.answer → IsAnswerAt run
    by (inl first) =
        let trial = get_or run.trials 0 no_trial in
        let at : slice_get run.trials run.answer ≡ Some trial = ap (slice_get run.trials) first ∙ slice_get-get_or run.trials 0 no_trial (omega (arith, goes.going.some)) in
        record {
          trial = trial;
          at = at;
          answers = get_or_from_slice_get run.trials run.answer trial no_trial at;
          has = ap has_rows ((goes.starts run.answer trial at).1 first);
          better = λ some. absurd (omega (arith, some, first));
          behind = behind;
        }
    by (inr is) =
        let number : is.k ≡ run.answer = omega (arith, is.number_is) in
        let at : slice_get run.trials run.answer ≡ Some is.trial = ap (slice_get run.trials) (sym number) ∙ is.at in
        record {
          trial = is.trial;
          at = at;
          answers = get_or_from_slice_get run.trials run.answer is.trial no_trial at;
          has = ap has_rows (better_is is.trial.ending is.better);
          better = λ some. is.better;
          behind = behind;
        }

-- ---- the least score

-- a run that goes on, whose trials are better where they score less than their bases
module _ (run : ShownRun) (goes : GoesOnFromStart run) (right : OfNextPlaced run (λ base trial. trial.ending ≡ compared trial.score base.score)) where
  -- up to the answer each trial behind the first is better
  better_up : (number : ℕ) (trial : ShownTrial) → 1 ≤ number → number ≤ run.answer → slice_get run.trials number ≡ Some trial → is_better trial.ending ≡ true
  better_up number trial some up at = by (cases_order number run.answer)
    where
      answer : IsAnswerAt run
      answer = answer_at run goes

      by : (number ≡ run.answer) ⊎ ((number < run.answer) ⊎ (run.answer < number)) → is_better trial.ending ≡ true
      by (inl same) =
          let is : answer.trial ≡ trial = same_Some answer.trial trial (sym answer.at ∙ ap (slice_get run.trials) (sym same) ∙ at) in
          ap (λ (t : ShownTrial). is_better t.ending) (sym is) ∙ answer.better (omega (arith, some, same))
      by (inr (inl less)) =
          ap is_better (goes.going.goes_on number trial some (omega (arith, less, slice_get_within run.trials run.answer answer.trial answer.at)) at)
      by (inr (inr more)) = absurd (omega (arith, more, up))

  -- so scores fall up to it
  falls_to : (n number : ℕ) (trial : ShownTrial) → number + n ≡ run.answer → slice_get run.trials number ≡ Some trial → (answer_of run).score ≤ trial.score
  falls_to zero number trial ends at =
      let same : number ≡ run.answer = omega (arith, ends) in
      let is : answer_of run ≡ trial = get_or_from_slice_get run.trials run.answer trial no_trial (ap (slice_get run.trials) (sym same) ∙ at) in
      omega (arith, ap (λ (t : ShownTrial). t.score) is)
  falls_to (suc n) number trial ends at =
      let answer = answer_at run goes in
      let next = get_or run.trials (number + 1) no_trial in
      let next_at : slice_get run.trials (number + 1) ≡ Some next =
      slice_get-get_or run.trials (number + 1) no_trial (omega (arith, ends, slice_get_within run.trials run.answer answer.trial answer.at)) in
      let better : is_better next.ending ≡ true = better_up (number + 1) next (omega arith) (omega (arith, ends)) next_at in
      let compares : next.ending ≡ compared next.score trial.score = right number trial next at next_at (ap has_rows (better_is next.ending better)) in
      let less : next.score < trial.score = compared_better next.score trial.score (ap is_better (sym compares) ∙ better) in
      omega (arith, less, falls_to n (number + 1) next (omega (arith, ends)) next_at)

  -- a trial behind the answer is the one after it, and not better
  after : (number : ℕ) (trial : ShownTrial) → run.answer < number → slice_get run.trials number ≡ Some trial → has_rows trial.ending ≡ true → (answer_of run).score ≤ trial.score
  after number trial more at has = by (cases_order (run.answer + 1) number)
    where
      answer : IsAnswerAt run
      answer = answer_at run goes

      by : (run.answer + 1 ≡ number) ⊎ ((run.answer + 1 < number) ⊎ (number < run.answer + 1)) → (answer_of run).score ≤ trial.score
      by (inl next) =
          let next_at : slice_get run.trials (run.answer + 1) ≡ Some trial = ap (slice_get run.trials) next ∙ at in
          let compares : trial.ending ≡ compared trial.score answer.trial.score = right run.answer answer.trial trial answer.at next_at has in
          let least : answer.trial.score ≤ trial.score =
          compared_not_better trial.score answer.trial.score (ap is_better (sym compares) ∙ answer.behind number trial more at) in
          omega (arith, least, ap (λ (t : ShownTrial). t.score) answer.answers)
      by (inr (inl past)) =
          let within = slice_get_within run.trials number trial at in
          let between = get_or run.trials (run.answer + 1) no_trial in
          let between_at : slice_get run.trials (run.answer + 1) ≡ Some between = slice_get-get_or run.trials (run.answer + 1) no_trial (omega (arith, past, within)) in
          let better : between.ending ≡ endings.Better = goes.going.goes_on (run.answer + 1) between (omega arith) (omega (arith, past, within)) between_at in
          absurd (let no : true ≡ false = sym (ap is_better better) ∙ answer.behind (run.answer + 1) between (omega arith) between_at in cc)
      by (inr (inr before)) = absurd (omega (arith, before, more))

  -- The answer scores no more than each trial that placed its cells.
  pub answer_least : (number : ℕ) (trial : ShownTrial) → slice_get run.trials number ≡ Some trial → has_rows trial.ending ≡ true → (answer_of run).score ≤ trial.score
  answer_least number trial at has = by (cases_order number run.answer)
    where
      to : (n : ℕ) → n + number ≡ run.answer → (answer_of run).score ≤ trial.score
      to n ends = falls_to n number trial (omega (arith, ends)) at

      by : (number ≡ run.answer) ⊎ ((number < run.answer) ⊎ (run.answer < number)) → (answer_of run).score ≤ trial.score
      by (inl same) = falls_to 0 number trial (omega (arith, same)) at
      by (inr (inl less)) = to (run.answer - number) (omega (arith, less))
      by (inr (inr more)) = after number trial more at has
