-- A run of trials grows by one that is better, or ends; and when it ends it is whole.
use Rattle.std.proofs.Common.{◌≡◌, ◌≢◌, ◌⊎◌, ℕ, zero, suc, ◌+◌, ◌<◌, ◌≤◌, true, false, List, [], ◌∷◌, ◌++◌, length, map, slice_get, Some, None, Option, Result, Ok, Err, refl, sym, ap, subst, ◌∙◌, inl, inr, arith}
use Rattle.std.specs.Prelude.{Bool, nat_lt, if◌then◌else◌}
use Rattle.std.proofs.lemmas.Bool.Decides.{nat_tests}
use Rattle.std.proofs.lemmas.List.{length-append}
use Rattle.std.proofs.lemmas.List.Elements.{All-nil, All-cons, All-push}
use Rattle.std.proofs.lemmas.Bool.{cases_order}
use Rattle.std.proofs.lemmas.Option.{same_Some, slice_get_within, get_or_from_slice_get, slice_get-get_or}
use Rattle.fp_base.specs.declared.ids.Die.{Die}
use Rattle.fp_base.specs.declared.ids.Point.{Point}
use Rattle.fp_tech.specs.BookLaws.{slice_get-last, slice_get-front}
use Rattle.fp_tech.specs.Slots.{Slots, slot_count}
use Rattle.fp_netlist.specs.Netlist.{Netlist}
use Rattle.fp_place.specs.declared.placement.Spot.{Spot}
use Rattle.fp_place.specs.Places.{dies_of}
use Rattle.fp_place.specs.Placed.{Placed, place_of, places_of}
use Rattle.fp_place.specs.Settled.{settled}
use Rattle.fp_part.specs.SettledLaws.{settled_twice}
use Rattle.fp_score.specs.Pick.{Lined, picked}
use Rattle.fp_cert.specs.declared.shown.Ending.{Ending}
use Rattle.fp_cert.specs.declared.shown.Ending.TheVariants.{Start, Better, NotBetter, NoRow}
use Rattle.fp_cert.specs.Certified.{IsCertified, AreCertified}
use Rattle.fp_cert.specs.Endings.{has_rows}
use Rattle.fp_cert.specs.OfProblem.{IsTrialOf}
use Rattle.fp_cert.specs.OfProblemLaws.{placed_ended}
use Rattle.fp_cert.specs.Shown.{ShownTrial, ShownRun, with_trial}
use Rattle.fp_cert.specs.Standing.{dies_shown}
use Rattle.fp_cert.specs.Trials.{is_better, Does, IsStart, IsStep, last_better, no_trial, answer_of}
use Rattle.fp_flow.specs.Bases.{IsBase}
use Rattle.fp_flow.specs.Chains.{IsAdded, IsBegun, IsGoing, IsWhole}
use Rattle.fp_flow.specs.Steps.{IsNext}
use Rattle.fp_flow.proofs.Firsts.{dies_placed}

-- ---- endings

better_only : (ending : Ending) → is_better ending ≡ true → ending ≡ Better
better_only Start is = absurd (let no : false ≡ true = is in cc)
better_only Better is = refl
better_only NotBetter is = absurd (let no : false ≡ true = is in cc)
better_only (NoRow cell) is = absurd (let no : false ≡ true = is in cc)

not_better : (ending : Ending) → false ≡ is_better ending → ending ≢ Better
not_better ending is same = let no : false ≡ true = is ∙ ap is_better same in cc

below_before : (score before : ℕ) (b : Bool) → nat_lt score before ≡ b → (if b then Better else NotBetter) ≡ Better → score < before
below_before score before true less same = grind (arith, nat_tests)
below_before score before false less same = absurd (let no : false ≡ true = ap is_better same in cc)

at_least_before : (score before : ℕ) (b : Bool) → nat_lt score before ≡ b → false ≡ is_better (if b then Better else NotBetter) → before ≤ score
at_least_before score before true less same = absurd (let no : false ≡ true = same in cc)
at_least_before score before false less same = grind (arith, nat_tests)

-- a trial that is better scores less than its base,
does_less : (p : Netlist) (grid : Slots) (dies : List Die) (targets : List Point) (before : ℕ) (trial : ShownTrial) (r : Result Lined ℕ) → Does p grid dies targets before trial r
    → trial.ending ≡ Better → trial.score < before
does_less p grid dies targets before trial (Err cell) does is = absurd (let no : false ≡ true = ap is_better (sym does.ending_is ∙ is) in cc)
does_less p grid dies targets before trial (Ok lined) does is = below_before trial.score before (nat_lt trial.score before) refl (sym does.2 ∙ is)

-- and one that placed its cells and is not better does not
does_no_less : (p : Netlist) (grid : Slots) (dies : List Die) (targets : List Point) (before : ℕ) (trial : ShownTrial) (r : Result Lined ℕ) → Does p grid dies targets before trial r
    → has_rows trial.ending ≡ true → false ≡ is_better trial.ending → before ≤ trial.score
does_no_less p grid dies targets before trial (Err cell) does has is = absurd (let no : false ≡ true = ap has_rows (sym does.ending_is) ∙ has in cc)
does_no_less p grid dies targets before trial (Ok lined) does has is = at_least_before trial.score before (nat_lt trial.score before) refl (is ∙ ap is_better does.2)

-- ---- one trial more

either : (a b : ℕ) → a < b + 1 → (a < b) ⊎ (a ≡ b)
either a b below = by (cases_order a b)
  where
    by : (a ≡ b) ⊎ ((a < b) ⊎ (b < a)) → (a < b) ⊎ (a ≡ b)
    by (inl same) = inr same
    by (inr (inl less)) = inl less
    by (inr (inr more)) = absurd (omega (arith, more, below))

-- a trial of the longer run is one of the shorter, or the new one
among : (trials : List ShownTrial) (trial : ShownTrial) (number : ℕ) (it : ShownTrial) → slice_get (trials ++ trial ∷ []) number ≡ Some it
    → (slice_get trials number ≡ Some it) ⊎ ((number ≡ length trials) × (trial ≡ it))
among trials trial number it at =
    let long : length (trials ++ trial ∷ []) ≡ length trials + 1 = length-append trials (trial ∷ []) in
    by (either number (length trials) (omega (arith, slice_get_within (trials ++ trial ∷ []) number it at, long)))
  where
    by : (number < length trials) ⊎ (number ≡ length trials) → (slice_get trials number ≡ Some it) ⊎ ((number ≡ length trials) × (trial ≡ it))
    by (inl below) = inl (sym (slice_get-front trials trial number below) ∙ at)
    by (inr same) =
        inr (same, same_Some trial it (sym (slice_get-last trials trial) ∙ ap (slice_get (trials ++ trial ∷ [])) (sym same) ∙ at))

last_more : (number last : ℕ) (trials : List ShownTrial) (trial : ShownTrial)
    → last_better number last (trials ++ trial ∷ []) ≡ (if is_better trial.ending then number + length trials else last_better number last trials)
unfolding last_better
last_more number last [] trial = ap (λ n. if is_better trial.ending then n else last) (omega arith)
last_more number last (first ∷ trials) trial =
    last_more (number + 1) (if is_better first.ending then number else last) trials trial
    ∙ ap (λ n. if is_better trial.ending then n else last_better (number + 1) (if is_better first.ending then number else last) trials) (omega arith)

-- the steps of the longer run
steps_more : (p : Netlist) (grid : Slots) (trials : List ShownTrial) (trial last : ShownTrial) (place : ℕ) → place + 1 ≡ length trials → slice_get trials place ≡ Some last → IsStep p grid last trial
    → ((number : ℕ) (base next : ShownTrial) → slice_get trials number ≡ Some base → slice_get trials (number + 1) ≡ Some next → IsStep p grid base next)
    → (number : ℕ) (base next : ShownTrial) → slice_get (trials ++ trial ∷ []) number ≡ Some base → slice_get (trials ++ trial ∷ []) (number + 1) ≡ Some next → IsStep p grid base next
steps_more p grid trials trial last place is at step steps number base next base_at next_at =
    by (among trials trial number base base_at) (among trials trial (number + 1) next next_at)
  where
    by : (slice_get trials number ≡ Some base) ⊎ ((number ≡ length trials) × (trial ≡ base)) → (slice_get trials (number + 1) ≡ Some next) ⊎ ((number + 1 ≡ length trials) × (trial ≡ next))
        → IsStep p grid base next
    by (inl before) (inl behind) = steps number base next before behind
    by (inl before) (inr new) =
        let here : last ≡ base = same_Some last base (sym at ∙ ap (slice_get trials) (omega (arith, is, new.0)) ∙ before) in
        subst (λ (t : ShownTrial). IsStep p grid t next) here (subst (IsStep p grid last) new.1 step)
    by (inr late) (inl behind) = absurd (omega (arith, late.0, slice_get_within trials (number + 1) next behind))
    by (inr late) (inr new) = absurd (omega (arith, late.0, new.0))

certified_more : (p : Netlist) (grid : Slots) (run : ShownRun) (trial : ShownTrial) → AreCertified p grid run → (has_rows trial.ending ≡ true → IsCertified p grid trial)
    → (number : ℕ) (it : ShownTrial) → slice_get (run.trials ++ trial ∷ []) number ≡ Some it → has_rows it.ending ≡ true → IsCertified p grid it
certified_more p grid run trial are mine number it at has = by (among run.trials trial number it at)
  where
    by : (slice_get run.trials number ≡ Some it) ⊎ ((number ≡ length run.trials) × (trial ≡ it)) → IsCertified p grid it
    by (inl before) = are number it before has
    by (inr new) = subst (IsCertified p grid) new.1 (mine (subst (λ (t : ShownTrial). has_rows t.ending ≡ true) (sym new.1) has))

-- the dies that a base shows are those of its placement
pub base_dies : (p : Netlist) (grid : Slots) (trial : ShownTrial) (placed : Placed) → IsBase p grid trial placed → dies_shown p trial ≡ dies_of (places_of placed)
base_dies p grid trial placed base = dies_placed p trial base.has ∙ ap (λ (pl : Placed). dies_of (places_of pl)) base.shown

-- a run goes on with a trial that is better
pub going_on : (p : Netlist) (grid : Slots) (dies : List Die) (limit : ℕ) (run : ShownRun) (answer next : Placed) (base trial : ShownTrial) → IsGoing p grid dies limit run answer
    → slice_get run.trials run.answer ≡ Some base → IsNext p grid base trial (Some next) → IsGoing p grid dies limit (record (with_trial run trial) { answer = run.answer + 1 }) next
going_on p grid dies limit run answer next base trial going at is = record {
  limit_is = going.limit_is;
  cost_is = going.cost_is;
  start = λ first first_at. going.start first (sym (slice_get-front run.trials trial 0 (omega (arith, going.answer_is))) ∙ first_at);
  steps = steps_more p grid run.trials trial base run.answer going.answer_is at is.step going.steps;
  better = λ number it some it_at. better number it some (among run.trials trial number it it_at);
  answer_is = omega (arith, going.answer_is, length-append run.trials (trial ∷ []));
  last_is = omega (arith, going.answer_is, last_more 0 0 run.trials trial ∙ ap (λ b. if b then 0 + length run.trials else last_better 0 0 run.trials) (sym is.comes.better_is));
  trials = All-push (IsTrialOf p (slot_count grid)) run.trials trial going.trials is.comes.of_problem;
  certified = certified_more p grid run trial going.certified is.comes.certified;
  last = λ it it_at. subst (λ (t : ShownTrial). IsBase p grid t next) (newest it it_at) is.comes.next.0;
  dies_are = sym (ap (settled p) same_dies ∙ ap (settled p) going.dies_are ∙ settled_twice p (dies_of (places_of answer)) ∙ sym going.dies_are);
  least = λ number last it last_at it_at.
      let less : last.score < base.score = subst (λ (t : ShownTrial). t.score < base.score) (newest last last_at) mine in
      least number last it last_at less (among run.trials trial number it it_at);
}
  where
    ending : trial.ending ≡ Better
    ending = better_only trial.ending (sym is.comes.better_is)

    mine : trial.score < base.score
    mine = does_less p grid (settled p (dies_shown p base)) is.step.targets base.score trial (picked p (settled p (dies_shown p base)) is.step.targets) is.step.does ending

    newest : (it : ShownTrial) → slice_get (run.trials ++ trial ∷ []) (run.answer + 1) ≡ Some it → trial ≡ it
    newest it it_at = same_Some trial it (sym (slice_get-last run.trials trial) ∙ ap (slice_get (run.trials ++ trial ∷ [])) (sym going.answer_is) ∙ it_at)

    better : (number : ℕ) (it : ShownTrial) → 1 ≤ number → (slice_get run.trials number ≡ Some it) ⊎ ((number ≡ length run.trials) × (trial ≡ it)) → it.ending ≡ Better
    better number it some (inl before) = going.better number it some before
    better number it some (inr new) = ap (λ (t : ShownTrial). t.ending) (sym new.1) ∙ ending

    same_dies : dies_of (places_of next) ≡ dies
    same_dies = is.comes.next.1 ∙ ap (settled p) (base_dies p grid base answer (going.last base at)) ∙ sym going.dies_are

    least : (number : ℕ) (last it : ShownTrial) → slice_get (run.trials ++ trial ∷ []) (run.answer + 1) ≡ Some last → last.score < base.score
        → (slice_get run.trials number ≡ Some it) ⊎ ((number ≡ length run.trials) × (trial ≡ it)) → last.score ≤ it.score
    least number last it last_at less (inl before) = omega (arith, less, going.least number base it at before)
    least number last it last_at less (inr new) =
        let same : last ≡ it = sym (newest last last_at) ∙ new.1 in
        omega (arith, ap (λ (t : ShownTrial). t.score) same)

-- ---- the end of a run

-- a run ends with a trial that is not better,
pub ends_kept : (p : Netlist) (grid : Slots) (dies : List Die) (limit : ℕ) (run : ShownRun) (answer : Placed) (base trial : ShownTrial) → IsGoing p grid dies limit run answer
    → slice_get run.trials run.answer ≡ Some base → IsNext p grid base trial None → run.answer < limit → IsWhole p grid limit (with_trial run trial) answer
ends_kept p grid dies limit run answer base trial going at is few = record {
  chain = record {
    limit_is = going.limit_is;
    cost_is = going.cost_is;
    going = record {
      some = omega (arith, going.answer_is, length-append run.trials (trial ∷ []));
      few = omega (arith, going.answer_is, few, length-append run.trials (trial ∷ []));
      goes_on = λ number it some more it_at. going.better number it some (sym (slice_get-front run.trials trial number (omega (arith, more, length-append run.trials (trial ∷ [])))) ∙ it_at);
      stops = λ number it ends less it_at.
          let newest : trial ≡ it =
          same_Some trial it (sym (slice_get-last run.trials trial) ∙ ap (slice_get (run.trials ++ trial ∷ [])) (omega (arith, ends, length-append run.trials (trial ∷ []))) ∙ it_at) in
          not_better it.ending (is.comes.better_is ∙ ap (λ (t : ShownTrial). is_better t.ending) newest);
      answer_is =
          going.last_is ∙ sym (last_more 0 0 run.trials trial ∙ ap (λ b. if b then 0 + length run.trials else last_better 0 0 run.trials) (sym is.comes.better_is));
    };
    start = λ first first_at. going.start first (sym (slice_get-front run.trials trial 0 (omega (arith, going.answer_is))) ∙ first_at);
    steps = steps_more p grid run.trials trial base run.answer going.answer_is at is.step going.steps;
  };
  trials = All-push (IsTrialOf p (slot_count grid)) run.trials trial going.trials is.comes.of_problem;
  certified = certified_more p grid run trial going.certified is.comes.certified;
  base = subst (λ (t : ShownTrial). IsBase p grid t answer) (sym answers) (going.last base at);
  least = λ number it it_at has. subst (λ (t : ShownTrial). t.score ≤ it.score) (sym answers) (least number it has (among run.trials trial number it it_at));
}
  where
    answers : answer_of (with_trial run trial) ≡ base
    answers =
        get_or_from_slice_get (run.trials ++ trial ∷ []) run.answer base no_trial
        (slice_get-front run.trials trial run.answer (omega (arith, going.answer_is)) ∙ at)

    least : (number : ℕ) (it : ShownTrial) → has_rows it.ending ≡ true → (slice_get run.trials number ≡ Some it) ⊎ ((number ≡ length run.trials) × (trial ≡ it)) → base.score ≤ it.score
    least number it has (inl before) = going.least number base it at before
    least number it has (inr new) =
        let mine : base.score ≤ trial.score =
        does_no_less p grid (settled p (dies_shown p base)) is.step.targets base.score trial (picked p (settled p (dies_shown p base)) is.step.targets) is.step.does
        (subst (λ (t : ShownTrial). has_rows t.ending ≡ true) (sym new.1) has) is.comes.better_is in
        omega (arith, mine, ap (λ (t : ShownTrial). t.score) new.1)

-- or at its limit
pub ends_full : (p : Netlist) (grid : Slots) (dies : List Die) (limit : ℕ) (run : ShownRun) (answer : Placed) → IsGoing p grid dies limit run answer → run.answer ≡ limit → 1 ≤ limit
    → IsWhole p grid limit run answer
ends_full p grid dies limit run answer going full some = record {
  chain = record {
    limit_is = going.limit_is;
    cost_is = going.cost_is;
    going = record {
      some = omega (arith, going.answer_is, full, some);
      few = omega (arith, going.answer_is, full);
      goes_on = λ number it some more it_at. going.better number it some it_at;
      stops = λ number it ends less it_at. absurd (omega (arith, ends, less, going.answer_is, full));
      answer_is = going.last_is;
    };
    start = going.start;
    steps = going.steps;
  };
  trials = going.trials;
  certified = going.certified;
  base = going.last (answer_of run) at;
  least = λ number it it_at has. going.least number (answer_of run) it at it_at;
}
  where
    at : slice_get run.trials run.answer ≡ Some (answer_of run)
    at = slice_get-get_or run.trials run.answer no_trial (omega (arith, going.answer_is))

-- ---- the beginning

first_last : (trial : ShownTrial) → trial.ending ≡ Start → 0 ≡ last_better 0 0 (trial ∷ [])
unfolding last_better
first_last trial is = ap (λ ending. if is_better ending then 0 else 0) (sym is)

-- a run of its first trial goes on
pub begun_going : (p : Netlist) (grid : Slots) (dies : List Die) (limit : ℕ) (placed answer : Placed) (run : ShownRun) → IsBegun p grid limit placed run answer
    → dies ≡ settled p (dies_of (places_of placed)) → IsGoing p grid dies limit run answer
begun_going p grid dies limit placed answer run is dies_are =
    subst (λ (r : ShownRun). IsGoing p grid dies limit r answer) (sym is.run_is) (record {
      limit_is = refl;
      cost_is = refl;
      start = λ first at. subst (IsStart p grid) (only 0 first at) is.start;
      steps = λ number base next base_at next_at. absurd (omega (arith, slice_get_within (is.trial ∷ []) (number + 1) next next_at));
      better = λ number it some it_at. absurd (omega (arith, some, slice_get_within (is.trial ∷ []) number it it_at));
      answer_is = refl;
      last_is = first_last is.trial is.start.ending_is;
      trials = All-cons (IsTrialOf p (slot_count grid)) is.trial [] (placed_ended p (slot_count grid) is.trial is.trial.ending is.base.has is.of_problem) (All-nil (IsTrialOf p (slot_count grid)));
      certified = λ number it it_at has. subst (IsCertified p grid) (only number it it_at) is.base.certified;
      last = λ it it_at. subst (λ (t : ShownTrial). IsBase p grid t answer) (only 0 it it_at) is.base;
      dies_are = dies_are ∙ ap (λ (spots : List Spot). settled p (dies_of (map place_of spots))) (sym is.spots_are);
      least = λ number last it last_at it_at.
          let same : last ≡ it = sym (only 0 last last_at) ∙ only number it it_at in
          omega (arith, ap (λ (t : ShownTrial). t.score) same);
    })
  where
    only : (number : ℕ) (it : ShownTrial) → slice_get (is.trial ∷ []) number ≡ Some it → is.trial ≡ it
    only zero it at = same_Some is.trial it at
    only (suc number) it at = absurd (omega (arith, slice_get_within (is.trial ∷ []) (suc number) it at))

-- ---- a trial that is added

-- where it goes on
pub added_goes : (p : Netlist) (grid : Slots) (dies : List Die) (limit number : ℕ) (run new : ShownRun) (before after : Placed) (base trial : ShownTrial) (better : Option Placed)
    → IsGoing p grid dies limit run before → slice_get run.trials run.answer ≡ Some base → IsNext p grid base trial better → number ≡ run.answer + 1
    → IsAdded number trial better true run new before after → IsGoing p grid dies limit new after × (new.answer ≡ number)
added_goes p grid dies limit number run new before after base trial None going at next same added = absurd (let no : true ≡ false = added.goes_is in cc)
added_goes p grid dies limit number run new before after base trial (Some placed) going at next same added =
    let new_is : new ≡ record (with_trial run trial) { answer = run.answer + 1 } = added.taken.0 ∙ ap (λ n. record (with_trial run trial) { answer = n }) same in
    let goes = going_on p grid dies limit run before placed base trial going at next in (
      subst (λ (r : ShownRun). IsGoing p grid dies limit r after) (sym new_is) (subst (IsGoing p grid dies limit (record (with_trial run trial) { answer = run.answer + 1 })) (sym added.taken.1) goes),
      ap (λ (r : ShownRun). r.answer) added.taken.0,
    )

-- where it ends
pub added_ends : (p : Netlist) (grid : Slots) (dies : List Die) (limit number : ℕ) (run new : ShownRun) (before after : Placed) (base trial : ShownTrial) (better : Option Placed)
    → IsGoing p grid dies limit run before → slice_get run.trials run.answer ≡ Some base → IsNext p grid base trial better → run.answer < limit
    → IsAdded number trial better false run new before after → IsWhole p grid limit new after
added_ends p grid dies limit number run new before after base trial (Some placed) going at next few added = absurd (let no : false ≡ true = added.goes_is in cc)
added_ends p grid dies limit number run new before after base trial None going at next few added =
    let left = added.left refl in
    subst (λ (r : ShownRun). IsWhole p grid limit r after) (sym left.0) (subst (IsWhole p grid limit (with_trial run trial)) (sym left.1) (ends_kept p grid dies limit run before base trial going at next few))

-- the first trial stays
pub added_behind : (number : ℕ) (run new : ShownRun) (before after : Placed) (trial : ShownTrial) (better : Option Placed) (goes : Bool) → 0 < length run.trials
    → IsAdded number trial better goes run new before after → slice_get new.trials 0 ≡ slice_get run.trials 0
added_behind number run new before after trial None goes some added = ap (λ (r : ShownRun). slice_get r.trials 0) (added.left refl).0 ∙ slice_get-front run.trials trial 0 some
added_behind number run new before after trial (Some placed) goes some added = ap (λ (r : ShownRun). slice_get r.trials 0) added.taken.0 ∙ slice_get-front run.trials trial 0 some
