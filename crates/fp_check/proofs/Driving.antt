-- What each condition of a check is asked of, by what the checker holds, and what its answer tells.
use Rattle.std.proofs.Common.{◌≡◌, ℕ, zero, suc, ◌+◌, ◌<◌, ◌≤◌, Bool, true, false, List, [], ◌∷◌, length, slice_get, Option, Some, None, Err, refl, sym, ap, subst, ◌∙◌, arith}
use Rattle.std.specs.Prelude.{◌↔◌, IfSome, IsTrue, MatchOption}
use Rattle.std.proofs.lemmas.Option.{same_Some, slice_get_within}
use Rattle.fp_tech.specs.Slots.{Slots, IsGrid}
use Rattle.fp_netlist.specs.Netlist.{Netlist, IsSound}
use Rattle.fp_place.specs.Drawing.{Drawing}
use Rattle.fp_place.specs.OnSlots.{AreOnCuts}
use Rattle.fp_place.specs.Placed.{Placed, places_of}
use Rattle.fp_place.specs.Places.{dies_of}
use Rattle.fp_place.specs.Settled.{KeepRules}
use Rattle.fp_score.specs.declared.stop.Stop.{Stop}
use Rattle.fp_seed.specs.declared.seeding.SeedFault.TheVariants.{Unfit}
use Rattle.fp_seed.specs.Seeded.{SeedGives}
use Rattle.fp_cert.specs.declared.finding.Finding.{Finding}
use Rattle.fp_cert.specs.declared.finding.Finding.TheVariants.{Yes, No}
use Rattle.fp_cert.specs.Endings.{has_rows}
use Rattle.fp_cert.specs.Shown.{ShownTrial, ShownRun}
use Rattle.fp_cert.specs.Standing.{targets_shown, placed_shown}
use Rattle.fp_cert.specs.StandingLaws.{length-targets_shown}
use Rattle.fp_cert.specs.Trials.{IsFromSeed, answer_of}
use Rattle.fp_check.specs.declared.views.Layout.{Layout}
use Rattle.fp_check.specs.declared.views.View.{View}
use Rattle.fp_check.specs.Answers.{AreNetsOf, IsRightAnswer}
use Rattle.fp_check.specs.AnswerLaws.{answer_at}
use Rattle.fp_check.specs.Conditions.{SeedStands, GoesOnFromStart, Draws, Finds}
use Rattle.fp_check.specs.ConditionsLaws.{none_before, hold_on, each_holds, first_false}
use Rattle.fp_check.specs.DrawnLegalLaws.{drawn_legal}
use Rattle.fp_check.specs.Seeds.{IsSeedPlaced, StartsLike}
use Rattle.fp_check.specs.Finding.{HoldBelow, IsTold, FindsAt}
use Rattle.fp_check.specs.SeedsLaws.{placed_has_seed, no_seed, starts_from_seed, from_seed_starts}
use Rattle.fp_check.specs.Starting.{IsLayoutFor, StartsView, IsAnswerFor, DrawsView}
use Rattle.fp_check.specs.StepsLaws.{from_seed_keeps_rules}
use Rattle.fp_check.specs.Views.{IsLayoutOf, AreViews}

-- the first of some elements
first_of : {A : Type 0} (xs : List A) → 1 ≤ length xs → (x : A) × (slice_get xs 0 ≡ Some x)
first_of [] some = absurd (omega (arith, some))
first_of (x ∷ xs) some = (x, refl)

-- what a view's layout is
layout_for : (p : Netlist) (grid : Slots) (trial : ShownTrial) (o : Option Layout) → MatchOption o (has_rows trial.ending ≡ false) (IsLayoutOf p grid trial) → IfSome o (IsLayoutFor p)
layout_for p grid trial None is = tt
layout_for p grid trial (Some layout) is = record { of_problem = is.of_problem; targets = ap length is.targets_are ∙ length-targets_shown p trial }

-- ---- the first trial and its view

module _ (p : Netlist) (grid : Slots) (run : ShownRun) (views : List View) (are : AreViews p grid run views) (goes : GoesOnFromStart run) where
  some_trials : 1 ≤ length run.trials
  some_trials = omega (arith, goes.going.some)

  first_trial : (trial : ShownTrial) × (slice_get run.trials 0 ≡ Some trial)
  first_trial = first_of run.trials some_trials

  first_has : has_rows first_trial.0.ending ≡ true
  first_has = ap has_rows ((goes.starts 0 first_trial.0 first_trial.1).1 refl)

  pub some_views : 1 ≤ length views
  some_views = omega (arith, some_trials, are.many)

  pub first_layout : (view : View) → slice_get views 0 ≡ Some view → IfSome view.layout (IsLayoutFor p)
  first_layout view at = layout_for p grid first_trial.0 view.layout (are.each 0 first_trial.0 view first_trial.1 at).layout_is

  -- the first dies are the seed's, where the first trial starts from it
  pub first_rules : ((trial : ShownTrial) → slice_get run.trials 0 ≡ Some trial → IsFromSeed p grid trial) → (view : View) → slice_get views 0 ≡ Some view → KeepRules p view.dies.items
  first_rules from view at =
      subst (KeepRules p) (sym (are.each 0 first_trial.0 view first_trial.1 at).dies_are)
      (from_seed_keeps_rules p grid first_trial.0 first_has (from first_trial.0 first_trial.1))

  started : (seed : Placed) → IsSeedPlaced p grid seed → (o : Option Layout) → MatchOption o (has_rows first_trial.0.ending ≡ false) (IsLayoutOf p grid first_trial.0)
      → StartsView p seed o ↔ IsFromSeed p grid first_trial.0
  started seed is None not_there = absurd (let no : true ≡ false = sym first_has ∙ not_there in cc)
  started seed is (Some layout) shown = (
    λ like. starts_from_seed p grid seed first_trial.0 is
        (subst (λ (placed : Placed). StartsLike p seed placed (targets_shown p first_trial.0)) shown.placement_is
        (subst (StartsLike p seed layout.placement) shown.targets_are like)),
    λ from. subst (StartsLike p seed layout.placement) (sym shown.targets_are)
        (subst (λ (placed : Placed). StartsLike p seed placed (targets_shown p first_trial.0)) (sym shown.placement_is) (from_seed_starts p grid seed first_trial.0 is from)),
  )

  -- an answer on the first view tells whether the first trial starts from the seed
  pub start_told : (seed : Placed) (answer : Bool) → IsSeedPlaced p grid seed → ((view : View) → slice_get views 0 ≡ Some view → IsTrue answer ↔ StartsView p seed view.layout)
      → IsTrue answer ↔ ((trial : ShownTrial) → slice_get run.trials 0 ≡ Some trial → IsFromSeed p grid trial)
  start_told seed answer is tells =
      let view = first_of views some_views in
      let like = started seed is view.0.layout (are.each 0 first_trial.0 view.0 first_trial.1 view.1).layout_is in
      let told = tells view.0 view.1 in (
        λ yes trial at. subst (IsFromSeed p grid) (same_Some first_trial.0 trial (sym first_trial.1 ∙ at)) (like.0 (told.0 yes)),
        λ from. told.1 (like.1 (from first_trial.0 first_trial.1)),
      )

  -- ---- the answer's view

  answer_view : (view : View) → slice_get views run.answer ≡ Some view → MatchOption view.layout (has_rows (answer_of run).ending ≡ false) (IsLayoutOf p grid (answer_of run))
  answer_view view at =
      let answer = answer_at run goes in
      subst (λ (t : ShownTrial). MatchOption view.layout (has_rows t.ending ≡ false) (IsLayoutOf p grid t)) (sym answer.answers) (are.each run.answer answer.trial view answer.at at).layout_is

  pub answer_within : run.answer < length views
  answer_within = omega (arith, slice_get_within run.trials run.answer (answer_at run goes).trial (answer_at run goes).at, are.many)

  right_layout : (drawing : Drawing) → IsSound p → IsGrid p.plan.frame p.plan.terminal grid → AreNetsOf p drawing → IsRightAnswer p grid (placed_shown p grid (answer_of run)) → (o : Option Layout)
      → MatchOption o (has_rows (answer_of run).ending ≡ false) (IsLayoutOf p grid (answer_of run)) → IfSome o (IsAnswerFor p drawing)
  right_layout drawing sound is_grid nets right None is = tt
  right_layout drawing sound is_grid nets right (Some layout) is = record {
    of_problem = is.of_problem;
    legal = λ draws. drawn_legal p grid (placed_shown p grid (answer_of run)) drawing sound.plan is_grid right nets (subst (Draws p drawing) is.placement_is draws);
    on_cuts = subst (λ (placed : Placed). AreOnCuts p (dies_of (places_of placed)) placed.terminals) (sym is.placement_is) right.on_cuts;
  }

  pub answer_for : (drawing : Drawing) → IsSound p → IsGrid p.plan.frame p.plan.terminal grid → AreNetsOf p drawing → IsRightAnswer p grid (placed_shown p grid (answer_of run))
      → (view : View) → slice_get views run.answer ≡ Some view → IfSome view.layout (IsAnswerFor p drawing)
  answer_for drawing sound is_grid nets right view at = right_layout drawing sound is_grid nets right view.layout (answer_view view at)

  drawn : (drawing : Drawing) → (o : Option Layout) → MatchOption o (has_rows (answer_of run).ending ≡ false) (IsLayoutOf p grid (answer_of run))
      → DrawsView p drawing o ↔ Draws p drawing (placed_shown p grid (answer_of run))
  drawn drawing None not_there =
      let answer = answer_at run goes in
      absurd (let no : true ≡ false = sym answer.has ∙ ap (λ (t : ShownTrial). has_rows t.ending) (sym answer.answers) ∙ not_there in cc)
  drawn drawing (Some layout) is = (subst (Draws p drawing) is.placement_is, subst (Draws p drawing) (sym is.placement_is))

  -- an answer on the answer's view tells whether the drawing is of it
  pub draws_told : (drawing : Drawing) (answer : Bool) → ((view : View) → slice_get views run.answer ≡ Some view → IsTrue answer ↔ DrawsView p drawing view.layout)
      → IsTrue answer ↔ Draws p drawing (placed_shown p grid (answer_of run))
  draws_told drawing answer tells =
      let at = there views run.answer answer_within in
      let like = drawn drawing at.0.layout (answer_view at.0 at.1) in
      let told = tells at.0 at.1 in (λ yes. like.0 (told.0 yes), λ draws. told.1 (like.1 draws))
    where
      there : {A : Type 0} (xs : List A) (k : ℕ) → k < length xs → (x : A) × (slice_get xs k ≡ Some x)
      there [] k below = absurd (omega (arith, below))
      there (x ∷ xs) zero below = (x, refl)
      there (x ∷ xs) (suc k) below = there xs k (omega (arith, below))

-- ---- from one condition to the next

-- an answer that is yes: the conditions hold up to its number
pub told_on : (p : Netlist) (grid : Slots) (drawing : Drawing) (run : ShownRun) (number : ℕ) (answer : Bool) → HoldBelow p grid drawing run number → IsTold p grid drawing run number answer
    → IsTrue answer → HoldBelow p grid drawing run (number + 1)
told_on p grid drawing run number answer before is so = λ other below.
    hold_on p grid drawing run is.condition (λ earlier less. before earlier (omega (arith, less, is.number_is))) (is.told.0 so) other (omega (arith, below, is.number_is))

-- an answer that is no: its number is that of the first that is false
pub told_first : (p : Netlist) (grid : Slots) (drawing : Drawing) (run : ShownRun) (number : ℕ) (answer : Bool) → HoldBelow p grid drawing run number → IsTold p grid drawing run number answer
    → (IsTrue answer → ⊥) → FindsAt p grid drawing run (No number)
told_first p grid drawing run number answer before is not_so =
    (is.condition, sym is.number_is, record { false_one = λ holds. not_so (is.told.1 holds); before = λ other below. before other (omega (arith, below, is.number_is)) })

-- where all were told, all hold
pub all_told : (p : Netlist) (grid : Slots) (drawing : Drawing) (run : ShownRun) (number : ℕ) → 17 ≤ number → HoldBelow p grid drawing run number
    → FindsAt p grid drawing run Yes
all_told p grid drawing run number end before = each_holds p grid drawing run (λ condition below. before condition (omega (arith, below, end)))

-- what is found over the problem's grid is found of the problem
pub finds_by : (p : Netlist) (grid : Slots) (drawing : Drawing) (run : ShownRun) (finding : Finding) → IsGrid p.plan.frame p.plan.terminal grid → FindsAt p grid drawing run finding
    → Finds p drawing run finding
finds_by p grid drawing run Yes is_grid hold = (grid, is_grid, hold)
finds_by p grid drawing run (No number) is_grid is = first_false p grid drawing run is.0 number is_grid is.1 is.2

-- the first condition holds where there is a seed
pub below_two : (p : Netlist) (grid : Slots) (drawing : Drawing) (run : ShownRun) (seed : Placed) → IsSeedPlaced p grid seed → HoldBelow p grid drawing run 2
below_two p grid drawing run seed is =
    hold_on p grid drawing run SeedStands (λ other below. none_before p grid drawing run other below) (placed_has_seed p grid seed is)

-- and where there is none it is the first that is false
pub no_seed_first : (p : Netlist) (grid : Slots) (drawing : Drawing) (run : ShownRun) (top bottom : Stop) → IsGrid p.plan.frame p.plan.terminal grid → SeedGives p (Err (Unfit top bottom))
    → Finds p drawing run (No 1)
no_seed_first p grid drawing run top bottom is_grid lacks =
    first_false p grid drawing run SeedStands 1 is_grid refl (record { false_one = no_seed p grid top bottom is_grid lacks; before = λ other below. none_before p grid drawing run other below })
