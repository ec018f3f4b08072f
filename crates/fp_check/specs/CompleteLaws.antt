-- A run of trials that is made as it should be, with duals and prices that show it, meets all sixteen conditions together with the drawing of
-- its answer.
use Rattle.std.specs.Prelude.{◌≡◌, ◌↔◌, ◌⊎◌, ℕ, ◌+◌, ◌≤◌, true, false, get_or, slice_get, Some}
use Rattle.std.proofs.Common.{zero, suc, refl, sym, ap, subst, ◌∙◌, inl, inr, arith}
use Rattle.std.proofs.lemmas.Option.{slice_get-get_or}
use Rattle.fp_tech.specs.Slots.{Slots, IsGrid}
use Rattle.fp_netlist.specs.Netlist.{Netlist, IsSound}
use Rattle.fp_place.specs.Cut.{cut}
use Rattle.fp_place.specs.Placed.{drawn_of}
use Rattle.fp_place.specs.Settled.{KeepRules, settled}
use Rattle.fp_part.specs.SettledLaws.{settling_keeps}
use Rattle.fp_cert.specs.declared.shown.Ending.{Ending}
use Rattle.fp_cert.specs.declared.shown.Ending.TheVariants as endings
use Rattle.fp_cert.specs.Certified.{AreCertified}
use Rattle.fp_cert.specs.Endings.{has_rows}
use Rattle.fp_cert.specs.Shown.{ShownTrial, ShownRun}
use Rattle.fp_cert.specs.Standing.{placed_shown, dies_shown}
use Rattle.fp_cert.specs.Trials.{GoesOn, IsScored, IsChain, no_trial, answer_of}
use Rattle.fp_check.specs.Conditions.{Condition, SeedStands, TrialsGoOn, CellsStandOnce, StartsFromSeed, DiesKeepRules, CutNoMore, DiesAreSettled, HaveTargets, HaveRows, RowsAreFeasible, RowsHaveDuals, CutNetsAreListed, SlotsHavePrices, ScoresAreRight, BetterIsBetter, DrawsAnswer, Holds, CertOk, HasSeed, StandOnceShown, ListsOnce, LanesArePicked, IsPick, AreFeasibleShown}
use Rattle.fp_check.specs.CutsLaws.{cuts_listed}
use Rattle.fp_check.specs.DrawsLaws.{draws_itself}
use Rattle.fp_check.specs.ShownLaws.{length-spots_shown, length-terminals_shown, dies_placed}
use Rattle.fp_check.specs.StepsLaws.{HasBase, has_base, compared_has_rows, IsPlacedStep, IsRowlessStep, step_is, dies_settled, step_keeps_rules, step_not_start, start_keeps_rules, from_seed_feasible}

-- ---- what a trial lists, by its ending

lists_once : (p : Netlist) (trial : ShownTrial) (ending : Ending) → has_rows ending ≡ true → StandOnceShown p trial → ListsOnce p trial ending
lists_once p trial endings.Start has once = once
lists_once p trial endings.Better has once = once
lists_once p trial endings.NotBetter has once = once
lists_once p trial (endings.NoRow cell) has once = absurd (let no : false ≡ true = has in cc)

is_pick : (p : Netlist) (base trial : ShownTrial) (ending : Ending) → has_rows ending ≡ true → LanesArePicked p trial → IsPick p base trial ending
is_pick p base trial endings.Start has picks = picks
is_pick p base trial endings.Better has picks = picks
is_pick p base trial endings.NotBetter has picks = picks
is_pick p base trial (endings.NoRow cell) has picks = absurd (let no : false ≡ true = has in cc)

placed_has_rows : (p : Netlist) (grid : Slots) (base trial : ShownTrial) → IsPlacedStep p grid base trial → has_rows trial.ending ≡ true
placed_has_rows p grid base trial step = ap has_rows step.ending_is ∙ compared_has_rows trial.score base.score

rowless_has_none : (p : Netlist) (base trial : ShownTrial) → IsRowlessStep p base trial → has_rows trial.ending ≡ true → ⊥
rowless_has_none p base trial step has = let no : false ≡ true = ap has_rows (sym step.ending_is) ∙ has in cc

-- ---- the trials of a run

-- what a trial that placed its cells shows
record IsPlacedWell (p : Netlist) (grid : Slots) (trial : ShownTrial) : Type 0 where
  once : StandOnceShown p trial
  feasible : AreFeasibleShown p trial
  scored : IsScored p grid trial

module _ (p : Netlist) (grid : Slots) (limit : ℕ) (run : ShownRun) (sound : IsSound p) (chain : IsChain p grid limit run) where
  -- the dies of each trial keep the rules
  keeps_rules : (number : ℕ) (trial : ShownTrial) → slice_get run.trials number ≡ Some trial → KeepRules p (dies_shown p trial)
  keeps_rules zero trial at = start_keeps_rules p grid trial (chain.start trial at)
  keeps_rules (suc number) trial at =
      let before = has_base run number trial at in
      step_keeps_rules p grid before.base trial sound (keeps_rules number before.base before.base_at) (chain.steps number before.base trial before.base_at before.at)

  -- each next trial is of chosen rows, or found none for a cell
  made : (number : ℕ) (base trial : ShownTrial) → slice_get run.trials number ≡ Some base → slice_get run.trials (number + 1) ≡ Some trial
      → IsPlacedStep p grid base trial ⊎ IsRowlessStep p base trial
  made number base trial base_at at = step_is p grid base trial sound (keeps_rules number base base_at) (chain.steps number base trial base_at at)

  settles : (number : ℕ) (base trial : ShownTrial) → slice_get run.trials number ≡ Some base → slice_get run.trials (number + 1) ≡ Some trial
      → dies_shown p trial ≡ settled p (dies_shown p base)
  settles number base trial base_at at = dies_settled p grid base trial sound (keeps_rules number base base_at) (chain.steps number base trial base_at at)

  placed_step : (number : ℕ) (base trial : ShownTrial) → slice_get run.trials number ≡ Some base → slice_get run.trials (number + 1) ≡ Some trial → has_rows trial.ending ≡ true
      → IsPlacedStep p grid base trial
  placed_step number base trial base_at at has = by (made number base trial base_at at)
    where
      by : IsPlacedStep p grid base trial ⊎ IsRowlessStep p base trial → IsPlacedStep p grid base trial
      by (inl step) = step
      by (inr step) = absurd (rowless_has_none p base trial step has)

  placed_well : (number : ℕ) (trial : ShownTrial) → slice_get run.trials number ≡ Some trial → has_rows trial.ending ≡ true → IsPlacedWell p grid trial
  placed_well zero trial at has =
      let start = chain.start trial at in
      record { once = start.once; feasible = from_seed_feasible p grid trial start.once start.from_seed; scored = start.scored }
  placed_well (suc number) trial at has =
      let before = has_base run number trial at in
      let step = placed_step number before.base trial before.base_at before.at has in
      record { once = step.once; feasible = step.feasible; scored = step.scored }

  -- ---- the conditions

  first_at : slice_get run.trials 0 ≡ Some (get_or run.trials 0 no_trial)
  first_at = slice_get-get_or run.trials 0 no_trial (omega (arith, chain.going.some))

  has_seed : HasSeed p grid
  has_seed = let from = (chain.start (get_or run.trials 0 no_trial) first_at).from_seed in (from.first, from.seats, from.seed)

  starts : (number : ℕ) (trial : ShownTrial) → slice_get run.trials number ≡ Some trial → (trial.ending ≡ endings.Start) ↔ (number ≡ 0)
  starts zero trial at = ((λ is. refl), (λ is. (chain.start trial at).ending_is))
  starts (suc number) trial at =
      let before = has_base run number trial at in
      ((λ is. absurd (step_not_start p grid before.base trial (made number before.base trial before.base_at before.at) is)), (λ is. absurd (omega (arith, is))))

  lists : (number : ℕ) (trial : ShownTrial) → slice_get run.trials number ≡ Some trial → ListsOnce p trial trial.ending
  lists zero trial at = let start = chain.start trial at in lists_once p trial trial.ending (ap has_rows start.ending_is) start.once
  lists (suc number) trial at = let before = has_base run number trial at in by before (made number before.base trial before.base_at before.at)
    where
      by : (before : HasBase run number trial) → IsPlacedStep p grid before.base trial ⊎ IsRowlessStep p before.base trial → ListsOnce p trial trial.ending
      by before (inl step) = lists_once p trial trial.ending (placed_has_rows p grid before.base trial step) step.once
      by before (inr step) = subst (ListsOnce p trial) (sym step.ending_is) step.distinct

  picks : (number : ℕ) (base trial : ShownTrial) → slice_get run.trials number ≡ Some base → slice_get run.trials (number + 1) ≡ Some trial → IsPick p base trial trial.ending
  picks number base trial base_at at = by (made number base trial base_at at)
    where
      by : IsPlacedStep p grid base trial ⊎ IsRowlessStep p base trial → IsPick p base trial trial.ending
      by (inl step) = is_pick p base trial trial.ending (placed_has_rows p grid base trial step) step.picks
      by (inr step) = subst (IsPick p base trial) (sym step.ending_is) step.no_row

  cuts_no_more : (number : ℕ) (base trial : ShownTrial) → slice_get run.trials number ≡ Some base → slice_get run.trials (number + 1) ≡ Some trial
      → cut p (dies_shown p trial) ≤ cut p (dies_shown p base)
  cuts_no_more number base trial base_at at =
      let keeps = settling_keeps p (dies_shown p base) (keeps_rules number base base_at) in
      omega (arith, keeps.no_more_cut, ap (cut p) (settles number base trial base_at at))

  conditions_hold : IsGrid p.plan.frame p.plan.terminal grid → AreCertified p grid run → (condition : Condition) → Holds p grid (drawn_of (placed_shown p grid (answer_of run))) run condition
  conditions_hold is_grid certified SeedStands = has_seed
  conditions_hold is_grid certified TrialsGoOn = record { going = subst (λ n. GoesOn n run) (sym chain.limit_is) chain.going; starts = starts }
  conditions_hold is_grid certified CellsStandOnce = lists
  conditions_hold is_grid certified StartsFromSeed = λ trial at. (chain.start trial at).from_seed
  conditions_hold is_grid certified DiesKeepRules = λ number base trial base_at at. keeps_rules (number + 1) trial at
  conditions_hold is_grid certified CutNoMore = cuts_no_more
  conditions_hold is_grid certified DiesAreSettled = settles
  conditions_hold is_grid certified HaveTargets = λ number base trial base_at at has. (placed_step number base trial base_at at has).are_targets
  conditions_hold is_grid certified HaveRows = picks
  conditions_hold is_grid certified RowsAreFeasible = λ number trial at has. (placed_well number trial at has).feasible
  conditions_hold is_grid certified RowsHaveDuals = λ number trial at has. (certified number trial at has).duals
  conditions_hold is_grid certified CutNetsAreListed = λ number trial at has.
      cuts_listed p grid trial sound.plan is_grid (dies_placed p trial has) (placed_well number trial at has).scored
  conditions_hold is_grid certified SlotsHavePrices = λ number trial at has. (certified number trial at has).prices
  conditions_hold is_grid certified ScoresAreRight = (chain.cost_is, (λ number trial at has. (placed_well number trial at has).scored.score_is))
  conditions_hold is_grid certified BetterIsBetter = λ number base trial base_at at has. (placed_step number base trial base_at at has).ending_is
  conditions_hold is_grid certified DrawsAnswer =
      draws_itself p (placed_shown p grid (answer_of run)) (length-spots_shown p (answer_of run)) (length-terminals_shown p grid (answer_of run))

-- The run of a problem and the drawing of its answer meet all conditions.
pub complete : (p : Netlist) (grid : Slots) (limit : ℕ) (run : ShownRun) → IsSound p → IsGrid p.plan.frame p.plan.terminal grid → IsChain p grid limit run → AreCertified p grid run
    → CertOk p (drawn_of (placed_shown p grid (answer_of run))) run
complete p grid limit run sound is_grid chain certified = (grid, is_grid, conditions_hold p grid limit run sound chain is_grid certified)
