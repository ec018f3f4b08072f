-- The law that the sixteen conditions show what they should: the drawing is legal and is the answer of a run that was made as it should be,
-- which scores no more than the seed and than each trial.
use Rattle.std.specs.Prelude.{◌≡◌, ℕ, zero, suc, ◌+◌, ◌<◌, Bool, true, false, List, length, get_or, slice_get, Some, pos, ◌≤ℤ◌, ◌+ℤ◌}
use Rattle.std.proofs.Common.{refl, sym, ap, subst, ◌∙◌, arith}
use Rattle.std.proofs.lemmas.Int.{ints}
use Rattle.std.proofs.lemmas.List.{ext_get_or, get_or-map, length-map}
use Rattle.std.proofs.lemmas.Option.{slice_get-get_or, get_or_from_slice_get}
use Rattle.fp_base.specs.declared.ids.CellId.{CellId}
use Rattle.fp_base.specs.declared.ids.Die.{Die}
use Rattle.fp_tech.specs.declared.dies.Segment.{Segment}
use Rattle.fp_tech.specs.Plan.{segments}
use Rattle.fp_tech.specs.Slots.{Slots, slot_count, IsGrid}
use Rattle.fp_netlist.specs.Netlist.{Netlist, IsSound}
use Rattle.fp_place.specs.declared.placement.Spot.{Spot}
use Rattle.fp_place.specs.Cut.{cut}
use Rattle.fp_place.specs.Drawing.{Drawing}
use Rattle.fp_place.specs.Places.{nowhere, dies_of}
use Rattle.fp_place.specs.Placed.{no_spot, spot_at, place_of, IsSpotOf}
use Rattle.fp_place.specs.Settled.{KeepRules, settled}
use Rattle.fp_rows.specs.SquaresLaws.{shown_is_best}
use Rattle.fp_score.specs.FirstFit.{Seat, no_segment, segment_at, IsSeed, seat_dies, seat_place, seat_places, fit_terminals}
use Rattle.fp_score.specs.Pick.{picked}
use Rattle.fp_score.specs.Score.{score}
use Rattle.fp_score.specs.SlotBestLaws.{slot_best_by_fit}
use Rattle.fp_score.specs.Target.{AreTargets}
use Rattle.fp_seed.specs.RulesLaws.{dies_of_seats}
use Rattle.fp_seed.specs.SeededLaws.{one_seed, seed_keeps_rules, seed_has_slots}
use Rattle.fp_cert.specs.declared.shown.Ending.{Ending}
use Rattle.fp_cert.specs.declared.shown.Ending.TheVariants as endings
use Rattle.fp_cert.specs.Certified.{row_duals}
use Rattle.fp_cert.specs.Endings.{has_rows}
use Rattle.fp_cert.specs.OfProblem.{IsPlacedTrialOf, IsRunOf}
use Rattle.fp_cert.specs.Shown.{ShownTrial, ShownRun}
use Rattle.fp_cert.specs.Standing.{spots_shown, targets_shown, places_shown, terminals_shown, placed_shown, dies_shown}
use Rattle.fp_cert.specs.Trials.{row_cells, row_xs, AreRowsBest, IsScored, no_seat, IsFromSeed, IsStart, compared, IsRowless, Does, IsStep, no_trial, IsChain, answer_of}
use Rattle.fp_check.specs.AnswerLaws.{answer_at, answer_least}
use Rattle.fp_check.specs.Answers.{IsRightAnswer}
pub use Rattle.fp_check.specs.Answers.{AreNetsOf}
use Rattle.fp_check.specs.Conditions.{Condition, TrialsGoOn, CellsStandOnce, StartsFromSeed, DiesKeepRules, DiesAreSettled, HaveTargets, HaveRows, RowsAreFeasible, RowsHaveDuals, CutNetsAreListed, SlotsHavePrices, ScoresAreRight, BetterIsBetter, DrawsAnswer, Holds, number_of, CertOk, OfEach, OfNext, OfPlaced, OfNextPlaced, IsScoreOf, Draws, GoesOnFromStart, StandOnceShown, ListsOnce, LanesArePicked, HasNoRow, IsPick, AreFeasibleShown, AreCutsListed}
use Rattle.fp_check.specs.DrawnLegalLaws.{drawn_legal}
use Rattle.fp_check.specs.RoomLaws.{stand_once, lanes_picked, rooms}
use Rattle.fp_check.specs.ShownLaws.{trial_of, placed_trial, rowless_trial, length-spots_shown, dies_placed, shown_of_problem, shown_agrees, shown_in_order}
use Rattle.fp_check.specs.SlotsShownLaws.{slots_best, shown_on_cuts, shown_on_slots}
use Rattle.fp_check.specs.Sound.{Shows}
use Rattle.fp_check.specs.StepsLaws.{has_base, start_keeps_rules}

-- ---- endings

-- a trial that did not place its cells found no row for a cell
record IsNoRow (ending : Ending) : Type 0 where
  cell : CellId
  is : ending ≡ endings.NoRow cell

no_row : (ending : Ending) → has_rows ending ≡ false → IsNoRow ending
no_row endings.Start none = absurd (let no : true ≡ false = none in cc)
no_row endings.Better none = absurd (let no : true ≡ false = none in cc)
no_row endings.NotBetter none = absurd (let no : true ≡ false = none in cc)
no_row (endings.NoRow cell) none = record { cell = cell; is = refl }

-- ---- a trial from the seed

-- a spot of the problem lies on its segment's row
row_of_spot : (p : Netlist) (spot : Spot) → IsSpotOf p spot → spot.y ≡ (segment_at p.plan spot.die spot.segment).y
row_of_spot p spot is =
    is.row ∙ sym (ap (λ (s : Segment). s.y) (get_or_from_slice_get (segments p.plan spot.die) spot.segment is.segment no_segment is.there))

-- its places are those of the seats
seed_places : (p : Netlist) (grid : Slots) (trial : ShownTrial) (from : IsFromSeed p grid trial) → ((cell : ℕ) → cell < length p.cells → IsSpotOf p (spot_at (spots_shown p trial) cell))
    → places_shown p trial ≡ seat_places p.plan from.seats
seed_places p grid trial from spots =
    ext_get_or nowhere (places_shown p trial) (seat_places p.plan from.seats) (long ∙ sym (length-map from.seats (seat_place p.plan) ∙ many)) (λ cell below.
    let spot = spot_at (spots_shown p trial) cell in
    let seat = get_or from.seats cell no_seat in
    let inside : cell < length p.cells = omega (arith, below, long) in
    let at = from.seated cell inside in
    let y : spot.y ≡ (segment_at p.plan seat.die seat.segment).y = row_of_spot p spot (spots cell inside) ∙ (λ i. (segment_at p.plan (at.die_is i) (at.segment_is i)).y) in
    get_or-map place_of (spots_shown p trial) cell no_spot nowhere (omega (arith, inside, length-spots_shown p trial))
    ∙ (λ i. record { die = at.die_is i; x = at.x_is i; y = y i })
    ∙ sym (get_or-map (seat_place p.plan) from.seats cell no_seat nowhere (omega (arith, inside, many))))
  where
    long : length (places_shown p trial) ≡ length p.cells
    long = length-map (spots_shown p trial) place_of ∙ length-spots_shown p trial

    many : length from.seats ≡ length p.cells
    many =
        sym (length-map from.seats (λ (seat : Seat). seat.die))
        ∙ (seed_keeps_rules p (slot_count grid) from.first from.seats from.seed).cells

-- ---- a run of which all conditions hold but for the one on the drawing

module _ (p : Netlist) (grid : Slots) (drawing : Drawing) (run : ShownRun) (sound : IsSound p) (is_grid : IsGrid p.plan.frame p.plan.terminal grid)
    (of_run : IsRunOf p (slot_count grid) run) (before : (condition : Condition) → number_of condition < 16 → Holds p grid drawing run condition) where
  goes : GoesOnFromStart run
  goes = before TrialsGoOn (omega arith)

  lists : OfEach run (λ trial. ListsOnce p trial trial.ending)
  lists = before CellsStandOnce (omega arith)

  from_seed : (trial : ShownTrial) → slice_get run.trials 0 ≡ Some trial → IsFromSeed p grid trial
  from_seed = before StartsFromSeed (omega arith)

  settles : OfNext run (λ base trial. dies_shown p trial ≡ settled p (dies_shown p base))
  settles = before DiesAreSettled (omega arith)

  picks : OfNext run (λ base trial. IsPick p base trial trial.ending)
  picks = before HaveRows (omega arith)

  scores : OfPlaced run (IsScoreOf p grid)
  scores = (before ScoresAreRight (omega arith)).1

  betters : OfNextPlaced run (λ base trial. trial.ending ≡ compared trial.score base.score)
  betters = before BetterIsBetter (omega arith)

  -- ---- of each trial that placed its cells

  module _ (number : ℕ) (trial : ShownTrial) (at : slice_get run.trials number ≡ Some trial) (has : has_rows trial.ending ≡ true) where
    placed : IsPlacedTrialOf p (slot_count grid) trial
    placed = placed_trial p (slot_count grid) trial (trial_of p (slot_count grid) run number trial of_run at) has

    once : StandOnceShown p trial
    once = stand_once p trial trial.ending has (lists number trial at)

    dies_are : dies_shown p trial ≡ dies_of (places_shown p trial)
    dies_are = dies_placed p trial has

    feasible : AreFeasibleShown p trial
    feasible = before RowsAreFeasible (omega arith) number trial at has

    listed : AreCutsListed p trial
    listed = before CutNetsAreListed (omega arith) number trial at has

    -- each row is the best
    rows_best : AreRowsBest p trial
    rows_best die place segment row there row_at =
        let room = rooms p grid run sound of_run lists from_seed picks number trial at has in
        shown_is_best (row_cells p die row) segment.start (segment.start +ℤ segment.length) (row_xs row) (row_duals row) (room.rows die place segment row there row_at).each
        (feasible die place segment row there row_at) (before RowsHaveDuals (omega arith) number trial at has die place segment row there row_at)

    -- its cut nets have the best slots, and its score is right
    scored : IsScored p grid trial
    scored = record {
      nets = listed.nets;
      slots = slots_best p grid trial dies_are listed placed.cuts (before SlotsHavePrices (omega arith) number trial at has);
      score_is = scores number trial at has;
      no_tops = placed.no_tops;
    }

  -- ---- the run

  -- the first trial is the seed's
  start : (trial : ShownTrial) → slice_get run.trials 0 ≡ Some trial → IsStart p grid trial
  start trial at =
      let ending_is : trial.ending ≡ endings.Start = (goes.starts 0 trial at).1 refl in
      let has : has_rows trial.ending ≡ true = ap has_rows ending_is in
      record {
        ending_is = ending_is;
        lanes = (placed 0 trial at has).segments_are;
        once = once 0 trial at has;
        from_seed = from_seed trial at;
        scored = scored 0 trial at has;
      }

  -- a trial that placed its cells is made of the one before it
  placed_step : (number : ℕ) (base trial : ShownTrial) → slice_get run.trials number ≡ Some base → slice_get run.trials (number + 1) ≡ Some trial → has_rows trial.ending ≡ true
      → IsStep p grid base trial
  placed_step number base trial base_at at has =
      let dies : dies_shown p trial ≡ settled p (dies_shown p base) = settles number base trial base_at at in
      let targets : AreTargets p (places_shown p base) (dies_shown p trial) (targets_shown p trial) = before HaveTargets (omega arith) number base trial base_at at has in
      let pick : LanesArePicked p trial = lanes_picked p base trial trial.ending has (picks number base trial base_at at) in
      let better : trial.ending ≡ compared trial.score base.score = betters number base trial base_at at has in
      let does : Does p grid (dies_shown p trial) (targets_shown p trial) base.score trial (picked p (dies_shown p trial) (targets_shown p trial)) =
      subst (Does p grid (dies_shown p trial) (targets_shown p trial) base.score trial) (sym pick) (
        record { top_is = refl; bottom_is = refl; targets_are = refl; rows = rows_best (number + 1) trial at has },
        scored (number + 1) trial at has,
        better,
      ) in
      record {
        targets = targets_shown p trial;
        are_targets = subst (λ (ds : List Die). AreTargets p (places_shown p base) ds (targets_shown p trial)) dies targets;
        does = subst (λ (ds : List Die). Does p grid ds (targets_shown p trial) base.score trial (picked p ds (targets_shown p trial))) dies does;
      }

  -- and so is one that found no row
  rowless_step : (number : ℕ) (base trial : ShownTrial) → slice_get run.trials number ≡ Some base → slice_get run.trials (number + 1) ≡ Some trial → IsNoRow trial.ending
      → IsStep p grid base trial
  rowless_step number base trial base_at at none =
      let dies : dies_shown p trial ≡ settled p (dies_shown p base) = settles number base trial base_at at in
      let lists : ListsOnce p trial (endings.NoRow none.cell) = subst (ListsOnce p trial) none.is (lists (number + 1) trial at) in
      let pick : HasNoRow p base trial none.cell.0 = subst (IsPick p base trial) none.is (picks number base trial base_at at) in
      let of = rowless_trial p (slot_count grid) trial none.cell (trial_of p (slot_count grid) run (number + 1) trial of_run at) none.is in
      let rowless : IsRowless p (dies_shown p trial) none.cell.0 trial =
      record {
        ending_is = none.is;
        dies_are = refl;
        within = of.tops;
        distinct = lists;
        no_top = of.no_top;
        no_bottom = of.no_bottom;
        no_cuts = of.no_cuts;
        no_score = of.no_score;
      } in
      let does : Does p grid (dies_shown p trial) pick.targets base.score trial (picked p (dies_shown p trial) pick.targets) =
      subst (Does p grid (dies_shown p trial) pick.targets base.score trial) (sym pick.stops) rowless in
      record {
        targets = pick.targets;
        are_targets = subst (λ (ds : List Die). AreTargets p (places_shown p base) ds pick.targets) dies pick.are_targets;
        does = subst (λ (ds : List Die). Does p grid ds pick.targets base.score trial (picked p ds pick.targets)) dies does;
      }

  step : (number : ℕ) (base trial : ShownTrial) → slice_get run.trials number ≡ Some base → slice_get run.trials (number + 1) ≡ Some trial → IsStep p grid base trial
  step number base trial base_at at = by (has_rows trial.ending) refl
    where
      by : (b : Bool) → has_rows trial.ending ≡ b → IsStep p grid base trial
      by true has = placed_step number base trial base_at at has
      by false none = rowless_step number base trial base_at at (no_row trial.ending none)

  -- So the run is that of the problem and its own limit.
  pub chain_holds : IsChain p grid run.limit run
  chain_holds = record { limit_is = refl; cost_is = (before ScoresAreRight (omega arith)).0; going = goes.going; start = start; steps = step }

  -- ---- its answer

  -- each trial's dies keep the rules
  rules : (number : ℕ) (trial : ShownTrial) → slice_get run.trials number ≡ Some trial → KeepRules p (dies_shown p trial)
  rules zero trial at = start_keeps_rules p grid trial (start trial at)
  rules (suc number) trial at = let behind = has_base run number trial at in before DiesKeepRules (omega arith) number behind.base trial behind.base_at behind.at

  -- each trial that placed its cells shows a placement whose drawings are legal
  right : (number : ℕ) (trial : ShownTrial) → slice_get run.trials number ≡ Some trial → has_rows trial.ending ≡ true → IsRightAnswer p grid (placed_shown p grid trial)
  right number trial at has = record {
    of_problem = shown_of_problem p grid trial sound.plan is_grid (placed number trial at has) (once number trial at has);
    agree = shown_agrees p grid trial (once number trial at has);
    in_order = shown_in_order p grid trial (once number trial at has) (feasible number trial at has);
    rules = subst (KeepRules p) (dies_are number trial at has) (rules number trial at);
    on_cuts = shown_on_cuts p grid trial (dies_are number trial at has) (listed number trial at has) (placed number trial at has).cuts;
    on_slots = shown_on_slots p grid trial (dies_are number trial at has) (listed number trial at has) (placed number trial at has).cuts sound.plan is_grid;
  }

  -- The first trial scores no more than the seed,
  first_by_seed : (trial : ShownTrial) → slice_get run.trials 0 ≡ Some trial → (first : Die) (seats : List Seat) → IsSeed p (slot_count grid) first seats
      → pos trial.score ≤ℤ score p (seat_places p.plan seats) (fit_terminals p grid (seat_dies seats))
  first_by_seed trial at first seats seed =
      let starts = start trial at in
      let from = starts.from_seed in
      let has : has_rows trial.ending ≡ true = ap has_rows starts.ending_is in
      let of = (right 0 trial at has).of_problem in
      let mine : places_shown p trial ≡ seat_places p.plan from.seats = seed_places p grid trial from (λ cell below. of.spots cell no_spot (omega (arith, below, of.cells))) in
      let places : places_shown p trial ≡ seat_places p.plan seats =
      mine ∙ ap (seat_places p.plan) (one_seed p (slot_count grid) from.first first from.seats seats from.seed seed) in
      let dies : dies_of (places_shown p trial) ≡ seat_dies seats = ap dies_of places ∙ dies_of_seats p.plan seats in
      let enough = seed_has_slots p (slot_count grid) first seats seed in
      let least = slot_best_by_fit p (places_shown p trial) grid (terminals_shown p grid trial) starts.scored.slots (omega (arith, enough, ap (cut p) dies)) in
      let its : score p (places_shown p trial) (fit_terminals p grid (dies_of (places_shown p trial))) ≡ score p (seat_places p.plan seats) (fit_terminals p grid (seat_dies seats)) =
      λ i. score p (places i) (fit_terminals p grid (dies i)) in
      omega (arith, ints, least, its, starts.scored.score_is)

  -- The answer is a placement whose drawings are legal.
  pub answer_right : IsRightAnswer p grid (placed_shown p grid (answer_of run))
  answer_right =
      let answer = answer_at run goes in
      subst (λ (t : ShownTrial). IsRightAnswer p grid (placed_shown p grid t)) (sym answer.answers) (right run.answer answer.trial answer.at answer.has)

  -- It scores no more than the seed and than each trial; so where it is drawn, the conditions show what they should.
  shows : AreNetsOf p drawing → Draws p drawing (placed_shown p grid (answer_of run)) → Shows p drawing run
  shows nets draws = record {
    grid = grid;
    is_grid = is_grid;
    legal = drawn_legal p grid (placed_shown p grid (answer_of run)) drawing sound.plan is_grid answer_right nets draws;
    chain = chain_holds;
    draws = draws;
    scored = let answer = answer_at run goes in
        subst (λ (t : ShownTrial). pos t.score ≡ score p (places_shown p t) (terminals_shown p grid t)) (sym answer.answers) (scores run.answer answer.trial answer.at answer.has);
    at_most_seed = λ first seats seed.
        let trial = get_or run.trials 0 no_trial in
        let at : slice_get run.trials 0 ≡ Some trial = slice_get-get_or run.trials 0 no_trial (omega (arith, goes.going.some)) in
        let less = answer_least run goes betters 0 trial at (ap has_rows (start trial at).ending_is) in
        omega (arith, ints, less, first_by_seed trial at first seats seed);
    at_most_each = answer_least run goes betters;
  }

-- Where all conditions hold of a run and a drawing of the problem, the drawing is legal and the run's answer, and the run is that of its limit.
pub sound : (p : Netlist) (drawing : Drawing) (run : ShownRun) → IsSound p → AreNetsOf p drawing
    → ((grid : Slots) → IsGrid p.plan.frame p.plan.terminal grid → IsRunOf p (slot_count grid) run) → CertOk p drawing run → Shows p drawing run
sound p drawing run is nets of_run ok =
    shows p ok.0 drawing run is ok.1 (of_run ok.0 ok.1) (λ condition below. ok.2 condition) nets (ok.2 DrawsAnswer)
