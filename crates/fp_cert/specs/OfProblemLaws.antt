-- What makes a trial, and a run, one of the problem.
use Rattle.std.specs.Prelude.{◌≡◌, ℕ, suc, ◌+◌, ◌<◌, ◌≤◌, ◌^◌, Bool, true, false, if◌then◌else◌, List, [], ◌∷◌, length, map, get_or, slice_get, Some, None, All}
use Rattle.std.proofs.Common.{sym, ap, subst, ◌∙◌, arith}
use Rattle.std.proofs.lemmas.List.{length-map, get_or-map}
use Rattle.std.proofs.lemmas.Option.{slice_get-get_or}
use Rattle.fp_base.specs.declared.ids.Die.{Die}
use Rattle.fp_base.specs.declared.ids.Die.TheVariants.{Top, Bottom}
use Rattle.fp_base.specs.declared.ids.Point.{Point}
use Rattle.fp_tech.specs.Plan.{segments}
use Rattle.fp_tech.specs.Slots.{Slots, slot_count}
use Rattle.fp_netlist.specs.Netlist.{Netlist, IsSound}
use Rattle.fp_place.specs.Cut.{cut}
use Rattle.fp_place.specs.Drawing.{IsCoordinate}
use Rattle.fp_place.specs.Placed.{no_spot, spot_at, DoAgree, StandOnce, IsSpotOf, IsPlacementOf}
use Rattle.fp_cert.specs.declared.shown.CellShown.{CellShown}
use Rattle.fp_cert.specs.declared.shown.CutShown.{CutShown}
use Rattle.fp_cert.specs.declared.shown.Ending.{Ending}
use Rattle.fp_cert.specs.declared.shown.Ending.TheVariants.{Start, Better, NotBetter, NoRow}
use Rattle.fp_cert.specs.Certified.{row_duals, IsCertified}
use Rattle.fp_cert.specs.CutLinesLaws.{length-cut_nets, cut_net_at}
use Rattle.fp_cert.specs.Endings.{has_rows}
use Rattle.fp_cert.specs.FewLaws.{few_cells_in, few_cut, few_distinct}
use Rattle.fp_cert.specs.OfProblem.{most_shown, IsTargetAt, IsTargetPoint, IsCellOf, IsRowOf, IsCutOf, IsPlacedTrialOf, IsEndedTrialOf, IsTrialOf, IsRunOf}
use Rattle.fp_cert.specs.Shown.{ShownRow, ShownTrial, ShownRun, rows_of}
use Rattle.fp_cert.specs.Standing.{target_by, spots_shown, targets_shown, lane_shown, lanes_shown, placed_shown, dies_shown}
use Rattle.fp_cert.specs.StandingLaws.{entry_shown, once_of, shows_itself, length-targets_shown}
use Rattle.fp_cert.specs.Trials.{cut_nets, is_better, IsScored, IsRowless, last_better, IsChain}

-- ---- a trial that placed its cells

-- a trial shows a placement of the problem, with targets, slots and a score in range
pub record ShowsPlacement (p : Netlist) (grid : Slots) (trial : ShownTrial) : Type 0 where
  pub of_problem : IsPlacementOf p (placed_shown p grid trial)
  pub agree : DoAgree (placed_shown p grid trial)
  pub near : All IsTargetPoint (targets_shown p trial)
  pub slots : All (λ cut. cut.slot.0 < slot_count grid) trial.cuts
  pub small : trial.score ≤ most_shown
  pub scored : IsScored p grid trial
  pub certified : IsCertified p grid trial

-- each cell is listed once
once_shown : (p : Netlist) (grid : Slots) (trial : ShownTrial) → ShowsPlacement p grid trial → StandOnce (length p.cells) (lanes_shown trial Top) (lanes_shown trial Bottom)
once_shown p grid trial shows = once_of (placed_shown p grid trial) (length p.cells) shows.agree shows.of_problem.cells

line_of_problem : (p : Netlist) (grid : Slots) (trial : ShownTrial) → ShowsPlacement p grid trial → (die : Die) (segment rank : ℕ) (row : ShownRow) (cell : CellShown)
    → slice_get (rows_of trial die) segment ≡ Some row → slice_get row.cells rank ≡ Some cell → cell.dual ≤ 2 ^ 57 → IsCellOf p cell
line_of_problem p grid trial shows die segment rank row cell there at small =
    let once = once_shown p grid trial shows in
    let below : cell.cell.0 < length p.cells = once.within die segment rank cell.cell (entry_shown trial die segment rank row cell there at) in
    let same = shows_itself p trial once die segment rank row cell there at in
    let spot : IsSpotOf p (spot_at (spots_shown p trial) cell.cell.0) = shows.of_problem.spots cell.cell.0 no_spot (omega (arith, below, shows.of_problem.cells)) in
    let target = shows.near cell.cell.0 (target_by None) (omega (arith, below, length-targets_shown p trial)) in
    record {
      within = below;
      x = subst IsCoordinate (sym same.0) spot.x;
      target_x = subst (λ (point : Point). IsTargetAt point.x) (sym same.1) target.0;
      target_y = subst (λ (point : Point). IsTargetAt point.y) (sym same.1) target.1;
      dual = omega (arith, small);
    }

rows_of_problem : (p : Netlist) (grid : Slots) (trial : ShownTrial) → ShowsPlacement p grid trial → (die : Die) → All (IsRowOf p) (rows_of trial die)
rows_of_problem p grid trial shows die = λ number d below.
    let row = get_or (rows_of trial die) number d in
    let there = slice_get-get_or (rows_of trial die) number d below in
    let small : All (λ dual. dual ≤ 2 ^ 57) (row_duals row) = shows.certified.small_duals die number d below in
    record {
      first = let first = small 0 0 (omega arith) in omega (arith, first);
      cells = λ rank c inside.
          let dual = small (suc rank) 0 (omega (arith, inside, length-map row.cells (λ (cell : CellShown). cell.dual))) in
          let same = get_or-map (λ (cell : CellShown). cell.dual) row.cells rank c 0 inside in
          line_of_problem p grid trial shows die number rank row (get_or row.cells rank c) there (slice_get-get_or row.cells rank c inside) (omega (arith, dual, same));
    }

many_cuts : (p : Netlist) (grid : Slots) (trial : ShownTrial) → IsScored p grid trial → length trial.cuts ≡ length (cut_nets p (dies_shown p trial))
many_cuts p grid trial scored = sym (length-map trial.cuts (λ (line : CutShown). line.net.0)) ∙ ap length scored.nets

cuts_of_problem : (p : Netlist) (grid : Slots) (trial : ShownTrial) → ShowsPlacement p grid trial → All (IsCutOf p (slot_count grid)) trial.cuts
cuts_of_problem p grid trial shows = λ rank d below.
    let few : rank < cut p (dies_shown p trial) = omega (arith, below, many_cuts p grid trial shows.scored, length-cut_nets p (dies_shown p trial)) in
    let is = cut_net_at p (dies_shown p trial) rank few in
    let same : get_or (map (λ (line : CutShown). line.net.0) trial.cuts) rank 0 ≡ (get_or trial.cuts rank d).net.0 =
    get_or-map (λ (line : CutShown). line.net.0) trial.cuts rank d 0 below in
    let listed = ap (λ (nets : List ℕ). get_or nets rank 0) shows.scored.nets in
    let price = shows.certified.small_prices rank d below in
    record { net = omega (arith, is.within, same, listed); slot = shows.slots rank d below; price = omega (arith, price) }

-- Such a trial is one of the problem.
pub placed_of_problem : (p : Netlist) (grid : Slots) (trial : ShownTrial) → IsSound p → ShowsPlacement p grid trial → IsPlacedTrialOf p (slot_count grid) trial
placed_of_problem p grid trial sound shows = record {
  segments_are = long;
  rows = rows_of_problem p grid trial shows;
  few_cells = omega (arith, few_cells_in (length p.cells) trial.top trial.bottom (once_shown p grid trial shows), sound.few_cells);
  cuts = cuts_of_problem p grid trial shows;
  few_cuts = omega (arith, many_cuts p grid trial shows.scored, few_cut p (dies_shown p trial), sound.few_nets);
  score = shows.small;
  no_tops = shows.scored.no_tops;
}
  where
    long : (die : Die) → length (rows_of trial die) ≡ length (segments p.plan die)
    long Top = sym (length-map trial.top lane_shown) ∙ shows.of_problem.top_lanes
    long Bottom = sym (length-map trial.bottom lane_shown) ∙ shows.of_problem.bottom_lanes

-- ---- a trial by its ending

pub placed_ended : (p : Netlist) (slots : ℕ) (trial : ShownTrial) (ending : Ending) → has_rows ending ≡ true → IsPlacedTrialOf p slots trial → IsEndedTrialOf p slots trial ending
placed_ended p slots trial Start has is = is
placed_ended p slots trial Better has is = is
placed_ended p slots trial NotBetter has is = is
placed_ended p slots trial (NoRow cell) has is = absurd (let no : false ≡ true = has in cc)

-- a trial for which a cell of the problem found no row
pub rowless_of_problem : (p : Netlist) (dies : List Die) (slots cell : ℕ) (trial : ShownTrial) → IsSound p → cell < length p.cells → IsRowless p dies cell trial → IsTrialOf p slots trial
rowless_of_problem p dies slots cell trial sound below is = subst (IsEndedTrialOf p slots trial) (sym is.ending_is) (record {
  within = below;
  tops = is.within;
  few_tops = omega (arith, few_distinct trial.top_cells (length p.cells) is.distinct is.within, sound.few_cells);
  no_top = is.no_top;
  no_bottom = is.no_bottom;
  no_cuts = is.no_cuts;
  no_score = is.no_score;
})

-- ---- a run

last_within : (most number last : ℕ) (trials : List ShownTrial) → last ≤ most → number + length trials ≤ most + 1 → last_better number last trials ≤ most
unfolding last_better
last_within most number last [] low many = low
last_within most number last (trial ∷ trials) low many = by (is_better trial.ending) (λ next at. last_within most (number + 1) next trials at (omega (arith, many)))
  where
    by : (b : Bool) → ((next : ℕ) → next ≤ most → last_better (number + 1) next trials ≤ most) → last_better (number + 1) (if b then number else last) trials ≤ most
    by true rest = rest number (omega (arith, many))
    by false rest = rest last low

-- a chain of trials of the problem, of a limit from 1 to 8
pub chain_of_problem : (p : Netlist) (grid : Slots) (limit : ℕ) (run : ShownRun) → IsSound p → 1 ≤ limit → limit ≤ 8 → IsChain p grid limit run
    → All (IsTrialOf p (slot_count grid)) run.trials → IsRunOf p (slot_count grid) run
chain_of_problem p grid limit run sound some few chain trials = record {
  some_limit = omega (arith, chain.limit_is, some);
  small_limit = omega (arith, chain.limit_is, few);
  cost = omega (arith, chain.cost_is, sound.plan.setup.terminal.cost);
  some = chain.going.some;
  few = omega (arith, chain.going.few, few);
  trials = trials;
  answer = omega (arith, chain.going.answer_is, last_within 8 0 0 run.trials (omega arith) (omega (arith, chain.going.few, few)));
}
