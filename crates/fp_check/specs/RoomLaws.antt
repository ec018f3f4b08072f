-- Laws of the rows of a run's trials: each segment has room for its row.
use Rattle.std.specs.Prelude.{◌≡◌, ℕ, ◌+◌, ◌<◌, true, false, All, List, [], ◌∷◌, length, map, get_or, slice_get, Some, ℤ, pos, ◌+ℤ◌, ◌≤ℤ◌}
use Rattle.std.proofs.Common.{zero, suc, refl, sym, ap, subst, ◌∙◌, arith}
use Rattle.std.proofs.lemmas.Int.{ints}
use Rattle.std.proofs.lemmas.List.{length-map}
use Rattle.std.proofs.lemmas.List.Elements.{All-map, All-weaker}
use Rattle.std.proofs.lemmas.List.Sums.{sum_by-cons}
use Rattle.std.proofs.lemmas.Option.{slice_get_within, get_or_from_slice_get}
use Rattle.fp_base.specs.declared.ids.CellId.{CellId}
use Rattle.fp_base.specs.declared.ids.Die.{Die}
use Rattle.fp_base.specs.declared.ids.Die.TheVariants.{Top, Bottom}
use Rattle.fp_base.specs.declared.ids.Point.{Point}
use Rattle.fp_tech.specs.declared.dies.Segment.{Segment}
use Rattle.fp_tech.specs.Plan.{segments}
use Rattle.fp_tech.specs.Slots.{Slots, slot_count}
use Rattle.fp_netlist.specs.Netlist.{Netlist, IsSound}
use Rattle.fp_netlist.specs.Points.{width}
use Rattle.fp_place.specs.Places.{Place, place_at}
use Rattle.fp_place.specs.Placed.{lanes_on, StandBetween}
use Rattle.fp_rows.specs.declared.RowCell.{RowCell}
use Rattle.fp_rows.specs.Squares.{IsRow, IsPlace}
use Rattle.fp_score.specs.FirstFit.{no_segment, segment_at}
use Rattle.fp_score.specs.Pick.{point_at}
use Rattle.fp_coarse.specs.HoldingLaws.{picked_holds}
use Rattle.fp_coarse.specs.Picking.{lane_width}
use Rattle.fp_cert.specs.declared.shown.CellShown.{CellShown}
use Rattle.fp_cert.specs.declared.shown.Ending.{Ending}
use Rattle.fp_cert.specs.declared.shown.Ending.TheVariants as endings
use Rattle.fp_cert.specs.Endings.{has_rows}
use Rattle.fp_cert.specs.OfProblem.{IsCellOf, IsRowOf, IsPlacedTrialOf, IsRunOf}
use Rattle.fp_cert.specs.RowsLaws.{cell_for, IsNearX, row_is}
use Rattle.fp_cert.specs.Shown.{ShownRow, ShownTrial, ShownRun, rows_of}
use Rattle.fp_cert.specs.Standing.{targets_shown, places_shown, lane_shown, lanes_shown}
use Rattle.fp_cert.specs.Trials.{row_cell, IsFromSeed}
use Rattle.fp_check.specs.Conditions.{StandOnceShown, ListsOnce, LanesArePicked, IsPick, OfEach, OfNext, GoesOnFromStart}
use Rattle.fp_check.specs.Rooms.{HasRoom, HaveRoom}
use Rattle.fp_check.specs.ShownLaws.{at_each, trial_of, placed_trial, target_of_line, cell_of_line, has_line}
use Rattle.fp_check.specs.StepsLaws.{has_base, lane_there}

-- ---- by a trial's ending

pub stand_once : (p : Netlist) (trial : ShownTrial) (ending : Ending) → has_rows ending ≡ true → ListsOnce p trial ending → StandOnceShown p trial
stand_once p trial endings.Start has lists = lists
stand_once p trial endings.Better has lists = lists
stand_once p trial endings.NotBetter has lists = lists
stand_once p trial (endings.NoRow cell) has lists = absurd (let no : false ≡ true = has in cc)

pub lanes_picked : (p : Netlist) (base trial : ShownTrial) (ending : Ending) → has_rows ending ≡ true → IsPick p base trial ending → LanesArePicked p trial
lanes_picked p base trial endings.Start has pick = pick
lanes_picked p base trial endings.Better has pick = pick
lanes_picked p base trial endings.NotBetter has pick = pick
lanes_picked p base trial (endings.NoRow cell) has pick = absurd (let no : false ≡ true = has in cc)

-- ---- room

-- cells that stand in order are as wide together as there is room, or less
widths_fit : (p : Netlist) (die : Die) (places : List Place) (from to : ℤ) (lane : List CellId) → StandBetween p die places from to lane
    → (from +ℤ pos (lane_width p die lane)) ≤ℤ to
widths_fit p die places from to [] stand = omega (arith, ints, stand)
widths_fit p die places from to (cell ∷ lane) stand =
    let rest = widths_fit p die places ((place_at places cell.0).x +ℤ pos (width p cell.0 die)) to lane stand.1 in
    omega (arith, ints, rest, stand.0, sum_by-cons (λ (c : CellId). width p c.0 die) cell lane)

-- each segment has room for its lane
abbrev LanesFit : Netlist → ShownTrial → Type 0
LanesFit p trial = (die : Die) (number : ℕ) (segment : Segment) (row : ShownRow) → slice_get (segments p.plan die) number ≡ Some segment → slice_get (rows_of trial die) number ≡ Some row
    → pos (lane_width p die (lane_shown row)) ≤ℤ segment.length

seed_fits : (p : Netlist) (grid : Slots) (trial : ShownTrial) → IsFromSeed p grid trial → LanesFit p trial
seed_fits p grid trial from die number segment row there at =
    let fit = widths_fit p die (places_shown p trial) segment.start (segment.start +ℤ segment.length) (lane_shown row)
    (from.in_order die number segment (lane_shown row) there (lane_there trial die number row at)) in
    omega (arith, ints, fit)

pick_fits : (p : Netlist) (trial : ShownTrial) → IsSound p → LanesArePicked p trial → LanesFit p trial
pick_fits p trial sound picks die number segment row there at =
    let hold = picked_holds p _ _ _ sound picks in
    let fits = hold.fits die number (slice_get_within (segments p.plan die) number segment there) in
    let lane : get_or (lanes_on (lanes_shown trial Top) (lanes_shown trial Bottom) die) number [] ≡ lane_shown row =
    get_or_from_slice_get (lanes_on (lanes_shown trial Top) (lanes_shown trial Bottom) die) number (lane_shown row) [] (lane_there trial die number row at) in
    let is : segment_at p.plan die number ≡ segment = get_or_from_slice_get (segments p.plan die) number segment no_segment there in
    subst (λ (s : Segment). pos (lane_width p die (lane_shown row)) ≤ℤ s.length) is (subst (λ (l : List CellId). pos (lane_width p die l) ≤ℤ (segment_at p.plan die number).length) lane fits)

-- ---- a trial's rows

row_cells_are : (p : Netlist) (die : Die) (targets : List Point) (cells : List CellShown) → ((k : ℕ) (cell : CellShown) → slice_get cells k ≡ Some cell → point_at targets cell.cell.0 ≡ cell.target)
    → map (cell_for p die targets) (map (λ (cell : CellShown). cell.cell) cells) ≡ map (row_cell p die) cells
row_cells_are p die targets [] same = refl
row_cells_are p die targets (cell ∷ cells) same =
    let here : (point_at targets cell.cell.0).x ≡ cell.target.x = ap (λ (target : Point). target.x) (same 0 cell refl) in
    λ i. record (row_cell p die cell) { target = here i } ∷ row_cells_are p die targets cells (λ k c at. same (suc k) c at) i

module _ (p : Netlist) (slots : ℕ) (trial : ShownTrial) (sound : IsSound p) (once : StandOnceShown p trial) (is : IsPlacedTrialOf p slots trial) where
  -- each target is in range
  near : (cell : ℕ) → cell < length p.cells → IsNearX (point_at (targets_shown p trial) cell).x
  near cell below =
      let line = has_line p trial cell once below in
      let target : point_at (targets_shown p trial) cell ≡ line.shown.target =
      ap (point_at (targets_shown p trial)) (sym line.number_is) ∙ target_of_line p trial line.die line.segment line.rank line.row line.shown once line.there line.at in
      let range = (cell_of_line p slots trial line.die line.segment line.rank line.row line.shown is line.there line.at).target_x in
      subst (λ (point : Point). IsNearX point.x) (sym target) (record { low = range.least; high = range.most })

  room_of : LanesFit p trial → HasRoom p trial
  room_of fit = record {
    long = is.segments_are;
    rows = λ die number segment row there at.
        subst (λ (cells : List RowCell). IsRow cells segment.start (segment.start +ℤ segment.length))
        (row_cells_are p die (targets_shown p trial) row.cells (λ k cell held. target_of_line p trial die number k row cell once at held))
        (row_is p (lanes_shown trial Top) (lanes_shown trial Bottom) die number segment (lane_shown row) (targets_shown p trial) sound once there (lane_there trial die number row at)
        (fit die number segment row there at) near);
    places = λ die number row at. record {
      count = length-map row.cells (λ (cell : CellShown). cell.x) ∙ sym (length-map row.cells (row_cell p die));
      range = All-map IsPlace (λ (cell : CellShown). cell.x) row.cells (λ k d below.
          let x = ((at_each (IsRowOf p) (rows_of trial die) number row (is.rows die) at).cells k d below).x in
          (x.least, omega (arith, ints, x.most)));
    };
    within = λ die. All-weaker (IsRowOf p) (λ (row : ShownRow). All (λ (line : CellShown). line.cell.0 < length p.cells) row.cells)
        (λ row of_problem. All-weaker (IsCellOf p) (λ (line : CellShown). line.cell.0 < length p.cells) (λ line cell. cell.within) row.cells of_problem.cells)
        (rows_of trial die) (is.rows die);
  }

-- ---- all trials

-- In a run of a problem where each cell stands once, the first trial is from the seed and each next one has its chosen rows, each segment has
-- room for its row.
pub rooms : (p : Netlist) (grid : Slots) (run : ShownRun) → IsSound p → IsRunOf p (slot_count grid) run → OfEach run (λ trial. ListsOnce p trial trial.ending)
    → ((trial : ShownTrial) → slice_get run.trials 0 ≡ Some trial → IsFromSeed p grid trial) → OfNext run (λ base trial. IsPick p base trial trial.ending) → HaveRoom p run
rooms p grid run sound of_run lists starts picks number trial at has =
    room_of p (slot_count grid) trial sound (stand_once p trial trial.ending has (lists number trial at))
    (placed_trial p (slot_count grid) trial (trial_of p (slot_count grid) run number trial of_run at) has) (fits number at)
  where
    fits : (number : ℕ) → slice_get run.trials number ≡ Some trial → LanesFit p trial
    fits zero at = seed_fits p grid trial (starts trial at)
    fits (suc number) at =
        let before = has_base run number trial at in
        pick_fits p trial sound (lanes_picked p before.base trial trial.ending has (picks number before.base trial before.base_at before.at))

-- ---- bases

-- each trial that is the base of another one placed its cells
pub has_layouts : (run : ShownRun) → GoesOnFromStart run → (number : ℕ) (base trial : ShownTrial) → slice_get run.trials number ≡ Some base → slice_get run.trials (number + 1) ≡ Some trial
    → has_rows base.ending ≡ true
has_layouts run goes zero base trial base_at at = ap has_rows ((goes.starts 0 base base_at).1 refl)
has_layouts run goes (suc number) base trial base_at at =
    ap has_rows (goes.going.goes_on (suc number) base (omega arith) (omega (arith, slice_get_within run.trials (suc number + 1) trial at)) base_at)
