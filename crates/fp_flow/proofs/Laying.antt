-- Picked lanes can be placed, and their rows make a placement that the trial shows.
use Rattle.std.proofs.Common.{◌≡◌, ℕ, suc, ◌<◌, ◌≤ℤ◌, List, [], ◌∷◌, length, map, replicate, get_or, slice_get, Some, None, ℤ, pos, ◌+ℤ◌, refl, sym, ap, subst, ◌∙◌, arith}
use Rattle.std.specs.Prelude.{All}
use Rattle.std.proofs.Math.ListN.{get_or-map}
use Rattle.std.proofs.lemmas.Int.{ints}
use Rattle.std.proofs.lemmas.List.{length-map}
use Rattle.std.proofs.lemmas.List.FromFn.{length-map-range_with_len}
use Rattle.std.proofs.lemmas.Option.{slice_get_within, get_or_from_slice_get, slice_get-get_or}
use Rattle.fp_base.specs.declared.ids.CellId.{CellId}
use Rattle.fp_base.specs.declared.ids.Die.{Die}
use Rattle.fp_base.specs.declared.ids.Die.TheVariants.{Top, Bottom}
use Rattle.fp_base.specs.declared.ids.Point.{Point}
use Rattle.fp_tech.specs.Plan.{segments}
use Rattle.fp_netlist.specs.Netlist.{Netlist, IsSound}
use Rattle.fp_netlist.specs.Points.{width}
use Rattle.fp_place.specs.declared.placement.Spot.{Spot}
use Rattle.fp_place.specs.Drawing.{IsCoordinate}
use Rattle.fp_place.specs.Placed.{LaneList, Placed, no_spot, lanes_on, DoAgree, StandOnce, IsPlacementOf}
use Rattle.fp_place.specs.PlacedLaws.{entry_on}
use Rattle.fp_place.specs.Settled.{KeepRules}
use Rattle.fp_rows.specs.Squares.{Feasible}
use Rattle.fp_score.specs.FirstFit.{no_segment, segment_at}
use Rattle.fp_score.specs.Pick.{point_at}
use Rattle.fp_coarse.specs.Picking.{CanPick, HoldAll}
use Rattle.fp_coarse.specs.PickingLaws.{StandInRow, StandInRows, widths_of, xs_of, rows_in_order, rows_in_range}
use Rattle.fp_coarse.specs.Targets.{IsNearTarget}
use Rattle.fp_cert.specs.declared.shown.CellShown.{CellShown}
use Rattle.fp_cert.specs.RowsLaws.{row_is}
use Rattle.fp_cert.specs.Trials.{row_cell}
use Rattle.fp_cert.specs.Shown.{ShownRow, ShownTrial, rows_of}
use Rattle.fp_cert.specs.Standing.{spots_shown, spot_by, stand_of, lanes_shown}
use Rattle.fp_cert.specs.StandingLaws.{ShowsEach, shows_itself, spots_are, targets_are}
use Rattle.fp_flow.specs.Lanes.{CanPlaceAll}
use Rattle.fp_flow.specs.Steps.{IsLaidFrom}
use Rattle.fp_flow.proofs.Layouts.{no_row, AreBest, lanes_best, rows_best, duals_best, small_best, best_of}

-- ---- what a pick and a placement of rows ask for

abbrev no_point : Point
no_point = record { x = pos 0; y = pos 0 }

near_point : (targets : List Point) → All IsNearTarget targets → (cell : ℕ) → cell < length targets → IsNearTarget (point_at targets cell)
near_point targets near cell below = near cell no_point below

pub can_pick : (p : Netlist) (dies : List Die) (targets : List Point) → KeepRules p dies → length targets ≡ length p.cells → All IsNearTarget targets → CanPick p dies targets
can_pick p dies targets rules many near = record {
  dies_long = rules.cells;
  targets_long = many;
  fitting = rules.fitting;
  near = λ cell below.
      let is = near_point targets near cell (omega (arith, below, many)) in
      record {
        x = record { low = omega (arith, ints, is.x.0); high = omega (arith, ints, is.x.1) };
        y = record { low = omega (arith, ints, is.y.0); high = omega (arith, ints, is.y.1) };
      };
}

-- lanes that hold all cells can be placed on their segments
pub can_place : (p : Netlist) (dies : List Die) (top bottom : LaneList) (targets : List Point) → IsSound p → HoldAll p dies top bottom → length targets ≡ length p.cells
    → All IsNearTarget targets → (die : Die) → CanPlaceAll p die targets (lanes_on top bottom die)
can_place p dies top bottom targets sound hold many near die = λ number segment lane there held.
    let below : number < length (segments p.plan die) = slice_get_within (segments p.plan die) number segment there in
    let lane_is = get_or_from_slice_get (lanes_on top bottom die) number lane [] held in
    let segment_is : segment_at p.plan die number ≡ segment = get_or_from_slice_get (segments p.plan die) number segment no_segment there in
    let fits = hold.fits die number below in
    record {
      within = λ k d inside. hold.once.within die number k (get_or lane k d) (entry_on (lanes_on top bottom die) number k lane held ∙ slice_get-get_or lane k d inside);
      row = row_is p top bottom die number segment lane targets sound hold.once there held (rw (lane_is, segment_is) at fits) (λ cell inside.
          let is = near_point targets near cell (omega (arith, inside, many)) in
          record { low = omega (arith, ints, is.x.0); high = omega (arith, ints, is.x.1) });
    }

-- ---- positions of rows

-- feasible positions of a row are those of its cells, where each cell's x is in a list
in_row : (p : Netlist) (die : Die) (xs : List ℤ) (cells : List CellShown) (from to : ℤ) → ((k : ℕ) (cell : CellShown) → slice_get cells k ≡ Some cell → cell.x ≡ get_or xs cell.cell.0 (pos 0))
    → Feasible (map (row_cell p die) cells) from to (map (λ (cell : CellShown). cell.x) cells)
    → StandInRow from to (widths_of p die (map (λ (cell : CellShown). cell.cell) cells)) (xs_of xs (map (λ (cell : CellShown). cell.cell) cells))
in_row p die xs [] from to same feasible = feasible
in_row p die xs (cell ∷ cells) from to same feasible =
    let here = same 0 cell refl in
    let rest = in_row p die xs cells (cell.x +ℤ pos (width p cell.cell.0 die)) to (λ k c at. same (suc k) c at) feasible.1 in
    let behind = λ (x : ℤ). StandInRow (x +ℤ pos (width p cell.cell.0 die)) to (widths_of p die (map (λ (c : CellShown). c.cell) cells)) (xs_of xs (map (λ (c : CellShown). c.cell) cells)) in
    (subst (λ x. from ≤ℤ x) here feasible.0, subst behind here rest)

-- a placement of the rows' positions stands in them
pub rows_stand : (p : Netlist) (targets : List Point) (top bottom : LaneList) (trial : ShownTrial) (xs : List ℤ) → AreBest p targets top bottom trial
    → ((die : Die) (segment rank : ℕ) (row : ShownRow) (shown : CellShown) → slice_get (rows_of trial die) segment ≡ Some row → slice_get row.cells rank ≡ Some shown
    → shown.x ≡ get_or xs shown.cell.0 (pos 0)) → StandInRows p top bottom xs
rows_stand p targets top bottom trial xs best same = λ die number segment lane there held.
    let inside : number < length (rows_of trial die) = omega (arith, slice_get_within (lanes_on top bottom die) number lane held, best.rows die) in
    let row = get_or (rows_of trial die) number no_row in
    let at = slice_get-get_or (rows_of trial die) number no_row inside in
    let is = best.each die number segment lane row there held at in
    subst (λ (cells : List CellId). StandInRow segment.start (segment.start +ℤ segment.length) (widths_of p die cells) (xs_of xs cells)) is.lane_is
    (in_row p die xs row.cells segment.start (segment.start +ℤ segment.length) (λ k cell cell_at. same die number k row cell at cell_at) is.best.0)

-- ---- the x of a cell

-- a line's x is its cell's, where each cell is listed once
pub x_shown : (p : Netlist) (trial : ShownTrial) → StandOnce (length p.cells) (lanes_shown trial Top) (lanes_shown trial Bottom) → (die : Die) (segment rank : ℕ) (row : ShownRow)
    (shown : CellShown) → slice_get (rows_of trial die) segment ≡ Some row → slice_get row.cells rank ≡ Some shown
    → get_or (map (λ (spot : Spot). spot.x) (spots_shown p trial)) shown.cell.0 (pos 0) ≡ shown.x
x_shown p trial once die segment rank row shown there at =
    get_or-map (λ (spot : Spot). spot.x) (spots_shown p trial) shown.cell.0 no_spot ∙ sym (shows_itself p trial once die segment rank row shown there at).0

pub length-xs : (p : Netlist) (trial : ShownTrial) → length (map (λ (spot : Spot). spot.x) (spots_shown p trial)) ≡ length p.cells
unfolding spots_shown
length-xs p trial = length-map (spots_shown p trial) (λ (spot : Spot). spot.x) ∙ length-map-range_with_len (λ cell. spot_by p.plan (stand_of trial cell)) 0 (length p.cells)

-- ---- the placement of the rows

-- a trial of the best rows of lanes in which each cell stands once shows each cell once,
pub once_best : (p : Netlist) (targets : List Point) (top bottom : LaneList) (trial : ShownTrial) → AreBest p targets top bottom trial → StandOnce (length p.cells) top bottom
    → StandOnce (length p.cells) (lanes_shown trial Top) (lanes_shown trial Bottom)
once_best p targets top bottom trial best once =
    subst (λ (lanes : LaneList). StandOnce (length p.cells) (lanes_shown trial Top) lanes) (sym (lanes_best p targets top bottom trial best Bottom))
    (subst (λ (lanes : LaneList). StandOnce (length p.cells) lanes bottom) (sym (lanes_best p targets top bottom trial best Top)) once)

-- the cells stand in their rows,
pub xs_stand : (p : Netlist) (targets : List Point) (top bottom : LaneList) (trial : ShownTrial) → AreBest p targets top bottom trial → StandOnce (length p.cells) top bottom
    → StandInRows p top bottom (map (λ (spot : Spot). spot.x) (spots_shown p trial))
xs_stand p targets top bottom trial best once =
    rows_stand p targets top bottom trial (map (λ (spot : Spot). spot.x) (spots_shown p trial)) best
    (λ die segment rank row shown there at. sym (x_shown p trial (once_best p targets top bottom trial best once) die segment rank row shown there at))

-- in range,
pub xs_range : (p : Netlist) (targets : List Point) (top bottom : LaneList) (trial : ShownTrial) (xs : List ℤ) → IsSound p → AreBest p targets top bottom trial
    → StandOnce (length p.cells) top bottom → xs ≡ map (λ (spot : Spot). spot.x) (spots_shown p trial) → All IsCoordinate xs
xs_range p targets top bottom trial xs sound best once are =
    subst (All IsCoordinate) (sym are)
    (rows_in_range p top bottom (map (λ (spot : Spot). spot.x) (spots_shown p trial)) sound.plan once best.lanes (length-xs p trial) (xs_stand p targets top bottom trial best once))

-- and their placement is what the trial shows.
pub laid_from : (p : Netlist) (targets : List Point) (top bottom : LaneList) (trial : ShownTrial) (placed : Placed) (xs : List ℤ) → AreBest p targets top bottom trial
    → StandOnce (length p.cells) top bottom → length targets ≡ length p.cells → All IsNearTarget targets → trial.cuts ≡ [] → trial.top_cells ≡ [] → xs ≡ map (λ (spot : Spot). spot.x) (spots_shown p trial)
    → IsPlacementOf p placed → placed.top ≡ top → placed.bottom ≡ bottom → map (λ (spot : Spot). spot.x) placed.spots ≡ xs
    → placed.terminals ≡ replicate (length p.nets) None → DoAgree placed → IsLaidFrom p top bottom targets trial placed
laid_from p targets top bottom trial placed xs best once many near no_cuts no_tops are is top_is bottom_is xs_are bare agree = record {
  laid = record {
    of_problem = is;
    agree = agree;
    in_order = rows_in_order p placed (map (λ (spot : Spot). spot.x) (spots_shown p trial)) (xs_are ∙ are) stand;
    bare = bare;
    top_shown = tops;
    bottom_shown = bottoms;
    spots_are = spots_are p trial placed targets is agree once_placed tops bottoms each;
    targets_are = targets_are p trial placed targets is agree once_placed tops bottoms many each;
    near = near;
    best = rows_best p targets top bottom trial best;
    duals = duals_best p targets top bottom trial best;
    small = small_best p targets top bottom trial best;
    no_cuts = no_cuts;
    no_tops = no_tops;
  };
  top_is = top_is;
  bottom_is = bottom_is;
}
  where
    shown_xs : List ℤ
    shown_xs = map (λ (spot : Spot). spot.x) (spots_shown p trial)

    tops : lanes_shown trial Top ≡ placed.top
    tops = lanes_best p targets top bottom trial best Top ∙ sym top_is

    bottoms : lanes_shown trial Bottom ≡ placed.bottom
    bottoms = lanes_best p targets top bottom trial best Bottom ∙ sym bottom_is

    once_placed : StandOnce (length p.cells) placed.top placed.bottom
    once_placed =
        subst (λ (lanes : LaneList). StandOnce (length p.cells) placed.top lanes) (sym bottom_is)
        (subst (λ (lanes : LaneList). StandOnce (length p.cells) lanes bottom) (sym top_is) once)

    stand : StandInRows p placed.top placed.bottom shown_xs
    stand =
        subst (λ (lanes : LaneList). StandInRows p placed.top lanes shown_xs) (sym bottom_is)
        (subst (λ (lanes : LaneList). StandInRows p lanes bottom shown_xs) (sym top_is) (xs_stand p targets top bottom trial best once))

    each : ShowsEach trial placed.spots targets
    each die segment rank row shown there at = (
      sym (x_shown p trial (once_best p targets top bottom trial best once) die segment rank row shown there at)
          ∙ ap (λ (list : List ℤ). get_or list shown.cell.0 (pos 0)) (sym (xs_are ∙ are)) ∙ get_or-map (λ (spot : Spot). spot.x) placed.spots shown.cell.0 no_spot,
      (best_of p targets top bottom trial die segment row best there).targets_are rank shown at,
    )
