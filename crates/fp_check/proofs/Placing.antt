-- The placement of the lines of a trial that lists each cell once is the one that it shows.
use Rattle.std.proofs.Common.{◌≡◌, ℕ, ◌<◌, true, false, List, length, map, replicate, get_or, slice_get, Option, Some, None, Result, Ok, Err, ℤ, pos, sym, ap, subst, ◌∙◌, arith}
use Rattle.std.specs.Prelude.{All, IfOk, IfSome, MatchOption}
use Rattle.std.proofs.Math.ListN.{get_or-map}
use Rattle.std.proofs.lemmas.List.{length-map}
use Rattle.std.proofs.lemmas.List.FromFn.{get_or-map-range_with_len, length-map-range_with_len}
use Rattle.std.proofs.lemmas.Option.{slice_get-get_or, get_or_from_slice_get, slice_get_within}
use Rattle.fp_base.specs.declared.ids.CellId.{CellId}
use Rattle.fp_base.specs.declared.ids.Die.{Die}
use Rattle.fp_base.specs.declared.ids.Die.TheVariants.{Top, Bottom}
use Rattle.fp_base.specs.declared.ids.Point.{Point}
use Rattle.fp_tech.specs.Plan.{IsPlan}
use Rattle.fp_tech.specs.Slots.{Slots, IsGrid, slot_count}
use Rattle.fp_netlist.specs.Netlist.{Netlist}
use Rattle.fp_place.specs.declared.placement.Spot.{Spot}
use Rattle.fp_place.specs.Drawing.{IsCoordinate}
use Rattle.fp_place.specs.OnSlotsLaws.{slot_in_range}
use Rattle.fp_place.specs.Places.{dies_of}
use Rattle.fp_place.specs.Placed.{LaneList, Placed, no_spot, place_of, places_of, DoAgree, StandOnce, IsCentre, IsPlacementOf}
use Rattle.fp_cert.specs.declared.shown.CellShown.{CellShown}
use Rattle.fp_cert.specs.declared.shown.CutShown.{CutShown}
use Rattle.fp_cert.specs.Endings.{has_rows}
use Rattle.fp_cert.specs.OfProblem.{IsRowOf, IsCutOf, IsPlacedTrialOf}
use Rattle.fp_cert.specs.Shown.{ShownRow, ShownTrial, rows_of}
use Rattle.fp_cert.specs.Standing.{stand_of, spot_by, target_by, lanes_shown, spots_shown, targets_shown, terminals_shown}
use Rattle.fp_cert.specs.StandingLaws.{line_of, stand_there, entry_shown, spots_are}
use Rattle.fp_check.specs.declared.views.Layout.{Layout}
use Rattle.fp_check.specs.declared.views.View.{View}
use Rattle.fp_check.specs.Conditions.{StandOnceShown}
use Rattle.fp_check.specs.Views.{with_terminals, IsLayoutOf, IsViewOf}
use Rattle.fp_check.proofs.Viewing.{length-with_terminals, terminals_are, centres_with, dies_placed}

-- ---- the x of each cell

pub length-spots : (p : Netlist) (trial : ShownTrial) → length (spots_shown p trial) ≡ length p.cells
unfolding spots_shown
length-spots p trial = length-map-range_with_len (λ cell. spot_by p.plan (stand_of trial cell)) 0 (length p.cells)

pub length-xs : (p : Netlist) (trial : ShownTrial) → length (map (λ (spot : Spot). spot.x) (spots_shown p trial)) ≡ length p.cells
length-xs p trial = length-map (spots_shown p trial) (λ (spot : Spot). spot.x) ∙ length-spots p trial

x_by : (p : Netlist) (trial : ShownTrial) (cell : ℕ) → cell < length p.cells
    → get_or (map (λ (spot : Spot). spot.x) (spots_shown p trial)) cell (pos 0) ≡ (spot_by p.plan (stand_of trial cell)).x
unfolding spots_shown
x_by p trial cell below =
    get_or-map (λ (spot : Spot). spot.x) (spots_shown p trial) cell no_spot
    ∙ ap (λ (spot : Spot). spot.x) (get_or-map-range_with_len (λ k. spot_by p.plan (stand_of trial k)) 0 (length p.cells) cell cell no_spot below (omega arith))

-- a line's x is its cell's
x_shown : (p : Netlist) (trial : ShownTrial) → StandOnceShown p trial → (die : Die) (segment rank : ℕ) (row : ShownRow) (shown : CellShown)
    → slice_get (rows_of trial die) segment ≡ Some row → slice_get row.cells rank ≡ Some shown
    → get_or (map (λ (spot : Spot). spot.x) (spots_shown p trial)) shown.cell.0 (pos 0) ≡ shown.x
x_shown p trial once die segment rank row shown there at =
    x_by p trial shown.cell.0 (once.within die segment rank shown.cell (entry_shown trial die segment rank row shown there at))
    ∙ ap (λ stand. (spot_by p.plan stand).x) (stand_there trial (length p.cells) once die segment rank row shown there at)

-- each is in range
pub xs_in_range : (p : Netlist) (trial : ShownTrial) (xs : List ℤ) → StandOnceShown p trial → ((die : Die) → All (IsRowOf p) (rows_of trial die))
    → xs ≡ map (λ (spot : Spot). spot.x) (spots_shown p trial) → All IsCoordinate xs
xs_in_range p trial xs once rows are = subst (All IsCoordinate) (sym are) (λ cell d inside.
    let below : cell < length p.cells = omega (arith, inside, length-xs p trial) in
    let there = once.there cell below in
    let line = line_of trial there.0 there.1 there.2 (record { 0 = cell }) there.3 in
    let row_is : IsRowOf p line.row = row_at there.0 there.1 line.row line.there in
    let cell_is = cell_at line.row row_is there.2 line.shown line.at in
    let x_is : get_or (map (λ (spot : Spot). spot.x) (spots_shown p trial)) cell (pos 0) ≡ line.shown.x =
    ap (λ (c : CellId). get_or (map (λ (spot : Spot). spot.x) (spots_shown p trial)) c.0 (pos 0)) (sym line.cell_is)
    ∙ x_shown p trial once there.0 there.1 there.2 line.row line.shown line.there line.at in
    let same : get_or (map (λ (spot : Spot). spot.x) (spots_shown p trial)) cell (pos 0) ≡ get_or (map (λ (spot : Spot). spot.x) (spots_shown p trial)) cell d =
    get_or_from_slice_get (map (λ (spot : Spot). spot.x) (spots_shown p trial)) cell _ (pos 0) (slice_get-get_or (map (λ (spot : Spot). spot.x) (spots_shown p trial)) cell d inside) in
    subst IsCoordinate (sym x_is ∙ same) cell_is)
  where
    row_at : (die : Die) (segment : ℕ) (row : ShownRow) → slice_get (rows_of trial die) segment ≡ Some row → IsRowOf p row
    row_at die segment row at =
        subst (IsRowOf p) (get_or_from_slice_get (rows_of trial die) segment row row at) (rows die segment row (slice_get_within (rows_of trial die) segment row at))

    cell_at : (row : ShownRow) → IsRowOf p row → (rank : ℕ) (shown : CellShown) → slice_get row.cells rank ≡ Some shown → IsCoordinate shown.x
    cell_at row is rank shown at =
        subst (λ (s : CellShown). IsCoordinate s.x) (get_or_from_slice_get row.cells rank shown shown at) (is.cells rank shown (slice_get_within row.cells rank shown at)).x

-- ---- the placement

target_at : (p : Netlist) (trial : ShownTrial) → StandOnceShown p trial → (die : Die) (segment rank : ℕ) (row : ShownRow) (shown : CellShown)
    → slice_get (rows_of trial die) segment ≡ Some row → slice_get row.cells rank ≡ Some shown → shown.target ≡ get_or (targets_shown p trial) shown.cell.0 (target_by None)
unfolding targets_shown
target_at p trial once die segment rank row shown there at =
    let below = once.within die segment rank shown.cell (entry_shown trial die segment rank row shown there at) in
    sym (get_or-map-range_with_len (λ cell. target_by (stand_of trial cell)) 0 (length p.cells) shown.cell.0 shown.cell.0 (target_by None) below (omega arith)
    ∙ ap target_by (stand_there trial (length p.cells) once die segment rank row shown there at))

-- a placement of the trial's lanes and of its cells' positions has its spots
pub spots_built : (p : Netlist) (trial : ShownTrial) (placed : Placed) (top bottom : LaneList) (xs : List ℤ) → StandOnceShown p trial → IsPlacementOf p placed → DoAgree placed
    → placed.top ≡ top → placed.bottom ≡ bottom → top ≡ lanes_shown trial Top → bottom ≡ lanes_shown trial Bottom → map (λ (spot : Spot). spot.x) placed.spots ≡ xs
    → xs ≡ map (λ (spot : Spot). spot.x) (spots_shown p trial) → placed.spots ≡ spots_shown p trial
spots_built p trial placed top bottom xs once is agree top_is bottom_is tops bottoms xs_are are =
    let top_shown : lanes_shown trial Top ≡ placed.top = sym (top_is ∙ tops) in
    let bottom_shown : lanes_shown trial Bottom ≡ placed.bottom = sym (bottom_is ∙ bottoms) in
    let placed_once : StandOnce (length p.cells) placed.top placed.bottom =
    subst (λ (lanes : LaneList). StandOnce (length p.cells) placed.top lanes) bottom_shown
    (subst (λ (lanes : LaneList). StandOnce (length p.cells) lanes (lanes_shown trial Bottom)) top_shown once) in
    sym (spots_are p trial placed (targets_shown p trial) is agree placed_once top_shown bottom_shown (λ die segment rank row shown there at. (
      sym (x_shown p trial once die segment rank row shown there at)
          ∙ ap (λ (list : List ℤ). get_or list shown.cell.0 (pos 0)) (sym (xs_are ∙ are))
          ∙ get_or-map (λ (spot : Spot). spot.x) placed.spots shown.cell.0 no_spot,
      target_at p trial once die segment rank row shown there at,
    )))

-- ---- with its terminals

-- a placement with the terminals of the lines of cut nets is of the problem
pub placed_with : (p : Netlist) (grid : Slots) (placed : Placed) (cuts : List CutShown) → IsPlan p.plan → IsGrid p.plan.frame p.plan.terminal grid → IsPlacementOf p placed
    → All (IsCutOf p (slot_count grid)) cuts → placed.terminals ≡ replicate (length p.nets) None
    → IsPlacementOf p (record placed { terminals = with_terminals grid cuts placed.terminals })
placed_with p grid placed cuts plan is_grid is within bare = record {
  cells = is.cells;
  nets = length-with_terminals grid cuts placed.terminals ∙ is.nets;
  top_lanes = is.top_lanes;
  bottom_lanes = is.bottom_lanes;
  spots = is.spots;
  centres = λ k d below. centres_with grid cuts placed.terminals (λ slot inside. slot_in_range p.plan grid slot plan is_grid inside) slot_within bare_at k _
      (slice_get-get_or (with_terminals grid cuts placed.terminals) k d below);
}
  where
    slot_within : (k : ℕ) (cut : CutShown) → slice_get cuts k ≡ Some cut → cut.slot.0 < slot_count grid
    slot_within k cut at =
        subst (λ (c : CutShown). c.slot.0 < slot_count grid) (get_or_from_slice_get cuts k cut cut at) (within k cut (slice_get_within cuts k cut at)).slot

    bare_at : (k : ℕ) (o : Option Point) → slice_get placed.terminals k ≡ Some o → IfSome o IsCentre
    bare_at k o at =
        subst (λ (x : Option Point). IfSome x IsCentre) (get_or_from_slice_get placed.terminals k o o at)
        (is.centres k o (slice_get_within placed.terminals k o at))

-- the layout of a trial
pub layout_is : (p : Netlist) (grid : Slots) (trial : ShownTrial) (placed : Placed) (layout : Layout) → IsPlan p.plan → IsGrid p.plan.frame p.plan.terminal grid
    → has_rows trial.ending ≡ true → IsPlacedTrialOf p (slot_count grid) trial → placed.spots ≡ spots_shown p trial → placed.top ≡ lanes_shown trial Top
    → placed.bottom ≡ lanes_shown trial Bottom → placed.terminals ≡ replicate (length p.nets) None → IsPlacementOf p placed → DoAgree placed
    → layout.placement ≡ record placed { terminals = with_terminals grid trial.cuts placed.terminals } → layout.targets.items ≡ targets_shown p trial
    → IsLayoutOf p grid trial layout
layout_is p grid trial placed layout plan is_grid has of spots top bottom bare is agree placement targets = record {
  has = has;
  placement_is = placement ∙ (λ i. record { spots = spots i; top = top i; bottom = bottom i; terminals = terminals i });
  targets_are = targets;
  of_problem = subst (IsPlacementOf p) (sym placement) (placed_with p grid placed trial.cuts plan is_grid is of.cuts bare);
  agree = subst DoAgree (sym placement) agree;
}
  where
    terminals : with_terminals grid trial.cuts placed.terminals ≡ terminals_shown p grid trial
    terminals = ap (with_terminals grid trial.cuts) bare ∙ terminals_are p grid trial

-- the view of a trial that placed its cells
pub view_is : (p : Netlist) (grid : Slots) (trial : ShownTrial) (layout : Layout) (view : View) → IsLayoutOf p grid trial layout
    → view.dies.items ≡ dies_of (places_of layout.placement) → view.layout ≡ Some layout → IsViewOf p grid trial view
view_is p grid trial layout view is dies_are layout_at = record {
  many =
      ap length dies_are
      ∙ length-map (places_of layout.placement) (λ place. place.die)
      ∙ length-map layout.placement.spots place_of
      ∙ is.of_problem.cells;
  dies_are =
      dies_are ∙ ap (λ (placed : Placed). dies_of (places_of placed)) is.placement_is ∙ sym (dies_placed p trial is.has);
  layout_is = subst (λ (o : Option Layout). MatchOption o (has_rows trial.ending ≡ false) (IsLayoutOf p grid trial)) (sym layout_at) is;
}

-- a placement that is built of a trial's lanes has its spots
pub built : {E : Type 0} (p : Netlist) (trial : ShownTrial) (r : Result Placed E) (top bottom : LaneList) (xs : List ℤ) → StandOnceShown p trial → top ≡ lanes_shown trial Top
    → bottom ≡ lanes_shown trial Bottom → xs ≡ map (λ (spot : Spot). spot.x) (spots_shown p trial) → IfOk r (IsPlacementOf p) → IfOk r (λ placed. placed.top ≡ top)
    → IfOk r (λ placed. placed.bottom ≡ bottom) → IfOk r (λ placed. map (λ (spot : Spot). spot.x) placed.spots ≡ xs) → IfOk r DoAgree → IfOk r (λ placed. placed.spots ≡ spots_shown p trial)
built p trial (Err e) top bottom xs once tops bottoms are is top_is bottom_is xs_are agree = tt
built p trial (Ok placed) top bottom xs once tops bottoms are is top_is bottom_is xs_are agree = spots_built p trial placed top bottom xs once is agree top_is bottom_is tops bottoms xs_are are
