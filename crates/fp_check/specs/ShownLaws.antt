-- Laws of a trial that placed its cells and lists each of them once: it shows a placement of the problem, which is in order where its rows are.
use Rattle.std.specs.Prelude.{◌≡◌, ℕ, ◌<◌, ◌==◌, Bool, true, false, cond, List, [], ◌∷◌, length, map, find, get_or, slice_get, Option, Some, None, option_map, IfSome, All, ◌+ℤ◌}
use Rattle.std.specs.List.{AllByRecursion, range_with_len}
use Rattle.std.proofs.Common.{refl, sym, ap, subst, ◌∙◌, arith}
use Rattle.std.proofs.Math.ListN.{get_or-map}
use Rattle.std.proofs.lemmas.List.{length-map}
use Rattle.std.proofs.lemmas.List.Elements.{All-from_get_or, All-map, recursion_from_All}
use Rattle.std.proofs.lemmas.List.FromFn.{length-map-range_with_len, get_or-map-range_with_len}
use Rattle.std.proofs.lemmas.Option.{slice_get_within, get_or_from_slice_get, slice_get-get_or, same_Some, slice_get-map}
use Rattle.fp_base.specs.declared.ids.CellId.{CellId}
use Rattle.fp_base.specs.declared.ids.Die.{Die}
use Rattle.fp_base.specs.declared.ids.Die.TheVariants.{Top, Bottom}
use Rattle.fp_tech.specs.Plan.{segments, IsPlan}
use Rattle.fp_tech.specs.Slots.{Slots, slot_count, IsGrid}
use Rattle.fp_netlist.specs.Netlist.{Netlist}
use Rattle.fp_place.specs.declared.placement.Spot.{Spot}
use Rattle.fp_place.specs.OnSlotsLaws.{slot_in_range}
use Rattle.fp_place.specs.Places.{Place, place_at, dies_of}
use Rattle.fp_place.specs.Placed.{no_spot, spot_at, place_of, lanes_on, entry_at, StandsAt, DoAgree, IsCentre, IsSpotOf, IsPlacementOf, StandBetween, IsInOrder}
use Rattle.fp_place.specs.PlacedLaws.{row_in_range}
use Rattle.fp_score.specs.FirstFit.{no_segment, segment_at}
use Rattle.fp_score.specs.Pick.{point_at}
use Rattle.fp_cert.specs.declared.shown.CellShown.{CellShown}
use Rattle.fp_cert.specs.declared.shown.CutShown.{CutShown}
use Rattle.fp_cert.specs.declared.shown.Ending.{Ending}
use Rattle.fp_cert.specs.declared.shown.Ending.TheVariants as endings
use Rattle.fp_cert.specs.Endings.{has_rows}
use Rattle.fp_cert.specs.OfProblem.{IsCellOf, IsRowOf, IsCutOf, IsPlacedTrialOf, IsRowlessTrialOf, IsEndedTrialOf, IsTrialOf, IsRunOf}
use Rattle.fp_cert.specs.RowsLaws.{feasible_in_order}
use Rattle.fp_cert.specs.Shown.{ShownRow, ShownTrial, ShownRun, rows_of}
use Rattle.fp_cert.specs.Standing.{stand_of, spot_by, target_by, terminal_by, spots_shown, targets_shown, places_shown, lane_shown, lanes_shown, terminals_shown, placed_shown, dies_shown}
use Rattle.fp_cert.specs.StandingLaws.{entry_shown, line_of, stand_there}
use Rattle.fp_check.specs.Conditions.{StandOnceShown, AreFeasibleShown}

-- ---- elements of lists

-- what holds of each element holds of this one
pub at_each : {A : Type 0} (P : A → Type 0) (xs : List A) (k : ℕ) (x : A) → All P xs → slice_get xs k ≡ Some x → P x
at_each P xs k x all at = subst P (get_or_from_slice_get xs k x x at) (all k x (slice_get_within xs k x at))

found_each : {A : Type 0} (P : A → Type 0) (test : A → Bool) (xs : List A) → AllByRecursion P xs → IfSome (find test xs) P
found_each P test [] each = tt
found_each {A = A} P test (x ∷ xs) each = by (test x) (found_each P test xs each.1)
  where
    by : (b : Bool) → IfSome (find test xs) P → IfSome (cond b (Some x) (find test xs)) P
    by true rest = each.0
    by false rest = rest

-- and of the one that is found
pub found_holds : {A : Type 0} (P : A → Type 0) (test : A → Bool) (xs : List A) → All P xs → IfSome (find test xs) P
found_holds P test xs all = found_each P test xs (recursion_from_All P xs all)

-- an element of a mapped list is that of an element
mapped : {A B : Type 0} (view : A → B) (o : Option A) (y : B) → option_map view o ≡ Some y → (x : A) × (o ≡ Some x) × (view x ≡ y)
mapped view None y is = absurd (let none : None ≡ Some y = is in cc)
mapped view (Some x) y is = (x, refl, same_Some (view x) y is)

-- ---- the trials of a run

pub trial_of : (p : Netlist) (slots : ℕ) (run : ShownRun) (number : ℕ) (trial : ShownTrial) → IsRunOf p slots run → slice_get run.trials number ≡ Some trial → IsTrialOf p slots trial
trial_of p slots run number trial of at = at_each (IsTrialOf p slots) run.trials number trial of.trials at

placed_by : (p : Netlist) (slots : ℕ) (trial : ShownTrial) (ending : Ending) → IsEndedTrialOf p slots trial ending → has_rows ending ≡ true → IsPlacedTrialOf p slots trial
placed_by p slots trial endings.Start of has = of
placed_by p slots trial endings.Better of has = of
placed_by p slots trial endings.NotBetter of has = of
placed_by p slots trial (endings.NoRow cell) of has = absurd (let no : false ≡ true = has in cc)

-- one that placed its cells,
pub placed_trial : (p : Netlist) (slots : ℕ) (trial : ShownTrial) → IsTrialOf p slots trial → has_rows trial.ending ≡ true → IsPlacedTrialOf p slots trial
placed_trial p slots trial of has = placed_by p slots trial trial.ending of has

-- and one that found no row
pub rowless_trial : (p : Netlist) (slots : ℕ) (trial : ShownTrial) (cell : CellId) → IsTrialOf p slots trial → trial.ending ≡ endings.NoRow cell → IsRowlessTrialOf p cell.0 trial
rowless_trial p slots trial cell of is = subst (IsEndedTrialOf p slots trial) is of

-- a line is of the problem
pub cell_of_line : (p : Netlist) (slots : ℕ) (trial : ShownTrial) (die : Die) (segment rank : ℕ) (row : ShownRow) (shown : CellShown) → IsPlacedTrialOf p slots trial
    → slice_get (rows_of trial die) segment ≡ Some row → slice_get row.cells rank ≡ Some shown → IsCellOf p shown
cell_of_line p slots trial die segment rank row shown of there at =
    at_each (IsCellOf p) row.cells rank shown (at_each (IsRowOf p) (rows_of trial die) segment row (of.rows die) there).cells at

-- a segment with a line is there
pub segment_of_line : (p : Netlist) (slots : ℕ) (trial : ShownTrial) (die : Die) (segment : ℕ) (row : ShownRow) → IsPlacedTrialOf p slots trial
    → slice_get (rows_of trial die) segment ≡ Some row → slice_get (segments p.plan die) segment ≡ Some (segment_at p.plan die segment)
segment_of_line p slots trial die segment row of there =
    slice_get-get_or (segments p.plan die) segment no_segment (omega (arith, slice_get_within (rows_of trial die) segment row there, of.segments_are die))

-- ---- where each cell is listed once

-- a line's cell is one of the problem
pub line_within : (p : Netlist) (trial : ShownTrial) (die : Die) (segment rank : ℕ) (row : ShownRow) (shown : CellShown) → StandOnceShown p trial
    → slice_get (rows_of trial die) segment ≡ Some row → slice_get row.cells rank ≡ Some shown → shown.cell.0 < length p.cells
line_within p trial die segment rank row shown once there at = once.within die segment rank shown.cell (entry_shown trial die segment rank row shown there at)

-- a line's spot is its cell's,
pub spot_of_line : (p : Netlist) (trial : ShownTrial) (die : Die) (segment rank : ℕ) (row : ShownRow) (shown : CellShown) → StandOnceShown p trial
    → slice_get (rows_of trial die) segment ≡ Some row → slice_get row.cells rank ≡ Some shown
    → spot_at (spots_shown p trial) shown.cell.0 ≡ spot_by p.plan (Some (record { die = die; segment = segment; rank = rank; shown = shown }))
unfolding spots_shown
spot_of_line p trial die segment rank row shown once there at =
    get_or-map-range_with_len (λ cell. spot_by p.plan (stand_of trial cell)) 0 (length p.cells) shown.cell.0 shown.cell.0 no_spot
    (line_within p trial die segment rank row shown once there at) (omega arith)
    ∙ ap (spot_by p.plan) (stand_there trial (length p.cells) once die segment rank row shown there at)

-- and its target
pub target_of_line : (p : Netlist) (trial : ShownTrial) (die : Die) (segment rank : ℕ) (row : ShownRow) (shown : CellShown) → StandOnceShown p trial
    → slice_get (rows_of trial die) segment ≡ Some row → slice_get row.cells rank ≡ Some shown → point_at (targets_shown p trial) shown.cell.0 ≡ shown.target
unfolding targets_shown
target_of_line p trial die segment rank row shown once there at =
    get_or-map-range_with_len (λ cell. target_by (stand_of trial cell)) 0 (length p.cells) shown.cell.0 shown.cell.0 (target_by None)
    (line_within p trial die segment rank row shown once there at) (omega arith)
    ∙ ap target_by (stand_there trial (length p.cells) once die segment rank row shown there at)

-- the x of a line is that of its cell's place
pub x_of_line : (p : Netlist) (trial : ShownTrial) (die : Die) (segment rank : ℕ) (row : ShownRow) (shown : CellShown) → StandOnceShown p trial
    → slice_get (rows_of trial die) segment ≡ Some row → slice_get row.cells rank ≡ Some shown → shown.x ≡ (place_at (places_shown p trial) shown.cell.0).x
x_of_line p trial die segment rank row shown once there at =
    sym (ap (λ (place : Place). place.x) (get_or-map place_of (spots_shown p trial) shown.cell.0 no_spot)
    ∙ ap (λ (spot : Spot). spot.x) (spot_of_line p trial die segment rank row shown once there at))

-- each cell has its line
pub record HasLine (p : Netlist) (trial : ShownTrial) (cell : ℕ) : Type 0 where
  pub die : Die
  pub segment : ℕ
  pub rank : ℕ
  pub row : ShownRow
  pub shown : CellShown
  pub there : slice_get (rows_of trial die) segment ≡ Some row
  pub at : slice_get row.cells rank ≡ Some shown
  pub number_is : shown.cell.0 ≡ cell

pub has_line : (p : Netlist) (trial : ShownTrial) (cell : ℕ) → StandOnceShown p trial → cell < length p.cells → HasLine p trial cell
has_line p trial cell once below =
    let stands = once.there cell below in
    let line = line_of trial stands.0 stands.1 stands.2 (record { 0 = cell }) stands.3 in
    record {
      die = stands.0;
      segment = stands.1;
      rank = stands.2;
      row = line.row;
      shown = line.shown;
      there = line.there;
      at = line.at;
      number_is = ap (λ (c : CellId). c.0) line.cell_is;
    }

pub spot_of_cell : (p : Netlist) (trial : ShownTrial) (cell : ℕ) (once : StandOnceShown p trial) (line : HasLine p trial cell)
    → spot_at (spots_shown p trial) cell ≡ spot_by p.plan (Some (record { die = line.die; segment = line.segment; rank = line.rank; shown = line.shown }))
spot_of_cell p trial cell once line =
    ap (spot_at (spots_shown p trial)) (sym line.number_is) ∙ spot_of_line p trial line.die line.segment line.rank line.row line.shown once line.there line.at

-- ---- the placement that such a trial shows

pub length-spots_shown : (p : Netlist) (trial : ShownTrial) → length (spots_shown p trial) ≡ length p.cells
unfolding spots_shown
length-spots_shown p trial = length-map-range_with_len (λ cell. spot_by p.plan (stand_of trial cell)) 0 (length p.cells)

pub length-terminals_shown : (p : Netlist) (grid : Slots) (trial : ShownTrial) → length (terminals_shown p grid trial) ≡ length p.nets
unfolding terminals_shown
length-terminals_shown p grid trial = length-map-range_with_len (λ net. terminal_by grid (find (λ cut. cut.net.0 == net) trial.cuts)) 0 (length p.nets)

pub length-targets_shown : (p : Netlist) (trial : ShownTrial) → length (targets_shown p trial) ≡ length p.cells
unfolding targets_shown
length-targets_shown p trial = length-map-range_with_len (λ cell. target_by (stand_of trial cell)) 0 (length p.cells)

-- its dies are those of its places
pub dies_placed : (p : Netlist) (trial : ShownTrial) → has_rows trial.ending ≡ true → dies_shown p trial ≡ dies_of (places_shown p trial)
unfolding dies_shown
dies_placed p trial has = rw has refl

-- its spots are of the problem
spots_of : (p : Netlist) (slots : ℕ) (trial : ShownTrial) → IsPlan p.plan → IsPlacedTrialOf p slots trial → StandOnceShown p trial → All (IsSpotOf p) (spots_shown p trial)
spots_of p slots trial plan of once =
    All-from_get_or (IsSpotOf p) (spots_shown p trial) no_spot (λ cell below.
    let line = has_line p trial cell once (omega (arith, below, length-spots_shown p trial)) in
    let there = segment_of_line p slots trial line.die line.segment line.row of line.there in
    subst (IsSpotOf p) (sym (spot_of_cell p trial cell once line)) (record {
      segment = segment_at p.plan line.die line.segment;
      there = there;
      row = refl;
      x = (cell_of_line p slots trial line.die line.segment line.rank line.row line.shown of line.there line.at).x;
      y = row_in_range p.plan plan line.die line.segment (segment_at p.plan line.die line.segment) there;
    }))

-- its terminals are in range
centre_by : (p : Netlist) (grid : Slots) (line : Option CutShown) → IsPlan p.plan → IsGrid p.plan.frame p.plan.terminal grid → IfSome line (IsCutOf p (slot_count grid))
    → IfSome (terminal_by grid line) IsCentre
centre_by p grid None plan is_grid of = tt
centre_by p grid (Some cut) plan is_grid of = slot_in_range p.plan grid cut.slot.0 plan is_grid of.slot

centres_of : (p : Netlist) (grid : Slots) (trial : ShownTrial) → IsPlan p.plan → IsGrid p.plan.frame p.plan.terminal grid → All (IsCutOf p (slot_count grid)) trial.cuts
    → All (λ terminal. IfSome terminal IsCentre) (terminals_shown p grid trial)
unfolding terminals_shown
centres_of p grid trial plan is_grid cuts =
    All-map (λ terminal. IfSome terminal IsCentre) (λ net. terminal_by grid (find (λ (cut : CutShown). cut.net.0 == net) trial.cuts)) (range_with_len 0 (length p.nets))
    (λ k d below.
    centre_by p grid (find (λ (cut : CutShown). cut.net.0 == get_or (range_with_len 0 (length p.nets)) k d) trial.cuts) plan is_grid
    (found_holds (IsCutOf p (slot_count grid)) (λ (cut : CutShown). cut.net.0 == get_or (range_with_len 0 (length p.nets)) k d) trial.cuts cuts))

-- So it is a placement of the problem,
pub shown_of_problem : (p : Netlist) (grid : Slots) (trial : ShownTrial) → IsPlan p.plan → IsGrid p.plan.frame p.plan.terminal grid → IsPlacedTrialOf p (slot_count grid) trial
    → StandOnceShown p trial → IsPlacementOf p (placed_shown p grid trial)
shown_of_problem p grid trial plan is_grid of once = record {
  cells = length-spots_shown p trial;
  nets = length-terminals_shown p grid trial;
  top_lanes = length-map trial.top lane_shown ∙ of.segments_are Top;
  bottom_lanes = length-map trial.bottom lane_shown ∙ of.segments_are Bottom;
  spots = spots_of p (slot_count grid) trial plan of once;
  centres = centres_of p grid trial plan is_grid of.cuts;
}

-- whose spots and lanes name each other,
pub shown_agrees : (p : Netlist) (grid : Slots) (trial : ShownTrial) → StandOnceShown p trial → DoAgree (placed_shown p grid trial)
shown_agrees p grid trial once = record {
  spot_named = λ cell below.
      let line = has_line p trial cell once (omega (arith, below, length-spots_shown p trial)) in
      subst (λ (spot : Spot). entry_at (lanes_on (lanes_shown trial Top) (lanes_shown trial Bottom) spot.die) spot.segment spot.rank ≡ Some (record { 0 = cell }))
      (sym (spot_of_cell p trial cell once line))
      (entry_shown trial line.die line.segment line.rank line.row line.shown line.there line.at ∙ ap (λ k. Some (record { 0 = k })) line.number_is);
  within = λ die segment rank cell entry. let below = once.within die segment rank cell entry in omega (arith, below, length-spots_shown p trial);
  entry_named = λ die segment rank cell entry.
      let line = line_of trial die segment rank cell entry in
      subst (StandsAt die segment rank)
      (sym (ap (λ (c : CellId). spot_at (spots_shown p trial) c.0) (sym line.cell_is) ∙ spot_of_line p trial die segment rank line.row line.shown once line.there line.at))
      (record { die_is = refl; segment_is = refl; rank_is = refl });
}

rows_on : (trial : ShownTrial) (die : Die) → lanes_on (lanes_shown trial Top) (lanes_shown trial Bottom) die ≡ map lane_shown (rows_of trial die)
rows_on trial Top = refl
rows_on trial Bottom = refl

-- and which is in order where each row is.
pub shown_in_order : (p : Netlist) (grid : Slots) (trial : ShownTrial) → StandOnceShown p trial → AreFeasibleShown p trial → IsInOrder p (placed_shown p grid trial)
shown_in_order p grid trial once feasible die number segment lane there held =
    let row = mapped lane_shown (slice_get (rows_of trial die) number) lane
    (sym (slice_get-map lane_shown (rows_of trial die) number) ∙ ap (λ (lanes : List (List CellId)). slice_get lanes number) (sym (rows_on trial die)) ∙ held) in
    subst (λ (cells : List CellId). StandBetween p die (places_shown p trial) segment.start (segment.start +ℤ segment.length) cells) row.2
    (feasible_in_order p die (places_shown p trial) row.0.cells segment.start (segment.start +ℤ segment.length)
    (λ k cell at. x_of_line p trial die number k row.0 cell once row.1 at) (feasible die number segment row.0 there row.1))
