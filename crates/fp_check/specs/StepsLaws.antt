-- Laws of a trial that is made of a base, and of the first one: their dies, their rows and their terminals.
use Rattle.std.specs.Prelude.{◌≡◌, ◌≢◌, ◌⊎◌, ℕ, ◌+◌, Bool, true, false, nat_eq, nat_lt, if◌then◌else◌, List, [], ◌∷◌, length, map, get_or, slice_get, Some, Result, Ok, Err, ℤ, pos, ◌+ℤ◌, ◌≤ℤ◌, option_map}
use Rattle.std.specs.List.{IsDistinct}
use Rattle.std.proofs.Common.{suc, refl, sym, ap, subst, ◌∙◌, inl, inr, arith}
use Rattle.std.proofs.Math.ListN.{get_or-map}
use Rattle.std.proofs.lemmas.List.{ext_get_or, length-map}
use Rattle.std.proofs.lemmas.Option.{slice_get_within, slice_get-get_or, slice_get-map}
use Rattle.fp_base.specs.declared.ids.Die.{Die}
use Rattle.fp_base.specs.declared.ids.Die.TheVariants.{Top, Bottom}
use Rattle.fp_base.specs.declared.ids.Point.{Point}
use Rattle.fp_tech.specs.Slots.{Slots, slot_count}
use Rattle.fp_netlist.specs.Netlist.{Netlist, IsSound}
use Rattle.fp_netlist.specs.Points.{width}
use Rattle.fp_place.specs.Places.{Place, nowhere, place_at, dies_of}
use Rattle.fp_place.specs.Placed.{LaneList, no_spot, place_of, lanes_on, StandOnce, StandBetween}
use Rattle.fp_place.specs.Settled.{KeepRules, settled}
use Rattle.fp_part.specs.SettledLaws.{settling_keeps}
use Rattle.fp_rows.specs.Squares.{Feasible}
use Rattle.fp_score.specs.FirstFit.{Seat, seat_dies}
use Rattle.fp_score.specs.Pick.{Lined, picked}
use Rattle.fp_score.specs.Target.{AreTargets}
use Rattle.fp_seed.specs.SeededLaws.{seed_keeps_rules}
use Rattle.fp_coarse.specs.HoldingLaws.{picked_holds}
use Rattle.fp_coarse.specs.Picking.{HoldAll}
use Rattle.fp_coarse.specs.PickingLaws.{keeps_dies}
use Rattle.fp_cert.specs.declared.shown.CellShown.{CellShown}
use Rattle.fp_cert.specs.declared.shown.Ending.{Ending}
use Rattle.fp_cert.specs.declared.shown.Ending.TheVariants as endings
use Rattle.fp_cert.specs.Endings.{has_rows}
use Rattle.fp_cert.specs.Shown.{ShownRow, ShownTrial, ShownRun, rows_of}
use Rattle.fp_cert.specs.Standing.{spots_shown, targets_shown, places_shown, lane_shown, lanes_shown, placed_shown, dies_shown}
use Rattle.fp_cert.specs.Trials.{row_cell, IsScored, no_seat, IsFromSeed, IsStart, compared, IsLaidOut, Does, IsStep, no_trial}
use Rattle.fp_check.specs.Conditions.{StandOnceShown, LanesArePicked, HasNoRow, AreFeasibleShown}
use Rattle.fp_check.specs.ShownLaws.{length-spots_shown, dies_placed, x_of_line, shown_agrees}

-- ---- endings

-- a trial that placed its cells ends by its score, and is not the start
pub compared_has_rows : (score before : ℕ) → has_rows (compared score before) ≡ true
compared_has_rows score before = by (nat_lt score before)
  where
    by : (b : Bool) → has_rows (if b then endings.Better else endings.NotBetter) ≡ true
    by true = refl
    by false = refl

abbrev is_start : Ending → Bool
is_start endings.Start = true
is_start endings.Better = false
is_start endings.NotBetter = false
is_start (endings.NoRow cell) = false

compared_not_start : (score before : ℕ) → is_start (compared score before) ≡ false
compared_not_start score before = by (nat_lt score before)
  where
    by : (b : Bool) → is_start (if b then endings.Better else endings.NotBetter) ≡ false
    by true = refl
    by false = refl

-- ---- a trial made of a base

-- the trial before another one of a run
pub record HasBase (run : ShownRun) (number : ℕ) (trial : ShownTrial) : Type 0 where
  pub base : ShownTrial
  pub base_at : slice_get run.trials number ≡ Some base
  pub at : slice_get run.trials (number + 1) ≡ Some trial

pub has_base : (run : ShownRun) (number : ℕ) (trial : ShownTrial) → slice_get run.trials (suc number) ≡ Some trial → HasBase run number trial
has_base run number trial at =
    let next : number + 1 ≡ suc number = omega arith in
    record {
      base = get_or run.trials number no_trial;
      base_at = slice_get-get_or run.trials number no_trial (omega (arith, slice_get_within run.trials (suc number) trial at));
      at = ap (slice_get run.trials) next ∙ at;
    }

-- a trial made of a base has chosen rows,
pub record IsPlacedStep (p : Netlist) (grid : Slots) (base trial : ShownTrial) : Type 0 where
  pub ending_is : trial.ending ≡ compared trial.score base.score
  pub dies_are : dies_shown p trial ≡ settled p (dies_shown p base)
  pub are_targets : AreTargets p (places_shown p base) (dies_shown p trial) (targets_shown p trial)
  pub picks : LanesArePicked p trial
  pub once : StandOnceShown p trial
  pub feasible : AreFeasibleShown p trial
  pub scored : IsScored p grid trial

-- or it found no row for a cell
pub record IsRowlessStep (p : Netlist) (base trial : ShownTrial) : Type 0 where
  pub cell : ℕ
  pub ending_is : trial.ending ≡ endings.NoRow (record { 0 = cell })
  pub dies_are : dies_shown p trial ≡ settled p (dies_shown p base)
  pub distinct : IsDistinct nat_eq (map (λ top. top.0) trial.top_cells)
  pub no_row : HasNoRow p base trial cell

-- lanes that are chosen for dies are those of a trial that shows these dies
placed_step : (p : Netlist) (grid : Slots) (dies : List Die) (targets : List Point) (base trial : ShownTrial) (lined : Lined) → IsSound p → length dies ≡ length p.cells
    → dies ≡ settled p (dies_shown p base) → AreTargets p (places_shown p base) dies targets → picked p dies targets ≡ Ok lined → Does p grid dies targets base.score trial (Ok lined)
    → IsPlacedStep p grid base trial
placed_step p grid dies targets base trial lined sound many same are picks does = record {
  ending_is = does.2;
  dies_are = shown ∙ same;
  are_targets = subst (AreTargets p (places_shown p base) (dies_shown p trial)) (sym laid.targets_are) (subst (λ (ds : List Die). AreTargets p (places_shown p base) ds targets) (sym shown) are);
  picks = (λ i. picked p (shown i) (laid.targets_are i)) ∙ picks ∙ (λ i. Ok (record { top = sym laid.top_is i; bottom = sym laid.bottom_is i }));
  once = once;
  feasible = λ die number segment row there held. (laid.rows die number segment row there held).0;
  scored = does.1;
}
  where
    laid : IsLaidOut p targets lined trial
    laid = does.0

    hold : HoldAll p dies lined.top lined.bottom
    hold = picked_holds p dies targets lined sound picks

    once : StandOnceShown p trial
    once = subst (λ (lanes : LaneList). StandOnce (length p.cells) (lanes_shown trial Top) lanes) (sym laid.bottom_is)
        (subst (λ (lanes : LaneList). StandOnce (length p.cells) lanes lined.bottom) (sym laid.top_is) hold.once)

    shown : dies_shown p trial ≡ dies
    shown =
        dies_placed p trial (ap has_rows does.2 ∙ compared_has_rows trial.score base.score)
        ∙ keeps_dies p dies lined.top lined.bottom (placed_shown p grid trial) hold laid.top_is laid.bottom_is (shown_agrees p grid trial once) (length-spots_shown p trial ∙ sym many)

rowless_step : (p : Netlist) (grid : Slots) (dies : List Die) (targets : List Point) (base trial : ShownTrial) (cell : ℕ) → dies ≡ settled p (dies_shown p base)
    → AreTargets p (places_shown p base) dies targets → picked p dies targets ≡ Err cell → Does p grid dies targets base.score trial (Err cell) → IsRowlessStep p base trial
rowless_step p grid dies targets base trial cell same are stops does = record {
  cell = cell;
  ending_is = does.ending_is;
  dies_are = does.dies_are ∙ same;
  distinct = does.distinct;
  no_row = record {
    targets = targets;
    are_targets = subst (λ (ds : List Die). AreTargets p (places_shown p base) ds targets) (sym does.dies_are) are;
    stops = ap (λ (ds : List Die). picked p ds targets) does.dies_are ∙ stops;
  };
}

-- a step is one of both, where the base's dies keep the rules
pub step_is : (p : Netlist) (grid : Slots) (base trial : ShownTrial) → IsSound p → KeepRules p (dies_shown p base) → IsStep p grid base trial
    → IsPlacedStep p grid base trial ⊎ IsRowlessStep p base trial
step_is p grid base trial sound rules step = by (picked p dies step.targets) refl step.does
  where
    dies : List Die
    dies = settled p (dies_shown p base)

    by : (r : Result Lined ℕ) → picked p dies step.targets ≡ r → Does p grid dies step.targets base.score trial r → IsPlacedStep p grid base trial ⊎ IsRowlessStep p base trial
    by (Ok lined) picks does =
        inl (placed_step p grid dies step.targets base trial lined sound (settling_keeps p (dies_shown p base) rules).rules.cells refl step.are_targets picks does)
    by (Err cell) stops does = inr (rowless_step p grid dies step.targets base trial cell refl step.are_targets stops does)

step_dies : (p : Netlist) (grid : Slots) (base trial : ShownTrial) → IsPlacedStep p grid base trial ⊎ IsRowlessStep p base trial → dies_shown p trial ≡ settled p (dies_shown p base)
step_dies p grid base trial (inl placed) = placed.dies_are
step_dies p grid base trial (inr rowless) = rowless.dies_are

-- its dies are the settled ones of the base
pub dies_settled : (p : Netlist) (grid : Slots) (base trial : ShownTrial) → IsSound p → KeepRules p (dies_shown p base) → IsStep p grid base trial
    → dies_shown p trial ≡ settled p (dies_shown p base)
dies_settled p grid base trial sound rules step = step_dies p grid base trial (step_is p grid base trial sound rules step)

-- so they keep the rules
pub step_keeps_rules : (p : Netlist) (grid : Slots) (base trial : ShownTrial) → IsSound p → KeepRules p (dies_shown p base) → IsStep p grid base trial → KeepRules p (dies_shown p trial)
step_keeps_rules p grid base trial sound rules step =
    subst (KeepRules p) (sym (dies_settled p grid base trial sound rules step)) (settling_keeps p (dies_shown p base) rules).rules

-- and it is not the start
pub step_not_start : (p : Netlist) (grid : Slots) (base trial : ShownTrial) → IsPlacedStep p grid base trial ⊎ IsRowlessStep p base trial → trial.ending ≢ endings.Start
step_not_start p grid base trial (inl placed) is = let no : true ≡ false = ap is_start (sym is ∙ placed.ending_is) ∙ compared_not_start trial.score base.score in cc
step_not_start p grid base trial (inr rowless) is = let no : true ≡ false = ap is_start (sym is ∙ rowless.ending_is) in cc

-- ---- the first trial

-- its dies are those of the seed's seats
seed_dies : (p : Netlist) (grid : Slots) (trial : ShownTrial) (from : IsFromSeed p grid trial) → length (seat_dies from.seats) ≡ length p.cells
    → dies_of (places_shown p trial) ≡ seat_dies from.seats
seed_dies p grid trial from many =
    ext_get_or Top (dies_of (places_shown p trial)) (seat_dies from.seats) (long ∙ sym many) (λ cell below.
    get_or-map (λ (place : Place). place.die) (places_shown p trial) cell nowhere
    ∙ ap (λ (place : Place). place.die) (get_or-map place_of (spots_shown p trial) cell no_spot)
    ∙ (from.seated cell (omega (arith, below, long))).die_is
    ∙ sym (get_or-map (λ (seat : Seat). seat.die) from.seats cell no_seat))
  where
    long : length (dies_of (places_shown p trial)) ≡ length p.cells
    long = length-map (places_shown p trial) (λ place. place.die) ∙ length-map (spots_shown p trial) place_of ∙ length-spots_shown p trial

pub from_seed_keeps_rules : (p : Netlist) (grid : Slots) (trial : ShownTrial) → has_rows trial.ending ≡ true → IsFromSeed p grid trial → KeepRules p (dies_shown p trial)
from_seed_keeps_rules p grid trial has from =
    let rules = seed_keeps_rules p (slot_count grid) from.first from.seats from.seed in
    subst (KeepRules p) (sym (dies_placed p trial has ∙ seed_dies p grid trial from rules.cells)) rules

pub start_keeps_rules : (p : Netlist) (grid : Slots) (trial : ShownTrial) → IsStart p grid trial → KeepRules p (dies_shown p trial)
start_keeps_rules p grid trial start = from_seed_keeps_rules p grid trial (ap has_rows start.ending_is) start.from_seed

-- cells that stand in order, each where its line shows it, are feasible positions
between_feasible : (p : Netlist) (die : Die) (places : List Place) (cells : List CellShown) (from to : ℤ)
    → ((k : ℕ) (cell : CellShown) → slice_get cells k ≡ Some cell → cell.x ≡ (place_at places cell.cell.0).x)
    → StandBetween p die places from to (map (λ (cell : CellShown). cell.cell) cells) → Feasible (map (row_cell p die) cells) from to (map (λ (cell : CellShown). cell.x) cells)
between_feasible p die places [] from to same stand = stand
between_feasible p die places (cell ∷ cells) from to same stand =
    let here : (place_at places cell.cell.0).x ≡ cell.x = sym (same 0 cell refl) in (
      subst (λ x. from ≤ℤ x) here stand.0,
      between_feasible p die places cells (cell.x +ℤ pos (width p cell.cell.0 die)) to (λ k c at. same (suc k) c at)
          (subst (λ x. StandBetween p die places (x +ℤ pos (width p cell.cell.0 die)) to (map (λ (c : CellShown). c.cell) cells)) here stand.1),
    )

-- a row's lane is that of its segment
pub lane_there : (trial : ShownTrial) (die : Die) (number : ℕ) (row : ShownRow) → slice_get (rows_of trial die) number ≡ Some row
    → slice_get (lanes_on (lanes_shown trial Top) (lanes_shown trial Bottom) die) number ≡ Some (lane_shown row)
lane_there trial Top number row at = slice_get-map lane_shown trial.top number ∙ ap (option_map lane_shown) at
lane_there trial Bottom number row at = slice_get-map lane_shown trial.bottom number ∙ ap (option_map lane_shown) at

-- so a trial that shows a placement in order has feasible rows
pub from_seed_feasible : (p : Netlist) (grid : Slots) (trial : ShownTrial) → StandOnceShown p trial → IsFromSeed p grid trial → AreFeasibleShown p trial
from_seed_feasible p grid trial once from = λ die number segment row there at.
    between_feasible p die (places_shown p trial) row.cells segment.start (segment.start +ℤ segment.length)
    (λ k cell held. x_of_line p trial die number k row cell once at held)
    (from.in_order die number segment (lane_shown row) there (lane_there trial die number row at))
