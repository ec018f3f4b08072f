-- The first trial shows the seed's cells where they stand, and the best terminals.
use Rattle.std.proofs.Common.{◌≡◌, ℕ, ◌<◌, ◌^◌, true, List, [], ◌∷◌, length, map, get_or, slice_get, Option, Some, None, pos, refl, sym, ap, subst, ◌∙◌, arith}
use Rattle.std.specs.Prelude.{All, IfSome}
use Rattle.std.proofs.Math.ListN.{get_or-map}
use Rattle.std.proofs.lemmas.List.{length-map}
use Rattle.std.proofs.lemmas.Option.{same_Some, slice_get-map, slice_get-get_or}
use Rattle.fp_base.specs.declared.ids.CellId.{CellId}
use Rattle.fp_base.specs.declared.ids.Die.{Die}
use Rattle.fp_base.specs.declared.ids.Die.TheVariants.{Top, Bottom}
use Rattle.fp_base.specs.declared.ids.Point.{Point}
use Rattle.fp_tech.specs.Plan.{IsPlan, segments}
use Rattle.fp_tech.specs.Slots.{Slots, slot_count, IsGrid}
use Rattle.fp_netlist.specs.Netlist.{Netlist, IsSound}
use Rattle.fp_place.specs.declared.placement.Spot.{Spot}
use Rattle.fp_place.specs.OnSlots.{AreOnCuts, AreOnSlots}
use Rattle.fp_place.specs.OnSlotsLaws.{slot_in_range}
use Rattle.fp_place.specs.Places.{Place, dies_of}
use Rattle.fp_place.specs.Settled.{KeepRules}
use Rattle.fp_place.specs.Placed.{LaneList, Placed, no_spot, spot_at, place_of, places_of, lanes_of, DoAgree, StandOnce, IsCentre, IsPlacementOf, IsInOrder}
use Rattle.fp_score.specs.FirstFit.{Seat}
use Rattle.fp_score.specs.Score.{corner, score}
use Rattle.fp_score.specs.SlotBest.{chosen_terminals, IsSlotBest}
use Rattle.fp_score.specs.SlotBestLaws.{length-chosen_terminals, chosen_on_cuts, chosen_on_slots}
use Rattle.fp_seed.specs.Seeded.{spot_seat}
use Rattle.fp_cert.specs.declared.shown.CellShown.{CellShown}
use Rattle.fp_cert.specs.declared.shown.Ending.TheVariants.{Start}
use Rattle.fp_cert.specs.Endings.{has_rows}
use Rattle.fp_cert.specs.Shown.{ShownRow, ShownTrial, rows_of, trial_without}
use Rattle.fp_cert.specs.Standing.{target_by, spots_shown, targets_shown, places_shown, lane_shown, lanes_shown, terminals_shown, placed_shown, dies_shown}
use Rattle.fp_cert.specs.OfProblem.{IsTargetPoint, IsPlacedTrialOf}
use Rattle.fp_cert.specs.StandingLaws.{ShowsEach, once_of, spots_are, targets_are}
use Rattle.fp_cert.specs.CutLinesLaws.{terminals_are}
use Rattle.fp_cert.specs.Trials.{cut_nets, no_seat, IsAt, IsScored, IsStart}
use Rattle.fp_flow.specs.Bases.{IsBase}
use Rattle.fp_flow.specs.Firsts.{IsSeedPlaced}
use Rattle.fp_flow.specs.Slotted.{IsSlotted}
use Rattle.fp_flow.specs.Still.{still_cell, still_row, with_still}
use Rattle.fp_flow.proofs.Certifying.{slotted_prices, slotted_prices_small, still_duals, still_duals_small}
use Rattle.fp_flow.proofs.Ranges.{own_points, slots_within, base_of_problem}
use Rattle.fp_flow.proofs.Stills.{mapped}

-- ---- lanes as they stand

lane_still : (placed : Placed) (lane : List CellId) → lane_shown (still_row placed lane) ≡ lane
lane_still placed [] = refl
lane_still placed (cell ∷ lane) = ap (λ rest. cell ∷ rest) (lane_still placed lane)

pub lanes_still : (placed : Placed) (lanes : LaneList) → map lane_shown (map (still_row placed) lanes) ≡ lanes
lanes_still placed [] = refl
lanes_still placed (lane ∷ lanes) = λ i. lane_still placed lane i ∷ lanes_still placed lanes i

-- a cell's own place among targets
own_target : (placed : Placed) (cell : ℕ) → ◌≡◌ {A = Point} (record { x = (spot_at placed.spots cell).x; y = (spot_at placed.spots cell).y }) (get_or (map corner (places_of placed)) cell (target_by None))
own_target placed cell = sym (get_or-map corner (places_of placed) cell (place_of no_spot) ∙ ap corner (get_or-map place_of placed.spots cell no_spot))

pub each_still : (placed : Placed) (trial : ShownTrial) → ((die : Die) → rows_of trial die ≡ map (still_row placed) (lanes_of placed die)) → ShowsEach trial placed.spots (map corner (places_of placed))
each_still placed trial are die segment rank row shown there at =
    let lane = mapped (still_row placed) _ row (sym (slice_get-map (still_row placed) (lanes_of placed die) segment) ∙ ap (λ (rows : List ShownRow). slice_get rows segment) (sym (are die)) ∙ there) in
    let cell = mapped (still_cell placed) _ shown (sym (slice_get-map (still_cell placed) lane.0 rank) ∙ ap (λ (r : ShownRow). slice_get r.cells rank) lane.1 ∙ at) in
    subst (λ (s : CellShown). (s.x ≡ (spot_at placed.spots s.cell.0).x) × (s.target ≡ get_or (map corner (places_of placed)) s.cell.0 (target_by None))) cell.1
    (refl, own_target placed cell.0.0)

-- ---- a trial that lists a placement's lanes, and whose cut nets have the slots of its lines

pub dies_placed : (p : Netlist) (trial : ShownTrial) → has_rows trial.ending ≡ true → dies_shown p trial ≡ dies_of (places_shown p trial)
unfolding dies_shown
dies_placed p trial has = rw has refl

-- what a trial shows that lists a placement
pub record IsShown (p : Netlist) (grid : Slots) (trial : ShownTrial) (placed : Placed) : Type 0 where
  pub spots : spots_shown p trial ≡ placed.spots
  pub top : lanes_shown trial Top ≡ placed.top
  pub bottom : lanes_shown trial Bottom ≡ placed.bottom
  pub terminals : terminals_shown p grid trial ≡ placed.terminals

pub shown_placed : (p : Netlist) (grid : Slots) (trial : ShownTrial) (placed : Placed) → IsShown p grid trial placed → placed_shown p grid trial ≡ placed
shown_placed p grid trial placed is = λ i. record { spots = is.spots i; top = is.top i; bottom = is.bottom i; terminals = is.terminals i }

pub shown_scored : (p : Netlist) (grid : Slots) (trial : ShownTrial) (placed slotted : Placed) → has_rows trial.ending ≡ true → spots_shown p trial ≡ placed.spots
    → terminals_shown p grid trial ≡ slotted.terminals → slotted.spots ≡ placed.spots → map (λ cut. cut.net.0) trial.cuts ≡ cut_nets p (dies_of (places_of placed))
    → IsSlotBest p (places_of placed) grid slotted.terminals → pos trial.score ≡ score p (places_of slotted) slotted.terminals → trial.top_cells ≡ [] → IsScored p grid trial
shown_scored p grid trial placed slotted has spots terminals same nets best score_is none =
    let places : places_shown p trial ≡ places_of placed = ap (map place_of) spots in
    let dies : dies_shown p trial ≡ dies_of (places_of placed) = dies_placed p trial has ∙ ap dies_of places in
    record {
      nets = nets ∙ ap (cut_nets p) (sym dies);
      slots = subst (λ (ps : List Place). IsSlotBest p ps grid (terminals_shown p grid trial)) (sym places)
          (subst (IsSlotBest p (places_of placed) grid) (sym terminals) best);
      score_is = score_is ∙ (λ i. score p (map place_of (same i)) slotted.terminals) ∙ (λ i. score p (sym places i) (sym terminals i));
      no_tops = none;
    }

-- ---- slots keep a placement what it is

-- a placement with chosen terminals is of the problem
pub slotted_of : (p : Netlist) (grid : Slots) (placed slotted : Placed) (before after : ShownTrial) → IsPlan p.plan → IsGrid p.plan.frame p.plan.terminal grid → IsPlacementOf p placed
    → IsSlotted p grid placed slotted before after → IsPlacementOf p slotted
slotted_of p grid placed slotted before after plan is_grid is s =
    subst (IsPlacementOf p) (sym s.slotted_is) (record {
      cells = is.cells;
      nets = length-chosen_terminals p grid dies s.solution.chosen;
      top_lanes = is.top_lanes;
      bottom_lanes = is.bottom_lanes;
      spots = is.spots;
      centres = λ k d below. centre k d below (get_or terminals k d) refl;
    })
  where
    dies : List Die
    dies = dies_of (places_of placed)

    terminals : List (Option Point)
    terminals = chosen_terminals p grid dies s.solution.chosen

    on : AreOnSlots grid terminals
    on =
        subst (AreOnSlots grid) (sym s.best.terminals_are ∙ ap (λ (pl : Placed). pl.terminals) s.slotted_is)
        (chosen_on_slots p grid dies s.best.chosen plan is_grid s.best.are_slots)

    centre : (k : ℕ) (d : Option Point) → k < length terminals → (o : Option Point) → get_or terminals k d ≡ o → IfSome o IsCentre
    centre k d below None is = tt
    centre k d below (Some point) is =
        let first : get_or terminals k None ≡ get_or terminals k d = same_Some (get_or terminals k None) (get_or terminals k d) (sym (slice_get-get_or terminals k None below) ∙ slice_get-get_or terminals k d below) in
        let slot = on.on_slot k point below (first ∙ is) in
        subst IsCentre (sym slot.at) (slot_in_range p.plan grid slot.slot plan is_grid slot.within)

-- and exactly its cut nets have terminals
pub slotted_on_cuts : (p : Netlist) (grid : Slots) (placed slotted : Placed) (before after : ShownTrial) → IsSlotted p grid placed slotted before after
    → AreOnCuts p (dies_of (places_of slotted)) slotted.terminals
slotted_on_cuts p grid placed slotted before after s =
    subst (λ (pl : Placed). AreOnCuts p (dies_of (places_of pl)) pl.terminals) (sym s.slotted_is) (chosen_on_cuts p grid (dies_of (places_of placed)) s.solution.chosen)

-- a placement of the problem, in order, whose dies keep the rules
pub record IsKept (p : Netlist) (placed : Placed) : Type 0 where
  pub of_problem : IsPlacementOf p placed
  pub agree : DoAgree placed
  pub in_order : IsInOrder p placed
  pub rules : KeepRules p (dies_of (places_of placed))

pub slotted_keeps : (p : Netlist) (grid : Slots) (placed slotted : Placed) (before after : ShownTrial) → IsPlan p.plan → IsGrid p.plan.frame p.plan.terminal grid
    → IsSlotted p grid placed slotted before after → IsPlacementOf p placed → DoAgree placed → IsInOrder p placed → KeepRules p (dies_of (places_of placed)) → IsKept p slotted
slotted_keeps p grid placed slotted before after plan is_grid s is agree order rules = record {
  of_problem = slotted_of p grid placed slotted before after plan is_grid is s;
  agree = subst DoAgree (sym s.slotted_is) agree;
  in_order = subst (IsInOrder p) (sym s.slotted_is) order;
  rules = subst (λ (pl : Placed). KeepRules p (dies_of (places_of pl))) (sym s.slotted_is) rules;
}

-- ---- the first trial

-- a list of seats is that of the spots
seat_at : (placed : Placed) (seats : List Seat) (cell : ℕ) → map spot_seat placed.spots ≡ seats → cell < length placed.spots → IsAt (get_or seats cell no_seat) (spot_at placed.spots cell)
seat_at placed seats cell are below =
    subst (λ seat. IsAt seat (spot_at placed.spots cell)) (sym (get_or-map spot_seat placed.spots cell no_spot) ∙ ap (λ (list : List Seat). get_or list cell no_seat) are)
    (record { die_is = refl; segment_is = refl; x_is = refl })

pub record IsFirst (p : Netlist) (grid : Slots) (trial : ShownTrial) (slotted : Placed) : Type 0 where
  pub start : IsStart p grid trial
  pub of_problem : IsPlacedTrialOf p (slot_count grid) trial
  pub base : IsBase p grid trial slotted

pub first_is : (p : Netlist) (grid : Slots) (placed slotted : Placed) (filled : ShownTrial) (total : ℕ) → IsSound p → IsGrid p.plan.frame p.plan.terminal grid
    → IsPlacementOf p placed → DoAgree placed → IsInOrder p placed → KeepRules p (dies_of (places_of placed)) → IsSeedPlaced p grid placed
    → IsSlotted p grid placed slotted (with_still placed (trial_without Start 0)) filled → pos total ≡ score p (places_of slotted) slotted.terminals → total < 2 ^ 53
    → IsFirst p grid (record filled { ending = Start; score = total }) slotted
first_is p grid placed slotted filled total sound is_grid is agree order rules seed s score_is small = record {
  start = record {
    ending_is = refl;
    lanes = long;
    once = once_shown;
    from_seed = record {
      first = seed.first;
      seats = seed.seats;
      seed = seed.seed;
      seated = λ cell below. subst (λ (spots : List Spot). IsAt (get_or seed.seats cell no_seat) (spot_at spots cell)) (sym spots) (seat_at placed seed.seats cell seed.seated.seats_are (omega (arith, below, is.cells)));
      in_order = subst (IsInOrder p) (sym (shown ∙ s.slotted_is)) order;
      targets_are = targets ∙ ap (λ (spots : List Spot). map corner (map place_of spots)) (sym spots);
    };
    scored = scored;
  };
  of_problem =
      base_of_problem p grid trial slotted sound base (subst (All IsTargetPoint) (sym targets) (own_points p placed is)) (slots_within p grid placed slotted bare filled trial s refl)
      (omega (arith, small));
  base = base;
}
  where
    trial : ShownTrial
    trial = record filled { ending = Start; score = total }

    rows : (die : Die) → rows_of trial die ≡ map (still_row placed) (lanes_of placed die)
    rows Top = ap (λ (t : ShownTrial). t.top) s.after_is
    rows Bottom = ap (λ (t : ShownTrial). t.bottom) s.after_is

    lanes : (die : Die) → lanes_shown trial die ≡ lanes_of placed die
    lanes die = ap (map lane_shown) (rows die) ∙ lanes_still placed (lanes_of placed die)

    once : StandOnce (length p.cells) placed.top placed.bottom
    once = once_of placed (length p.cells) agree is.cells

    once_shown : StandOnce (length p.cells) (lanes_shown trial Top) (lanes_shown trial Bottom)
    once_shown =
        subst (λ (list : LaneList). StandOnce (length p.cells) (lanes_shown trial Top) list) (sym (lanes Bottom))
        (subst (λ (list : LaneList). StandOnce (length p.cells) list placed.bottom) (sym (lanes Top)) once)

    long : (die : Die) → length (rows_of trial die) ≡ length (segments p.plan die)
    long Top = ap length (rows Top) ∙ length-map placed.top (still_row placed) ∙ is.top_lanes
    long Bottom = ap length (rows Bottom) ∙ length-map placed.bottom (still_row placed) ∙ is.bottom_lanes

    own : List Point
    own = map corner (places_of placed)

    own_long : length own ≡ length p.cells
    own_long = length-map (places_of placed) corner ∙ length-map placed.spots place_of ∙ is.cells

    each : ShowsEach trial placed.spots own
    each = each_still placed trial rows

    spots : spots_shown p trial ≡ placed.spots
    spots = spots_are p trial placed own is agree once (lanes Top) (lanes Bottom) each

    targets : targets_shown p trial ≡ own
    targets = targets_are p trial placed own is agree once (lanes Top) (lanes Bottom) own_long each

    terminals : terminals_shown p grid trial ≡ slotted.terminals
    terminals = terminals_are p grid trial (dies_of (places_of placed)) s.solution.chosen s.nets_are s.slots_are ∙ sym (ap (λ (pl : Placed). pl.terminals) s.slotted_is)

    shown : placed_shown p grid trial ≡ slotted
    shown = shown_placed p grid trial slotted (record {
      spots = spots ∙ sym (ap (λ (pl : Placed). pl.spots) s.slotted_is);
      top = lanes Top ∙ sym (ap (λ (pl : Placed). pl.top) s.slotted_is);
      bottom = lanes Bottom ∙ sym (ap (λ (pl : Placed). pl.bottom) s.slotted_is);
      terminals = terminals;
    })

    scored : IsScored p grid trial
    scored =
        shown_scored p grid trial placed slotted refl spots terminals (ap (λ (pl : Placed). pl.spots) s.slotted_is) s.nets_are s.best score_is (ap (λ (t : ShownTrial). t.top_cells) s.after_is)

    bare : ShownTrial
    bare = with_still placed (trial_without Start 0)

    kept : IsKept p slotted
    kept = slotted_keeps p grid placed slotted bare filled sound.plan is_grid s is agree order rules

    base : IsBase p grid trial slotted
    base = record {
      has = refl;
      shown = shown;
      of_problem = kept.of_problem;
      agree = kept.agree;
      in_order = kept.in_order;
      rules = kept.rules;
      scored = scored;
      certified = record {
        duals = still_duals p trial placed rows;
        prices = slotted_prices p grid placed slotted bare filled trial is s refl (ap (map place_of) spots) terminals;
        small_duals = still_duals_small trial placed rows;
        small_prices = slotted_prices_small p grid placed slotted bare filled trial s refl;
      };
    }
