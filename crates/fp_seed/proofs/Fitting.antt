-- Lemmas of a first fit from its parts: where it stops, and what its placement is.
use Rattle.std.specs.Prelude.{◌≡◌, ℕ, ◌<◌, ◌≤◌, if◌then◌else◌, List, [], length, All, Ok, Err}
use Rattle.std.proofs.Common.{refl, sym, ap, subst, ◌∙◌}
use Rattle.std.proofs.lemmas.Bool.{lt-ltb, le-ltb}
use Rattle.fp_base.specs.declared.ids.Die.{Die}
use Rattle.fp_tech.specs.Slots.{Slots, slot_count, IsGrid}
use Rattle.fp_tech.specs.SlotsLaws.{grid_once}
use Rattle.fp_netlist.specs.Netlist.{Netlist, IsSound}
use Rattle.fp_place.specs.Cut.{cut}
use Rattle.fp_place.specs.Drawing.{drawing_of}
use Rattle.fp_place.specs.Legal.{IsLegal}
use Rattle.fp_place.specs.Places.{dies_of}
use Rattle.fp_place.specs.Placed.{Placed, places_of, drawn_of}
use Rattle.fp_place.specs.Settled.{KeepRules}
use Rattle.fp_place.specs.BlocksLaws.{legal_keeps_off}
use Rattle.fp_score.specs.declared.stop.Stop.{Stop}
use Rattle.fp_score.specs.declared.stop.Stop.TheVariants.{NoSlots}
use Rattle.fp_score.specs.FirstFit.{Seat, seat_dies, filled, with_slots, first_fit, fit_terminals}
use Rattle.fp_place.specs.OnSlots.{AreOnCuts}
use Rattle.fp_seed.specs.Fits.{IsOnDie, IsLaid, IsFirstFit}
use Rattle.fp_seed.specs.FeasibleLaws.{all_feasible}
use Rattle.fp_seed.specs.LanesLaws.{feasible_on_dies, lanes_in_order}
use Rattle.fp_seed.specs.TerminalsLaws.{length-fit_terminals, fit_on_cuts, fit_on_slots, on_slots_in_range}
use Rattle.fp_seed.specs.RulesLaws.{dies_of_seats}
use Rattle.fp_seed.specs.SeededLaws.{fit_keeps_rules, fit_is_legal}

-- a first fit stops where a cell has no seat
pub stops_for_room : (p : Netlist) (slots : ℕ) (first : Die) (stop : Stop) → filled p first (length p.cells) [] ≡ Err stop → first_fit p slots first ≡ Err stop
unfolding first_fit
stops_for_room p slots first stop stuck = ap (with_slots p slots) stuck

-- a first fit stops where the slots are fewer than the cut nets
pub stops_for_slots : (p : Netlist) (slots : ℕ) (first : Die) (seats : List Seat) → filled p first (length p.cells) [] ≡ Ok seats → slots < cut p (seat_dies seats)
    → first_fit p slots first ≡ Err (NoSlots (cut p (seat_dies seats)) slots)
unfolding first_fit
stops_for_slots p slots first seats fills few =
    ap (with_slots p slots) fills
    ∙ ap (λ b. if b then Err (NoSlots (cut p (seat_dies seats)) slots) else Ok seats) (lt-ltb slots (cut p (seat_dies seats)) few)

-- a first fit stands where all cells have seats and the slots are at least the cut nets
pub fits_where_enough : (p : Netlist) (slots : ℕ) (first : Die) (seats : List Seat) → filled p first (length p.cells) [] ≡ Ok seats → cut p (seat_dies seats) ≤ slots
    → first_fit p slots first ≡ Ok seats
unfolding first_fit
fits_where_enough p slots first seats fills enough =
    ap (with_slots p slots) fills
    ∙ ap (λ b. if b then Err (NoSlots (cut p (seat_dies seats)) slots) else Ok seats) (le-ltb slots (cut p (seat_dies seats)) enough)

pub seats_on_dies : (p : Netlist) (first : Die) (seats : List Seat) → IsSound p → filled p first (length p.cells) [] ≡ Ok seats → All (IsOnDie p) seats
seats_on_dies p first seats sound fills = feasible_on_dies p seats sound.plan (all_feasible p first seats fills)

-- the placement of the seats with the first fit's terminals
abbrev pub with_terminals : Netlist → Slots → List Seat → Placed → Placed
with_terminals p grid seats placed = record placed { terminals = fit_terminals p grid (seat_dies seats) }

stands_with : (p : Netlist) (grid : Slots) (first : Die) (seats : List Seat) (placed : Placed) → IsSound p → IsGrid p.plan.frame p.plan.terminal grid
    → filled p first (length p.cells) [] ≡ Ok seats → cut p (seat_dies seats) ≤ slot_count grid → IsLaid p seats placed
    → IsFirstFit p grid first (with_terminals p grid seats placed)
stands_with p grid first seats placed sound is_grid fills enough is = record {
  seats = seats;
  fits = fits;
  seated = record { seats_are = is.seats_are; places_are = is.places_are; terminals_are = refl };
  legal = legal;
  in_order = lanes_in_order p seats (with_terminals p grid seats placed) (all_feasible p first seats fills) is.places_are is.lane_at;
  of_problem = record {
    cells = is.of_problem.cells;
    nets = length-fit_terminals p grid (seat_dies seats);
    top_lanes = is.of_problem.top_lanes;
    bottom_lanes = is.of_problem.bottom_lanes;
    spots = is.of_problem.spots;
    centres = on_slots_in_range p.plan grid (fit_terminals p grid (seat_dies seats)) sound.plan is_grid (fit_on_slots p grid (seat_dies seats) sound.plan is_grid enough);
  };
  on_cuts = subst (λ dies. AreOnCuts p dies (fit_terminals p grid (seat_dies seats))) (sym dies_are) (fit_on_cuts p grid (seat_dies seats));
  rules = subst (KeepRules p) (sym dies_are) (fit_keeps_rules p (slot_count grid) first seats fits);
  slots = λ other is_other.
      subst (λ slots. cut p (dies_of (places_of placed)) ≤ slot_count slots) (grid_once p.plan.frame p.plan.terminal grid other is_grid is_other)
      (subst (λ dies. cut p dies ≤ slot_count grid) (sym dies_are) enough);
  blocks = legal_keeps_off p (drawn_of (with_terminals p grid seats placed)) sound.plan legal;
  agree = is.agree;
}
  where
    fits : first_fit p (slot_count grid) first ≡ Ok seats
    fits = fits_where_enough p (slot_count grid) first seats fills enough

    dies_are : dies_of (places_of placed) ≡ seat_dies seats
    dies_are = ap dies_of is.places_are ∙ dies_of_seats p.plan seats

    legal : IsLegal p (drawn_of (with_terminals p grid seats placed))
    legal = subst (λ places. IsLegal p (drawing_of places (fit_terminals p grid (seat_dies seats)))) (sym is.places_are)
        (fit_is_legal p grid first seats sound.plan is_grid fits)

pub stands : (p : Netlist) (grid : Slots) (first : Die) (seats : List Seat) (placed now : Placed) → IsSound p → IsGrid p.plan.frame p.plan.terminal grid
    → filled p first (length p.cells) [] ≡ Ok seats → cut p (seat_dies seats) ≤ slot_count grid → IsLaid p seats placed
    → now ≡ with_terminals p grid seats placed → IsFirstFit p grid first now
stands p grid first seats placed now sound is_grid fills enough is same =
    subst (IsFirstFit p grid first) (sym same) (stands_with p grid first seats placed sound is_grid fills enough is)
