-- A first fit as a placement.
use Rattle.std.specs.Prelude.{◌≡◌, ℕ, ◌<◌, ◌≤◌, List, [], length, map, replicate, get_or, None, Ok, Err}
use Rattle.fp_base.specs.declared.ids.Die.{Die}
use Rattle.fp_tech.specs.Plan.{segments}
use Rattle.fp_tech.specs.Slots.{Slots, slot_count, IsGrid}
use Rattle.fp_netlist.specs.Netlist.{Netlist}
use Rattle.fp_place.specs.Places.{dies_of}
use Rattle.fp_place.specs.Placed.{Placed, lanes_of, places_of, drawn_of, IsPlacementOf, IsInOrder, DoAgree}
use Rattle.fp_place.specs.Drawing.{IsCoordinate}
use Rattle.fp_place.specs.Blocks.{KeepsOffBlocks}
use Rattle.fp_place.specs.Cut.{cut}
use Rattle.fp_place.specs.Legal.{IsLegal}
use Rattle.fp_place.specs.Settled.{KeepRules}
use Rattle.fp_score.specs.FirstFit.{Seat, seat_places, sitters, first_fit}
use Rattle.fp_place.specs.OnSlots.{AreOnCuts}
use Rattle.fp_seed.specs.declared.fit.Fit.{Fit}
use Rattle.fp_seed.specs.declared.fit.Fit.TheVariants.{Stands, Stops}
use Rattle.fp_seed.specs.Seeded.{spot_seat, IsSeated}

-- a seat is on a segment of its die, at an x in range
pub record IsOnDie (p : Netlist) (seat : Seat) : Type 0 where
  pub within : seat.segment < length (segments p.plan seat.die)
  pub x : IsCoordinate seat.x

-- a placement is that of these seats, and has no terminals yet
pub record IsLaid (p : Netlist) (seats : List Seat) (placed : Placed) : Type 0 where
  pub seats_are : map spot_seat placed.spots ≡ seats
  pub places_are : places_of placed ≡ seat_places p.plan seats
  pub lane_at : (die : Die) (segment : ℕ) → segment < length (segments p.plan die) → get_or (lanes_of placed die) segment [] ≡ sitters die segment seats
  pub of_problem : IsPlacementOf p placed
  pub bare : placed.terminals ≡ replicate (length p.nets) None
  pub agree : DoAgree placed

-- a first fit's placement, which is in order, legal and off the blockages; its dies keep the rules, and its cut nets are at most the slots
pub record IsFirstFit (p : Netlist) (grid : Slots) (first : Die) (placed : Placed) : Type 0 where
  pub seats : List Seat
  pub fits : first_fit p (slot_count grid) first ≡ Ok seats
  pub seated : IsSeated p grid seats placed
  pub legal : IsLegal p (drawn_of placed)
  pub in_order : IsInOrder p placed
  pub of_problem : IsPlacementOf p placed
  pub on_cuts : AreOnCuts p (dies_of (places_of placed)) placed.terminals
  pub rules : KeepRules p (dies_of (places_of placed))
  pub slots : (other : Slots) → IsGrid p.plan.frame p.plan.terminal other → cut p (dies_of (places_of placed)) ≤ slot_count other
  pub blocks : KeepsOffBlocks p (drawn_of placed)
  pub agree : DoAgree placed

abbrev pub Fits : Netlist → Slots → Die → Fit → Type 0
Fits p grid first (Stands placed) = IsFirstFit p grid first placed
Fits p grid first (Stops stop) = first_fit p (slot_count grid) first ≡ Err stop
