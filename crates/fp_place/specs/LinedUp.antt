-- From lined up cells and centres to a placement.
use Rattle.std.specs.Prelude.{◌≡◌, ℕ, ◌<◌, List, length, Option, Some}
use Rattle.fp_base.specs.declared.ids.Point.{Point}
use Rattle.fp_netlist.specs.Netlist.{Netlist}
use Rattle.fp_place.specs.declared.fault.Fault.{Fault}
use Rattle.fp_place.specs.Places.{Place}
use Rattle.fp_place.specs.Drawing.{Drawing}
use Rattle.fp_place.specs.Lining.{IsOnSegment, AreLined}
use Rattle.fp_place.specs.Placed.{LaneList, Placed, lanes_of, entry_at, spot_at, places_of, IsPlacementOf, IsInOrder}
use Rattle.fp_place.specs.FirstFaults.{HoldBelow, IsFirstFault}

-- cells stand on the segments of these numbers
abbrev pub AreOnSegments : Netlist → List Place → List ℕ → Type 0
AreOnSegments p places numbers = (cell : ℕ) → cell < length p.cells → IsOnSegment p places numbers cell

-- the lanes hold the cells, each on its segment
pub record AreLinedUp (p : Netlist) (places : List Place) (top bottom : LaneList) : Type 0 where
  pub numbers : List ℕ
  pub on_segments : AreOnSegments p places numbers
  pub lined : AreLined p places numbers top bottom

-- rules 4 to 6 hold, and the cells are lined up
pub record AreClear (p : Netlist) (places : List Place) (numbers : List ℕ) (top bottom : LaneList) : Type 0 where
  pub lined : AreLined p places numbers top bottom
  pub holds : (drawing : Drawing) → HoldBelow p drawing places 4 → HoldBelow p drawing places 7

-- the first fault of a drawing with these places, where the first three rules hold
abbrev pub IsFaultAfter : Netlist → List Place → Fault → Type 0
IsFaultAfter p places fault = (drawing : Drawing) → HoldBelow p drawing places 4 → IsFirstFault p drawing places fault

-- each spot's lane has its cell
abbrev pub AreNamed : Placed → Type 0
AreNamed placed = (cell : ℕ) → cell < length placed.spots
    → entry_at (lanes_of placed (spot_at placed.spots cell).die) (spot_at placed.spots cell).segment (spot_at placed.spots cell).rank ≡ Some (record { 0 = cell })

-- a placement of these places and terminals, in order
pub record IsLaid (p : Netlist) (places : List Place) (terminals : List (Option Point)) (placed : Placed) : Type 0 where
  pub places_are : places_of placed ≡ places
  pub terminals_are : placed.terminals ≡ terminals
  pub of_problem : IsPlacementOf p placed
  pub in_order : IsInOrder p placed
