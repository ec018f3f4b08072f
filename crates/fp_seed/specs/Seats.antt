-- The seats of the first cells, with the areas that they take and the segments of both dies.
use Rattle.std.specs.Prelude.{◌≡◌, ℕ, Bool, true, false, List, [], ◌∷◌, ◌++◌, length, Option, Some, None, Ok, Err, ℤ}
use Rattle.fp_base.specs.declared.ids.Die.{Die}
use Rattle.fp_base.specs.declared.ids.Die.TheVariants.{Top, Bottom}
use Rattle.fp_base.specs.declared.ids.CellId.{CellId}
use Rattle.fp_netlist.specs.Netlist.{Netlist}
use Rattle.fp_place.specs.Areas.{area_on}
use Rattle.fp_score.specs.declared.stop.Stop.TheVariants.{NoRoom}
use Rattle.fp_score.specs.FirstFit.{Seat, seat_dies, seat_on, next_seat, filled}
use Rattle.fp_seed.specs.declared.seating.Seating.{Seating}
use Rattle.fp_seed.specs.FilledSegments.{IsReady, HoldsSeats}

-- the areas and the segments are those of the seats
pub record IsSeating (p : Netlist) (s : Seating) : Type 0 where
  pub top_area : s.caps.top ≡ area_on p Top (seat_dies s.seats.items)
  pub bottom_area : s.caps.bottom ≡ area_on p Bottom (seat_dies s.seats.items)
  pub top_ready : IsReady p Top s.top.used.items s.top.first.items s.top.lanes
  pub bottom_ready : IsReady p Bottom s.bottom.used.items s.bottom.first.items s.bottom.lanes
  pub top_holds : HoldsSeats p Top s.seats.items s.top.used.items s.top.lanes
  pub bottom_holds : HoldsSeats p Bottom s.seats.items s.bottom.used.items s.bottom.lanes

-- room is taken for the next cell on a segment: the seats are not told of it yet
pub record IsTaken (p : Netlist) (before : Seating) (die : Die) (segment : ℕ) (x : ℤ) (s : Seating) : Type 0 where
  pub x_is : x ≡ (seat_on p before.seats.items die segment).x
  pub seats_are : s.seats.items ≡ before.seats.items
  pub caps_are : s.caps ≡ before.caps
  pub top_ready : IsReady p Top s.top.used.items s.top.first.items s.top.lanes
  pub bottom_ready : IsReady p Bottom s.bottom.used.items s.bottom.first.items s.bottom.lanes
  pub top_holds : HoldsSeats p Top (before.seats.items ++ seat_on p before.seats.items die segment ∷ []) s.top.used.items s.top.lanes
  pub bottom_holds : HoldsSeats p Bottom (before.seats.items ++ seat_on p before.seats.items die segment ∷ []) s.bottom.used.items s.bottom.lanes

-- one more cell has its seat
pub record IsPlaced (p : Netlist) (first : Die) (before : List Seat) (s : Seating) : Type 0 where
  pub seat : Seat
  pub next : next_seat p first before ≡ Some seat
  pub seats_are : s.seats.items ≡ before ++ seat ∷ []
  pub seating : IsSeating p s

-- whether the next cell found a seat
abbrev pub Places : Netlist → Die → List Seat → Bool → Seating → Type 0
Places p first before true s = IsPlaced p first before s
Places p first before false s = next_seat p first before ≡ None

-- all cells have their seats, or a cell found none
abbrev pub Fills : Netlist → Die → Option CellId → Seating → Type 0
Fills p first None s = (filled p first (length p.cells) [] ≡ Ok s.seats.items) × IsSeating p s
Fills p first (Some cell) s = filled p first (length p.cells) [] ≡ Err (NoRoom cell)
