-- The first fit: cells go in file order, each to the first segment that has room for it, over the segments of a first die upwards and
-- then those of the other; each cut net then takes the next slot.
use Rattle.std.specs.Prelude.{◌≡◌, ℕ, zero, suc, ◌+◌, ◌<◌, Bool, ◌&&◌, nat_lt, int_le, if◌then◌else◌, List, [], ◌∷◌, ◌++◌, length, map, get_or, nat_eq, Option, Some, None, Result, Ok, Err, ℤ, pos, ◌+ℤ◌}
use Rattle.std.specs.List.{range_with_len}
use Rattle.fp_base.specs.declared.ids.Die.{Die}
use Rattle.fp_base.specs.declared.ids.Die.TheVariants.{Top, Bottom}
use Rattle.fp_base.specs.declared.ids.CellId.{CellId}
use Rattle.fp_base.specs.declared.ids.Point.{Point}
use Rattle.fp_tech.specs.declared.dies.Segment.{Segment}
use Rattle.fp_tech.specs.Plan.{Plan, segments}
use Rattle.fp_tech.specs.Slots.{Slots, centre_of}
use Rattle.fp_netlist.specs.Netlist.{Netlist, ids_where}
use Rattle.fp_netlist.specs.Points.{width, area}
use Rattle.fp_place.specs.Places.{Place, same_die, other_die}
use Rattle.fp_place.specs.Areas.{fits, keeps, area_on}
use Rattle.fp_place.specs.Cut.{is_cut, cut, cut_below}
use Rattle.fp_score.specs.declared.stop.Stop.{Stop}
use Rattle.fp_score.specs.declared.stop.Stop.TheVariants.{NoRoom, NoSlots}

-- where a cell sits: a segment of a die, and its x
pub record Seat : Type 0 where
  pub die : Die
  pub segment : ℕ
  pub x : ℤ

abbrev pub no_segment : Segment
no_segment = record { y = pos 0; start = pos 0; length = pos 0 }

abbrev pub segment_at : Plan → Die → ℕ → Segment
segment_at plan die number = get_or (segments plan die) number no_segment

abbrev pub seat_dies : List Seat → List Die
seat_dies seats = map (λ seat. seat.die) seats

-- a seat as a place: its segment's y
abbrev pub seat_place : Plan → Seat → Place
seat_place plan seat = record { die = seat.die; x = seat.x; y = (segment_at plan seat.die seat.segment).y }

abbrev pub seat_places : Plan → List Seat → List Place
seat_places plan seats = map (seat_place plan) seats

abbrev pub sits_on : Die → ℕ → Seat → Bool
sits_on die segment seat = same_die seat.die die && nat_eq seat.segment segment

-- the cells on a segment, in file order
unfoldable pub sitters : Die → ℕ → List Seat → List CellId
sitters die segment seats = map (λ cell. record { 0 = cell }) (ids_where (sits_on die segment) 0 seats)

-- the length of a segment that is used, where the cells from a number on have these seats
unfoldable pub used_from : Netlist → Die → ℕ → ℕ → List Seat → ℕ
used_from p die segment cell [] = 0
used_from p die segment cell (seat ∷ seats) = (if sits_on die segment seat then width p cell die else 0) + used_from p die segment (cell + 1) seats

abbrev pub used : Netlist → Die → ℕ → List Seat → ℕ
used p die segment seats = used_from p die segment 0 seats

-- a segment has room for a cell: its free length is at least the cell's width
unfoldable pub has_length : Netlist → List Seat → ℕ → Die → ℕ → Bool
has_length p seats cell die segment = int_le (pos (used p die segment seats + width p cell die)) (segment_at p.plan die segment).length

-- the first number from i on, of so many, that passes
unfoldable pub first_from : (ℕ → Bool) → ℕ → ℕ → Option ℕ
first_from test i zero = None
first_from test i (suc n) = if test i then Some i else first_from test (i + 1) n

-- a die takes a cell: the cell fits it, and the die keeps its percent
abbrev pub takes : Netlist → List Seat → ℕ → Die → Bool
takes p seats cell die = fits p cell die && keeps p.plan die (area_on p die (seat_dies seats) + area p cell die)

-- the first segment of a die that has room for a cell, where the die takes it
unfoldable pub first_room : Netlist → List Seat → ℕ → Die → Option ℕ
first_room p seats cell die = if takes p seats cell die then first_from (has_length p seats cell die) 0 (length (segments p.plan die)) else None

-- the seat on a segment, behind what is used
abbrev pub seat_on : Netlist → List Seat → Die → ℕ → Seat
seat_on p seats die segment = record { die = die; segment = segment; x = (segment_at p.plan die segment).start +ℤ pos (used p die segment seats) }

abbrev pub seat_of : Netlist → List Seat → Die → Option ℕ → Option ℕ → Option Seat
seat_of p seats first (Some segment) other = Some (seat_on p seats first segment)
seat_of p seats first None (Some segment) = Some (seat_on p seats (other_die first) segment)
seat_of p seats first None None = None

-- the next cell's seat, after cells of these seats
unfoldable pub next_seat : Netlist → Die → List Seat → Option Seat
next_seat p first seats = seat_of p seats first (first_room p seats (length seats) first) (first_room p seats (length seats) (other_die first))

-- a seat, or the stop where there is none
abbrev pub seat_or : Stop → Option Seat → (Seat → Result (List Seat) Stop) → Result (List Seat) Stop
seat_or stop None next = Err stop
seat_or stop (Some seat) next = next seat

-- so many more cells, or the first that has no seat
unfoldable pub filled : Netlist → Die → ℕ → List Seat → Result (List Seat) Stop
filled p first zero seats = Ok seats
filled p first (suc n) seats = seat_or (NoRoom (record { 0 = length seats })) (next_seat p first seats) (λ seat. filled p first n (seats ++ seat ∷ []))

-- seats of all cells stand where the slots are at least the cut nets
abbrev pub with_slots : Netlist → ℕ → Result (List Seat) Stop → Result (List Seat) Stop
with_slots p slots (Err stop) = Err stop
with_slots p slots (Ok seats) = if nat_lt slots (cut p (seat_dies seats)) then Err (NoSlots (cut p (seat_dies seats)) slots) else Ok seats

-- the first fit with a first die: the seats of all cells, or why it stops
unfoldable pub first_fit : Netlist → ℕ → Die → Result (List Seat) Stop
first_fit p slots first = with_slots p slots (filled p first (length p.cells) [])

-- a stop at a cell is at one of the problem
abbrev pub IsStopOf : Netlist → Stop → Type 0
IsStopOf p (NoRoom cell) = cell.0 < length p.cells
IsStopOf p (NoSlots cut slots) = Unit {0}

-- the terminal of a net: the k-th cut net in file order takes slot k, counted from 0
abbrev pub terminal_of : Netlist → Slots → List Die → ℕ → Option Point
terminal_of p grid dies net = if is_cut p dies net then Some (centre_of grid (cut_below p dies net)) else None

unfoldable pub fit_terminals : Netlist → Slots → List Die → List (Option Point)
fit_terminals p grid dies = map (terminal_of p grid dies) (range_with_len 0 (length p.nets))

-- The seed: the first fit with the top die first, or, where that stops, the one with the bottom die first.
abbrev pub IsSeed : Netlist → ℕ → Die → List Seat → Type 0
IsSeed p slots Top seats = first_fit p slots Top ≡ Ok seats
IsSeed p slots Bottom seats = ((stop : Stop) × (first_fit p slots Top ≡ Err stop)) × (first_fit p slots Bottom ≡ Ok seats)
