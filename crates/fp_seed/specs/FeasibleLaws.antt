-- Laws of the first fit: each seat that it fills is feasible, and there is one for each cell.
use Rattle.std.specs.Prelude.{◌≡◌, ℕ, zero, suc, ◌+◌, ◌<◌, ◌≤◌, Bool, true, false, int_le, nat_lt, if◌then◌else◌, List, [], ◌∷◌, ◌++◌, length, take, get_or, Option, Some, None, Result, Ok, Err, ℤ, pos, ◌+ℤ◌, ◌≤ℤ◌, ◌⊎◌}
use Rattle.std.proofs.Common.{refl, sym, ap, subst, ◌∙◌, arith, inl, inr}
use Rattle.std.proofs.lemmas.List.{length_push, take-append-le, take_at, get_or_append_left, get_or_push}
use Rattle.std.proofs.lemmas.Bool.{and_parts, cases_lt, ltb-false}
use Rattle.std.proofs.lemmas.Option.{same_Some}
use Rattle.std.proofs.lemmas.Int.{ints}
use Rattle.fp_base.specs.declared.ids.Die.{Die}
use Rattle.fp_base.specs.declared.ids.Die.TheVariants.{Top}
use Rattle.fp_tech.specs.Plan.{segments}
use Rattle.fp_netlist.specs.Netlist.{Netlist}
use Rattle.fp_netlist.specs.Points.{width, area}
use Rattle.fp_place.specs.Places.{other_die}
use Rattle.fp_place.specs.Areas.{fits, keeps, area_on}
use Rattle.fp_place.specs.Cut.{cut}
use Rattle.fp_score.specs.declared.stop.Stop.{Stop}
use Rattle.fp_score.specs.declared.stop.Stop.TheVariants.{NoRoom, NoSlots}
use Rattle.fp_score.specs.FirstFit.{Seat, segment_at, seat_dies, used, has_length, first_from, takes, first_room, seat_on, seat_of, next_seat, seat_or, filled, with_slots, first_fit}

-- the seat that stands for one that is not there
abbrev pub no_seat : Seat
no_seat = record { die = Top; segment = 0; x = pos 0 }

-- A seat is feasible for a cell after cells of these seats: it is on a segment of its die behind what is used, the segment has room for the
-- cell, the cell fits the die, and the die keeps its percent with it.
pub record IsFeasible (p : Netlist) (before : List Seat) (cell : ℕ) (seat : Seat) : Type 0 where
  pub within : seat.segment < length (segments p.plan seat.die)
  pub behind : seat.x ≡ (segment_at p.plan seat.die seat.segment).start +ℤ pos (used p seat.die seat.segment before)
  pub room : pos (used p seat.die seat.segment before + width p cell seat.die) ≤ℤ (segment_at p.plan seat.die seat.segment).length
  pub fits_die : fits p cell seat.die ≡ true
  pub keeps_percent : keeps p.plan seat.die (area_on p seat.die (seat_dies before) + area p cell seat.die) ≡ true

-- each seat is feasible after those before it
abbrev pub AreFeasible : Netlist → List Seat → Type 0
AreFeasible p seats = (k : ℕ) (d : Seat) → k < length seats → IsFeasible p (take k seats) k (get_or seats k d)

-- the first number that passes is in range, and passes
first_from_some : (test : ℕ → Bool) (n i k : ℕ) → first_from test i n ≡ Some k → (k < i + n) × (test k ≡ true)
unfolding first_from
first_from_some test zero i k e = absurd (let nothing : None ≡ Some k = e in cc)
first_from_some test (suc n) i k e = by (test i) refl (first_from_some test n (i + 1) k) e
  where
    by : (b : Bool) → test i ≡ b → (first_from test (i + 1) n ≡ Some k → (k < i + 1 + n) × (test k ≡ true))
        → (if b then Some i else first_from test (i + 1) n) ≡ Some k → (k < i + suc n) × (test k ≡ true)
    by true passes rest at =
        let same : i ≡ k = same_Some i k at in
        (omega arith, ap test (sym same) ∙ passes)
    by false passes rest at = let later = rest at in (omega (arith, later.0), later.1)

-- a segment that was found has room, and the die takes the cell
pub record HasRoom (p : Netlist) (seats : List Seat) (cell : ℕ) (die : Die) (segment : ℕ) : Type 0 where
  pub takes_it : takes p seats cell die ≡ true
  pub within : segment < length (segments p.plan die)
  pub long : has_length p seats cell die segment ≡ true

pub first_room_some : (p : Netlist) (seats : List Seat) (cell : ℕ) (die : Die) (segment : ℕ) → first_room p seats cell die ≡ Some segment → HasRoom p seats cell die segment
unfolding first_room
first_room_some p seats cell die segment e = by (takes p seats cell die) refl e
  where
    by : (b : Bool) → takes p seats cell die ≡ b
        → (if b then first_from (has_length p seats cell die) 0 (length (segments p.plan die)) else None) ≡ Some segment → HasRoom p seats cell die segment
    by true took at =
        let found = first_from_some (has_length p seats cell die) (length (segments p.plan die)) 0 segment at in
        record { takes_it = took; within = omega (arith, found.0); long = found.1 }
    by false took at = absurd (let nothing : None ≡ Some segment = at in cc)

-- the test of two whole numbers tells that one is at most the other
pub at_most : (a b : ℤ) → int_le a b ≡ true → a ≤ℤ b
at_most a b h = grind (arith, ints)

-- the seat on a segment that has room is feasible
seat_on_is : (p : Netlist) (seats : List Seat) (cell : ℕ) (die : Die) (segment : ℕ) → HasRoom p seats cell die segment → IsFeasible p seats cell (seat_on p seats die segment)
unfolding has_length
seat_on_is p seats cell die segment is =
    let parts = and_parts (fits p cell die) (keeps p.plan die (area_on p die (seat_dies seats) + area p cell die)) is.takes_it in
    record {
      within = is.within;
      behind = refl;
      room = at_most (pos (used p die segment seats + width p cell die)) (segment_at p.plan die segment).length is.long;
      fits_die = parts.0;
      keeps_percent = parts.1;
    }

pub next_seat_is : (p : Netlist) (first : Die) (seats : List Seat) (seat : Seat) → next_seat p first seats ≡ Some seat → IsFeasible p seats (length seats) seat
unfolding next_seat
next_seat_is p first seats seat e =
    by (first_room p seats (length seats) first) (first_room p seats (length seats) (other_die first)) refl refl e
  where
    at_seat : (die : Die) (segment : ℕ) → first_room p seats (length seats) die ≡ Some segment → Some (seat_on p seats die segment) ≡ Some seat → IsFeasible p seats (length seats) seat
    at_seat die segment room at =
        subst (IsFeasible p seats (length seats)) (same_Some (seat_on p seats die segment) seat at)
        (seat_on_is p seats (length seats) die segment (first_room_some p seats (length seats) die segment room))

    by : (here there : Option ℕ) → first_room p seats (length seats) first ≡ here → first_room p seats (length seats) (other_die first) ≡ there
        → seat_of p seats first here there ≡ Some seat → IsFeasible p seats (length seats) seat
    by (Some segment) there is_here is_there at = at_seat first segment is_here at
    by None (Some segment) is_here is_there at = at_seat (other_die first) segment is_there at
    by None None is_here is_there at = absurd (let nothing : None ≡ Some seat = at in cc)

-- a feasible seat behind feasible seats keeps them so
pub feasible_more : (p : Netlist) (seats : List Seat) (seat : Seat) → AreFeasible p seats → IsFeasible p seats (length seats) seat → AreFeasible p (seats ++ seat ∷ [])
feasible_more p seats seat are is k d below = by (cases_lt k (length seats))
  where
    by : (k < length seats) ⊎ (length seats ≤ k) → IsFeasible p (take k (seats ++ seat ∷ [])) k (get_or (seats ++ seat ∷ []) k d)
    by (inl before) =
        subst (λ front. IsFeasible p front k (get_or (seats ++ seat ∷ []) k d)) (sym (take-append-le k seats (seat ∷ []) (omega arith)))
        (subst (IsFeasible p (take k seats) k) (sym (get_or_append_left seats (seat ∷ []) d k before)) (are k d before))
    by (inr last) =
        let many : length (seats ++ seat ∷ []) ≡ length seats + 1 = length_push seats seat in
        let same : length seats ≡ k = omega (arith, below, last, many) in
        subst (λ front. IsFeasible p front k (get_or (seats ++ seat ∷ []) k d)) (sym (take_at seats (seat ∷ []) k same))
        (subst (IsFeasible p seats k) (sym (get_or_push seats seat d k same))
        (subst (λ n. IsFeasible p seats n seat) same is))

-- where the first fit seats so many cells more, it has a seat for the next one and seats the others after it
filled_step : (p : Netlist) (first : Die) (n : ℕ) (seats all : List Seat) → filled p first (suc n) seats ≡ Ok all
    → (seat : Seat) × (next_seat p first seats ≡ Some seat) × (filled p first n (seats ++ seat ∷ []) ≡ Ok all)
unfolding filled
filled_step p first n seats all e = by (next_seat p first seats) refl e
  where
    by : (next : Option Seat) → next_seat p first seats ≡ next → seat_or (NoRoom (record { 0 = length seats })) next (λ seat. filled p first n (seats ++ seat ∷ [])) ≡ Ok all
        → (seat : Seat) × (next_seat p first seats ≡ Some seat) × (filled p first n (seats ++ seat ∷ []) ≡ Ok all)
    by None is at = absurd (let stopped : Err (NoRoom (record { 0 = length seats })) ≡ Ok all = at in cc)
    by (Some seat) is at = (seat, is, at)

pub same_ok : (a b : List Seat) → ◌≡◌ {A = Result (List Seat) Stop} (Ok a) (Ok b) → a ≡ b
same_ok a b e = cc

pub length-filled : (p : Netlist) (first : Die) (n : ℕ) (seats all : List Seat) → filled p first n seats ≡ Ok all → length all ≡ length seats + n
unfolding filled
length-filled p first zero seats all e = let same : seats ≡ all = same_ok seats all e in omega (arith, ap length same)
length-filled p first (suc n) seats all e =
    let step = filled_step p first n seats all e in
    omega (arith, length-filled p first n (seats ++ step.0 ∷ []) all step.2, length_push seats step.0)

pub filled_feasible : (p : Netlist) (first : Die) (n : ℕ) (seats all : List Seat) → AreFeasible p seats → filled p first n seats ≡ Ok all → AreFeasible p all
unfolding filled
filled_feasible p first zero seats all are e = subst (AreFeasible p) (same_ok seats all e) are
filled_feasible p first (suc n) seats all are e =
    let step = filled_step p first n seats all e in
    filled_feasible p first n (seats ++ step.0 ∷ []) all (feasible_more p seats step.0 are (next_seat_is p first seats step.0 step.1)) step.2

-- the seats of all cells are feasible
pub all_feasible : (p : Netlist) (first : Die) (seats : List Seat) → filled p first (length p.cells) [] ≡ Ok seats → AreFeasible p seats
all_feasible p first seats e = filled_feasible p first (length p.cells) [] seats (λ k d below. absurd (omega arith)) e

pub as_many_seats : (p : Netlist) (first : Die) (seats : List Seat) → filled p first (length p.cells) [] ≡ Ok seats → length seats ≡ length p.cells
as_many_seats p first seats e = omega (arith, length-filled p first (length p.cells) [] seats e)

-- a first fit fills seats for all cells, and the slots are at least its cut nets
pub record IsFit (p : Netlist) (slots : ℕ) (first : Die) (seats : List Seat) : Type 0 where
  pub fills : filled p first (length p.cells) [] ≡ Ok seats
  pub enough : cut p (seat_dies seats) ≤ slots

pub first_fit_is : (p : Netlist) (slots : ℕ) (first : Die) (seats : List Seat) → first_fit p slots first ≡ Ok seats → IsFit p slots first seats
unfolding first_fit
first_fit_is p slots first seats e = by (filled p first (length p.cells) []) refl e
  where
    enough : (all : List Seat) (b : Bool) → nat_lt slots (cut p (seat_dies all)) ≡ b → filled p first (length p.cells) [] ≡ Ok all
        → (if b then Err (NoSlots (cut p (seat_dies all)) slots) else Ok all) ≡ Ok seats → IsFit p slots first seats
    enough all true few is at = absurd (let stopped : ◌≡◌ {A = Result (List Seat) Stop} (Err (NoSlots (cut p (seat_dies all)) slots)) (Ok seats) = at in cc)
    enough all false many is at =
        subst (IsFit p slots first) (same_ok all seats at) (record { fills = is; enough = ltb-false slots (cut p (seat_dies all)) many })

    by : (all : Result (List Seat) Stop) → filled p first (length p.cells) [] ≡ all → with_slots p slots all ≡ Ok seats → IsFit p slots first seats
    by (Err stop) is at = absurd (let stopped : ◌≡◌ {A = Result (List Seat) Stop} (Err stop) (Ok seats) = at in cc)
    by (Ok all) is at = enough all (nat_lt slots (cut p (seat_dies all))) refl is at
