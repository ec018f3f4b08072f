-- A first fit stops at a cell of the problem, or for want of slots.
use Rattle.std.specs.Prelude.{◌≡◌, ℕ, ◌+◌, nat_lt, List, [], ◌∷◌, ◌++◌, length, Option, Some, None, Result, Ok, Err, if◌then◌else◌}
use Rattle.std.proofs.Common.{zero, suc, Bool, true, false, subst, refl, arith}
use Rattle.std.proofs.lemmas.List.{length-append}
use Rattle.fp_base.specs.declared.ids.CellId.{CellId}
use Rattle.fp_base.specs.declared.ids.Die.{Die}
use Rattle.fp_netlist.specs.Netlist.{Netlist}
use Rattle.fp_place.specs.Cut.{cut}
use Rattle.fp_score.specs.declared.stop.Stop.{Stop}
use Rattle.fp_score.specs.declared.stop.Stop.TheVariants.{NoRoom, NoSlots}
use Rattle.fp_score.specs.FirstFit.{Seat, seat_dies, seat_or, next_seat, filled, with_slots, first_fit, IsStopOf}

abbrev stops : Stop → Result (List Seat) Stop
stops stop = Err stop

abbrev stands : List Seat → Result (List Seat) Stop
stands seats = Ok seats

same_stop : (a b : Stop) → stops a ≡ stops b → a ≡ b
same_stop a b e = cc

filled_stop : (p : Netlist) (first : Die) (n : ℕ) (seats : List Seat) (stop : Stop) → filled p first n seats ≡ Err stop → length seats + n ≡ length p.cells → IsStopOf p stop
unfolding filled
filled_stop p first zero seats stop e count = absurd (let no : stands seats ≡ stops stop = e in cc)
filled_stop p first (suc n) seats stop e count = by (next_seat p first seats) e (λ seat rest. filled_stop p first n (seats ++ seat ∷ []) stop rest (omega (arith, length-append seats (seat ∷ []), count)))
  where
    at : (cell : CellId) → cell.0 ≡ length seats → (stop : Stop) → stops (NoRoom cell) ≡ stops stop → IsStopOf p stop
    at cell is (NoRoom other) e = let same : cell ≡ other = cc in let number : cell.0 ≡ other.0 = cc in omega (arith, number, is, count)
    at cell is (NoSlots cut slots) e = tt

    by : (o : Option Seat) → seat_or (NoRoom (record { 0 = length seats })) o (λ seat. filled p first n (seats ++ seat ∷ [])) ≡ Err stop
        → ((seat : Seat) → filled p first n (seats ++ seat ∷ []) ≡ Err stop → IsStopOf p stop) → IsStopOf p stop
    by None e rest = at (record { 0 = length seats }) refl stop e
    by (Some seat) e rest = rest seat e

pub stop_within : (p : Netlist) (slots : ℕ) (first : Die) (stop : Stop) → first_fit p slots first ≡ Err stop → IsStopOf p stop
unfolding first_fit
stop_within p slots first stop e = by (filled p first (length p.cells) []) e (λ rest. filled_stop p first (length p.cells) [] stop rest (omega arith))
  where
    slotted : (b : Bool) (seats : List Seat) (count : ℕ) → (if b then stops (NoSlots count slots) else stands seats) ≡ stops stop → IsStopOf p stop
    slotted true seats count e = short (NoSlots count slots) stop tt (same_stop (NoSlots count slots) stop e)
      where
        short : (a b : Stop) → IsStopOf p a → a ≡ b → IsStopOf p b
        short a b is e = subst (IsStopOf p) e is
    slotted false seats count e = absurd (let no : stands seats ≡ stops stop = e in cc)

    by : (o : Result (List Seat) Stop) → with_slots p slots o ≡ Err stop → (o ≡ Err stop → IsStopOf p stop) → IsStopOf p stop
    by (Err other) e rest = rest e
    by (Ok seats) e rest = slotted (nat_lt slots (cut p (seat_dies seats))) seats (cut p (seat_dies seats)) e
