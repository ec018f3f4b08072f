-- Lemmas of the seats as cells get them one after the other, with the areas and the segments of both dies.
use Rattle.std.specs.Prelude.{◌≡◌, ℕ, zero, suc, ◌+◌, ◌<◌, Bool, true, false, ◌&&◌, nat_eq, int_le, if◌then◌else◌, List, [], ◌∷◌, ◌++◌, length, map, get_or, set, Some, None, Result, Ok, Err, IfOk, ℤ, pos, ◌+ℤ◌, ◌⊎◌}
use Rattle.std.proofs.Common.{refl, sym, ap, subst, ◌∙◌, arith, inl, inr}
use Rattle.std.proofs.lemmas.List.{append-nil, map_push, length-map, get_or-set_same, get_or-set_other}
use Rattle.std.proofs.lemmas.Bool.{and_parts, cases_eq, ne_eqb, eq-eqb, and_left}
use Rattle.fp_base.specs.declared.ids.Die.{Die}
use Rattle.fp_base.specs.declared.ids.Die.TheVariants.{Top, Bottom}
use Rattle.fp_base.specs.declared.ids.CellId.{CellId}
use Rattle.fp_tech.specs.Plan.{segments}
use Rattle.fp_netlist.specs.Netlist.{Netlist, ids_where}
use Rattle.fp_netlist.specs.Points.{width, area}
use Rattle.fp_place.specs.Places.{same_die, other_die}
use Rattle.fp_place.specs.PlacesLaws.{same_die-refl}
use Rattle.fp_place.specs.Areas.{fits, keeps, area_from, area_on}
use Rattle.fp_place.specs.Held.{Held, held_on, has_room, with_area}
use Rattle.fp_place.specs.Placed.{LaneList}
use Rattle.fp_score.specs.FirstFit.{Seat, segment_at, seat_dies, sits_on, sitters, has_length, first_from, takes, first_room, seat_on, seat_of, next_seat, seat_or, filled}
use Rattle.fp_score.specs.FirstFit as fit
use Rattle.fp_score.specs.declared.stop.Stop.TheVariants.{NoRoom}
use Rattle.fp_seed.specs.declared.seating.Seating.{Seating}
use Rattle.fp_seed.specs.Seats.{IsSeating, IsTaken}
use Rattle.fp_seed.specs.FilledSegments.{holds, room_in, IsReady, HoldsSeats}
use Rattle.fp_seed.proofs.FilledSegmentLemmas.{longer}
use Rattle.fp_seed.specs.FeasibleLaws.{first_room_some}
use Rattle.fp_seed.specs.InOrderLaws.{used_push}
use Rattle.fp_seed.specs.RulesLaws.{area_push}

-- tests that agree find the same
first_alike : (f g : ℕ → Bool) (n i : ℕ) → ((s : ℕ) → s < i + n → f s ≡ g s) → first_from f i n ≡ first_from g i n
unfolding first_from
first_alike f g zero i same = refl
first_alike f g (suc n) i same =
    ap (λ b. if b then Some i else first_from f (i + 1) n) (same i (omega arith))
    ∙ ap (λ o. if g i then Some i else o) (first_alike f g n (i + 1) (λ s below. same s (omega arith)))

-- what is kept of a segment says whether it has room
pub holds_length : (p : Netlist) (die : Die) (seats : List Seat) (used : List ℤ) (lanes : LaneList) (cell s : ℕ) → HoldsSeats p die seats used lanes
    → s < length (segments p.plan die) → holds p die used cell s ≡ has_length p seats cell die s
unfolding holds has_length
holds_length p die seats used lanes cell s are below = ap (λ u. int_le (u +ℤ pos (width p cell die)) (segment_at p.plan die s).length) (are.used_at s below)

pub room_first : (p : Netlist) (die : Die) (seats : List Seat) (held : Held) (used : List ℤ) (lanes : LaneList) (cell : ℕ) → HoldsSeats p die seats used lanes
    → held_on held die ≡ area_on p die (seat_dies seats) → room_in p held used cell die ≡ first_room p seats cell die
unfolding room_in first_room
room_first p die seats held used lanes cell are area_is =
    ap (λ a. if fits p cell die && keeps p.plan die (a + area p cell die) then first_from (holds p die used cell) 0 (length (segments p.plan die)) else None) area_is
    ∙ ap (λ o. if takes p seats cell die then o else None)
    (first_alike (holds p die used cell) (has_length p seats cell die) (length (segments p.plan die)) 0 (λ s below. holds_length p die seats used lanes cell s are (omega arith)))

-- one more element adds its place to the list of those that pass, where it passes
ids_where-push : {A : Type 0} (test : A → Bool) (i : ℕ) (xs : List A) (x : A) (last : ℕ) → i + length xs ≡ last
    → ids_where test i (xs ++ x ∷ []) ≡ ids_where test i xs ++ (if test x then last ∷ [] else [])
unfolding ids_where
ids_where-push test i [] x last e = ap (λ n. if test x then n ∷ [] else []) (let same : i ≡ last = omega arith in same)
ids_where-push test i (y ∷ ys) x last e = by (test y) (ids_where-push test (i + 1) ys x last (omega arith))
  where
    by : (b : Bool) → ids_where test (i + 1) (ys ++ x ∷ []) ≡ ids_where test (i + 1) ys ++ (if test x then last ∷ [] else [])
        → (if b then i ∷ ids_where test (i + 1) (ys ++ x ∷ []) else ids_where test (i + 1) (ys ++ x ∷ []))
        ≡ (if b then i ∷ ids_where test (i + 1) ys else ids_where test (i + 1) ys) ++ (if test x then last ∷ [] else [])
    by true rest = ap (λ more. i ∷ more) rest
    by false rest = rest

abbrev cell_of : ℕ → CellId
cell_of cell = record { 0 = cell }

sitters_here : (die : Die) (s : ℕ) (seats : List Seat) (seat : Seat) (cell : CellId) → length seats ≡ cell.0 → sits_on die s seat ≡ true
    → sitters die s (seats ++ seat ∷ []) ≡ sitters die s seats ++ cell ∷ []
unfolding sitters
sitters_here die s seats seat cell last sits =
    ap (map cell_of) (ids_where-push (sits_on die s) 0 seats seat cell.0 (omega arith) ∙ ap (λ b. ids_where (sits_on die s) 0 seats ++ (if b then cell.0 ∷ [] else [])) sits)
    ∙ map_push cell_of (ids_where (sits_on die s) 0 seats) cell.0

sitters_apart : (die : Die) (s : ℕ) (seats : List Seat) (seat : Seat) → sits_on die s seat ≡ false
    → sitters die s (seats ++ seat ∷ []) ≡ sitters die s seats
unfolding sitters
sitters_apart die s seats seat sits =
    ap (map cell_of) (ids_where-push (sits_on die s) 0 seats seat (length seats) (omega arith) ∙ ap (λ b. ids_where (sits_on die s) 0 seats ++ (if b then length seats ∷ [] else [])) sits
    ∙ append-nil (ids_where (sits_on die s) 0 seats))

used_here : (p : Netlist) (die : Die) (s : ℕ) (seats : List Seat) (seat : Seat) (cell : ℕ) → length seats ≡ cell → sits_on die s seat ≡ true
    → fit.used p die s (seats ++ seat ∷ []) ≡ fit.used p die s seats + width p cell die
used_here p die s seats seat cell last sits =
    used_push p die s seats seat cell last ∙ ap (λ b. fit.used p die s seats + (if b then width p cell die else 0)) sits

used_apart : (p : Netlist) (die : Die) (s : ℕ) (seats : List Seat) (seat : Seat) → sits_on die s seat ≡ false
    → fit.used p die s (seats ++ seat ∷ []) ≡ fit.used p die s seats
used_apart p die s seats seat sits =
    let more : fit.used p die s (seats ++ seat ∷ []) ≡ fit.used p die s seats + 0 =
    used_push p die s seats seat (length seats) refl ∙ ap (λ b. fit.used p die s seats + (if b then width p (length seats) die else 0)) sits in
    omega arith

sits_here : (p : Netlist) (die : Die) (seats : List Seat) (segment : ℕ) → sits_on die segment (seat_on p seats die segment) ≡ true
sits_here p die seats segment = ap (λ b. b && nat_eq segment segment) (same_die-refl die) ∙ eq-eqb segment segment refl

sits_elsewhere : (p : Netlist) (die : Die) (seats : List Seat) (segment s : ℕ) → (s ≡ segment → ⊥) → sits_on die s (seat_on p seats die segment) ≡ false
sits_elsewhere p die seats segment s other = ap (λ b. b && nat_eq segment s) (same_die-refl die) ∙ ne_eqb segment s (λ e. other (sym e))

-- one more seat on a segment of this die
pub holds_here : (p : Netlist) (die : Die) (seats : List Seat) (used : List ℤ) (first : List ℕ) (lanes : LaneList) (segment : ℕ) (cell : CellId)
    → IsReady p die used first lanes → HoldsSeats p die seats used lanes → segment < length (segments p.plan die) → length seats ≡ cell.0
    → HoldsSeats p die (seats ++ seat_on p seats die segment ∷ []) (longer p die used cell.0 segment) (set lanes segment (get_or lanes segment [] ++ cell ∷ []))
holds_here p die seats used first lanes segment cell is are within last = record {
  used_at = λ s below. length_at s below (cases_eq s segment);
  lane_at = λ s below. lane_at s below (cases_eq s segment);
}
  where
    length_at : (s : ℕ) → s < length (segments p.plan die) → (s ≡ segment) ⊎ (s ≡ segment → ⊥)
        → get_or (longer p die used cell.0 segment) s (pos 0) ≡ pos (fit.used p die s (seats ++ seat_on p seats die segment ∷ []))
    length_at s below (inl same) =
        subst (λ j. get_or (longer p die used cell.0 segment) j (pos 0) ≡ pos (fit.used p die j (seats ++ seat_on p seats die segment ∷ []))) (sym same)
        (get_or-set_same used segment (get_or used segment (pos 0) +ℤ pos (width p cell.0 die)) (pos 0) (omega (arith, is.many))
        ∙ ap (λ u. u +ℤ pos (width p cell.0 die)) (are.used_at segment within)
        ∙ ap pos (sym (used_here p die segment seats (seat_on p seats die segment) cell.0 last (sits_here p die seats segment))))
    length_at s below (inr other) =
        get_or-set_other used segment s (get_or used segment (pos 0) +ℤ pos (width p cell.0 die)) (pos 0) other ∙ are.used_at s below
        ∙ ap pos (sym (used_apart p die s seats (seat_on p seats die segment) (sits_elsewhere p die seats segment s other)))

    lane_at : (s : ℕ) → s < length (segments p.plan die) → (s ≡ segment) ⊎ (s ≡ segment → ⊥)
        → get_or (set lanes segment (get_or lanes segment [] ++ cell ∷ [])) s [] ≡ sitters die s (seats ++ seat_on p seats die segment ∷ [])
    lane_at s below (inl same) =
        subst (λ j. get_or (set lanes segment (get_or lanes segment [] ++ cell ∷ [])) j [] ≡ sitters die j (seats ++ seat_on p seats die segment ∷ [])) (sym same)
        (get_or-set_same lanes segment (get_or lanes segment [] ++ cell ∷ []) [] (omega (arith, is.as_many))
        ∙ ap (λ lane. lane ++ cell ∷ []) (are.lane_at segment within)
        ∙ sym (sitters_here die segment seats (seat_on p seats die segment) cell last (sits_here p die seats segment)))
    lane_at s below (inr other) =
        get_or-set_other lanes segment s (get_or lanes segment [] ++ cell ∷ []) [] other ∙ are.lane_at s below
        ∙ sym (sitters_apart die s seats (seat_on p seats die segment) (sits_elsewhere p die seats segment s other))

-- one more seat on the other die
pub holds_apart : (p : Netlist) (die : Die) (seats : List Seat) (used : List ℤ) (lanes : LaneList) (seat : Seat)
    → HoldsSeats p die seats used lanes → same_die seat.die die ≡ false → HoldsSeats p die (seats ++ seat ∷ []) used lanes
holds_apart p die seats used lanes seat are other = record {
  used_at = λ s below. are.used_at s below ∙ ap pos (sym (used_apart p die s seats seat (and_left (same_die seat.die die) (nat_eq seat.segment s) other)));
  lane_at = λ s below. are.lane_at s below ∙ sym (sitters_apart die s seats seat (and_left (same_die seat.die die) (nat_eq seat.segment s) other));
}

-- the area that a die's cells take grows by that of a cell that is put on it
pub area_here : (p : Netlist) (die : Die) (seats : List Seat) (seat : Seat) (cell : ℕ) → length seats ≡ cell → same_die seat.die die ≡ true
    → area_on p die (seat_dies (seats ++ seat ∷ [])) ≡ area_on p die (seat_dies seats) + area p cell die
area_here p die seats seat cell last same =
    ap (area_on p die) (map_push (λ (s : Seat). s.die) seats seat)
    ∙ area_push p die (seat_dies seats) seat.die cell (length-map seats (λ (s : Seat). s.die) ∙ last)
    ∙ ap (λ b. area_on p die (seat_dies seats) + (if b then area p cell die else 0)) same

pub area_apart : (p : Netlist) (die : Die) (seats : List Seat) (seat : Seat) → same_die seat.die die ≡ false
    → area_on p die (seat_dies (seats ++ seat ∷ [])) ≡ area_on p die (seat_dies seats)
area_apart p die seats seat other =
    let more : area_on p die (seat_dies (seats ++ seat ∷ [])) ≡ area_on p die (seat_dies seats) + 0 =
    ap (area_on p die) (map_push (λ (s : Seat). s.die) seats seat)
    ∙ area_push p die (seat_dies seats) seat.die (length seats) (length-map seats (λ (s : Seat). s.die))
    ∙ ap (λ b. area_on p die (seat_dies seats) + (if b then area p (length seats) die else 0)) other in
    omega arith

-- four facts of the value in a result give a fifth
pub all_of_ok : {X E : Type 0} (r : Result X E) (P Q R S T : X → Type 0) → IfOk r P → IfOk r Q → IfOk r R → IfOk r S
    → ((x : X) → P x → Q x → R x → S x → T x) → IfOk r T
all_of_ok (Ok x) P Q R S T p q r s f = f x p q r s
all_of_ok (Err e) P Q R S T p q r s f = tt

-- a segment that was found has room
pub record IsHeld (p : Netlist) (die : Die) (used : List ℤ) (cell segment : ℕ) : Type 0 where
  pub within : segment < length (segments p.plan die)
  pub held : holds p die used cell segment ≡ true

pub found_holds : (p : Netlist) (die on : Die) (seats : List Seat) (used : List ℤ) (lanes : LaneList) (cell segment : ℕ) → HoldsSeats p die seats used lanes
    → on ≡ die → first_room p seats cell on ≡ Some segment → IsHeld p die used cell segment
found_holds p die on seats used lanes cell segment are same found =
    let room = first_room_some p seats cell die segment (ap (first_room p seats cell) (sym same) ∙ found) in
    record { within = room.within; held = holds_length p die seats used lanes cell segment are room.within ∙ room.long }

-- the die on which the cell was put: the cell's x, and the seats with it
pub record TookCell (p : Netlist) (die on : Die) (seats : List Seat) (segment : ℕ) (x : ℤ) (used : List ℤ) (lanes : LaneList) : Type 0 where
  pub x_is : x ≡ (seat_on p seats on segment).x
  pub holds_more : HoldsSeats p die (seats ++ seat_on p seats on segment ∷ []) used lanes

pub took : (p : Netlist) (die on : Die) (seats : List Seat) (used more : List ℤ) (first : List ℕ) (lanes filled_lanes : LaneList) (segment : ℕ) (cell : CellId) (x : ℤ)
    → IsReady p die used first lanes → HoldsSeats p die seats used lanes → segment < length (segments p.plan die) → cell.0 ≡ length seats → on ≡ die
    → x ≡ (segment_at p.plan die segment).start +ℤ get_or used segment (pos 0) → more ≡ longer p die used cell.0 segment
    → filled_lanes ≡ set lanes segment (get_or lanes segment [] ++ cell ∷ []) → TookCell p die on seats segment x more filled_lanes
took p die on seats used more first lanes filled_lanes segment cell x is are within last same is_x is_more is_lanes =
    subst (λ d. TookCell p die d seats segment x more filled_lanes) (sym same)
    (record {
      x_is = is_x ∙ ap (λ u. (segment_at p.plan die segment).start +ℤ u) (are.used_at segment within);
      holds_more = subst (λ u. HoldsSeats p die (seats ++ seat_on p seats die segment ∷ []) u filled_lanes) (sym is_more)
          (subst (HoldsSeats p die (seats ++ seat_on p seats die segment ∷ []) (longer p die used cell.0 segment)) (sym is_lanes)
          (holds_here p die seats used first lanes segment cell is are within (sym last)));
    })

pub left_alone : (p : Netlist) (die other on : Die) (seats : List Seat) (used : List ℤ) (lanes : LaneList) (segment : ℕ)
    → HoldsSeats p other seats used lanes → on ≡ die → same_die die other ≡ false → HoldsSeats p other (seats ++ seat_on p seats on segment ∷ []) used lanes
left_alone p die other on seats used lanes segment are same apart =
    holds_apart p other seats used lanes (seat_on p seats on segment) are (ap (λ d. same_die d other) same ∙ apart)

-- the areas are those of the seats
pub held_is : (p : Netlist) (s : Seating) (die : Die) → IsSeating p s → held_on s.caps die ≡ area_on p die (seat_dies s.seats.items)
held_is p s Top is = is.top_area
held_is p s Bottom is = is.bottom_area

pub has_room_is : (p : Netlist) (s : Seating) (held : Held) (die : Die) (cell segment : ℕ) → IsSeating p s → first_room p s.seats.items cell die ≡ Some segment → held ≡ s.caps
    → has_room p held cell die ≡ true
has_room_is p s held die cell segment is found same =
    let room = first_room_some p s.seats.items cell die segment found in
    let parts = and_parts (fits p cell die) (keeps p.plan die (area_on p die (seat_dies s.seats.items) + area p cell die)) room.takes_it in
    ap (λ h. has_room p h cell die) same ∙ ap (λ a. keeps p.plan die (a + area p cell die)) (held_is p s die is) ∙ parts.1

pub no_area : (p : Netlist) (die : Die) → area_on p die [] ≡ 0
unfolding area_from
no_area p die = refl

-- the areas and the segments are those of the seats once the next cell has its seat
pub seated : (p : Netlist) (before mid now : Seating) (die : Die) (segment cell : ℕ) (x : ℤ) → IsSeating p before → IsTaken p before die segment x mid → cell ≡ length before.seats.items
    → now.caps ≡ with_area mid.caps die (area p cell die) → now.seats.items ≡ before.seats.items ++ seat_on p before.seats.items die segment ∷ []
    → now.top ≡ mid.top → now.bottom ≡ mid.bottom → IsSeating p now
seated p before mid now die segment cell x is taken last caps_are seats_are top_is bottom_is = record {
  top_area = ap (λ held. held.top) caps_are ∙ top_is_area die caps_now ∙ ap (λ seats. area_on p Top (seat_dies seats)) (sym seats_are);
  bottom_area = ap (λ held. held.bottom) caps_are ∙ bottom_is_area die caps_now ∙ ap (λ seats. area_on p Bottom (seat_dies seats)) (sym seats_are);
  top_ready = subst (λ t. IsReady p Top t.used.items t.first.items t.lanes) (sym top_is) taken.top_ready;
  bottom_ready = subst (λ t. IsReady p Bottom t.used.items t.first.items t.lanes) (sym bottom_is) taken.bottom_ready;
  top_holds = subst (λ t. HoldsSeats p Top now.seats.items t.used.items t.lanes) (sym top_is)
      (subst (λ seats. HoldsSeats p Top seats mid.top.used.items mid.top.lanes) (sym seats_are) taken.top_holds);
  bottom_holds = subst (λ t. HoldsSeats p Bottom now.seats.items t.used.items t.lanes) (sym bottom_is)
      (subst (λ seats. HoldsSeats p Bottom seats mid.bottom.used.items mid.bottom.lanes) (sym seats_are) taken.bottom_holds);
}
  where
    caps_now : mid.caps ≡ before.caps
    caps_now = taken.caps_are

    top_is_area : (on : Die) → mid.caps ≡ before.caps
        → (with_area mid.caps on (area p cell on)).top ≡ area_on p Top (seat_dies (before.seats.items ++ seat_on p before.seats.items on segment ∷ []))
    top_is_area Top same =
        ap (λ held. held.top + area p cell Top) same ∙ ap (λ a. a + area p cell Top) is.top_area
        ∙ sym (area_here p Top before.seats.items (seat_on p before.seats.items Top segment) cell (sym last) refl)
    top_is_area Bottom same =
        ap (λ held. held.top) same ∙ is.top_area ∙ sym (area_apart p Top before.seats.items (seat_on p before.seats.items Bottom segment) refl)

    bottom_is_area : (on : Die) → mid.caps ≡ before.caps
        → (with_area mid.caps on (area p cell on)).bottom ≡ area_on p Bottom (seat_dies (before.seats.items ++ seat_on p before.seats.items on segment ∷ []))
    bottom_is_area Bottom same =
        ap (λ held. held.bottom + area p cell Bottom) same ∙ ap (λ a. a + area p cell Bottom) is.bottom_area
        ∙ sym (area_here p Bottom before.seats.items (seat_on p before.seats.items Bottom segment) cell (sym last) refl)
    bottom_is_area Top same =
        ap (λ held. held.bottom) same ∙ is.bottom_area ∙ sym (area_apart p Bottom before.seats.items (seat_on p before.seats.items Top segment) refl)

-- the next seat is on the first die where a segment has room, else on the other die
pub next_on_first : (p : Netlist) (first : Die) (seats : List Seat) (cell segment : ℕ) → cell ≡ length seats → first_room p seats cell first ≡ Some segment
    → next_seat p first seats ≡ Some (seat_on p seats first segment)
unfolding next_seat
next_on_first p first seats cell segment last found =
    ap (λ here. seat_of p seats first here (first_room p seats (length seats) (other_die first))) (ap (λ c. first_room p seats c first) (sym last) ∙ found)

pub next_on_second : (p : Netlist) (first : Die) (seats : List Seat) (cell segment : ℕ) → cell ≡ length seats → first_room p seats cell first ≡ None
    → first_room p seats cell (other_die first) ≡ Some segment → next_seat p first seats ≡ Some (seat_on p seats (other_die first) segment)
unfolding next_seat
next_on_second p first seats cell segment last nothing found =
    ap (λ here. seat_of p seats first here (first_room p seats (length seats) (other_die first))) (ap (λ c. first_room p seats c first) (sym last) ∙ nothing)
    ∙ ap (λ there. seat_of p seats first None there) (ap (λ c. first_room p seats c (other_die first)) (sym last) ∙ found)

pub next_nowhere : (p : Netlist) (first : Die) (seats : List Seat) (cell : ℕ) → cell ≡ length seats → first_room p seats cell first ≡ None
    → first_room p seats cell (other_die first) ≡ None → next_seat p first seats ≡ None
unfolding next_seat
next_nowhere p first seats cell last nothing none_there =
    ap (λ here. seat_of p seats first here (first_room p seats (length seats) (other_die first))) (ap (λ c. first_room p seats c first) (sym last) ∙ nothing)
    ∙ ap (λ there. seat_of p seats first None there) (ap (λ c. first_room p seats c (other_die first)) (sym last) ∙ none_there)

-- the first fit goes on behind the next cell's seat, and stops where it has none
pub filled_next : (p : Netlist) (first : Die) (n m : ℕ) (seats : List Seat) (seat : Seat) → n ≡ suc m → next_seat p first seats ≡ Some seat
    → filled p first n seats ≡ filled p first m (seats ++ seat ∷ [])
unfolding filled
filled_next p first n m seats seat more next =
    ap (λ k. filled p first k seats) more
    ∙ ap (λ o. seat_or (NoRoom (record { 0 = length seats })) o (λ s. filled p first m (seats ++ s ∷ []))) next

pub filled_stuck : (p : Netlist) (first : Die) (n m : ℕ) (seats : List Seat) → n ≡ suc m → next_seat p first seats ≡ None
    → filled p first n seats ≡ Err (NoRoom (record { 0 = length seats }))
unfolding filled
filled_stuck p first n m seats more next =
    ap (λ k. filled p first k seats) more
    ∙ ap (λ o. seat_or (NoRoom (record { 0 = length seats })) o (λ s. filled p first m (seats ++ s ∷ []))) next

pub filled_whole : (p : Netlist) (first : Die) (n : ℕ) (seats : List Seat) → n ≡ 0 → filled p first n seats ≡ Ok seats
unfolding filled
filled_whole p first n seats none_left = ap (λ k. filled p first k seats) none_left
