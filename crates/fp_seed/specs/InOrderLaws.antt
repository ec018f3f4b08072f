-- Laws of the cells on a segment: they stand in file order, each from where the one before ends.
use Rattle.std.specs.Prelude.{◌≡◌, ℕ, ◌+◌, ◌<◌, Bool, true, false, ◌&&◌, nat_eq, if◌then◌else◌, List, [], ◌∷◌, ◌++◌, length, map, take, get_or, slice_get, Some, ℤ, pos, ◌+ℤ◌, ◌≤ℤ◌}
use Rattle.std.proofs.Common.{refl, sym, ap, subst, ◌∙◌, arith}
use Rattle.std.proofs.lemmas.List.{append_assoc, length-append, length_push, take_at, get_or_at, get_or-map}
use Rattle.std.proofs.lemmas.Bool.{and_parts, eqb-true, eq-eqb}
use Rattle.std.proofs.lemmas.Option.{get_or_from_slice_get}
use Rattle.std.proofs.lemmas.Int.{ints}
use Rattle.fp_base.specs.declared.ids.CellId.{CellId}
use Rattle.fp_base.specs.declared.ids.Die.{Die}
use Rattle.fp_tech.specs.declared.dies.Segment.{Segment}
use Rattle.fp_tech.specs.Plan.{segments}
use Rattle.fp_tech.specs.PlanLaws.{segment_on}
use Rattle.fp_netlist.specs.Netlist.{Netlist, ids_where}
use Rattle.fp_netlist.specs.Points.{width}
use Rattle.fp_place.specs.Places.{place_at, same_die, nowhere}
use Rattle.fp_place.specs.PlacesLaws.{same_die-true, same_die-refl}
use Rattle.fp_place.specs.Placed.{StandBetween}
use Rattle.fp_score.specs.FirstFit.{Seat, segment_at, seat_place, seat_places, sits_on, sitters, used_from, used}
use Rattle.fp_seed.specs.FeasibleLaws.{IsFeasible, AreFeasible}

-- a cell sits on a segment of a die
pub record SitsOn (die : Die) (segment : ℕ) (seat : Seat) : Type 0 where
  pub die_is : seat.die ≡ die
  pub segment_is : seat.segment ≡ segment

pub sits_on-true : (die : Die) (segment : ℕ) (seat : Seat) → sits_on die segment seat ≡ true → SitsOn die segment seat
sits_on-true die segment seat e =
    let parts = and_parts (same_die seat.die die) (nat_eq seat.segment segment) e in
    record { die_is = same_die-true seat.die die parts.0; segment_is = eqb-true seat.segment segment parts.1 }

pub sits_on-from : (die : Die) (segment : ℕ) (seat : Seat) → SitsOn die segment seat → sits_on die segment seat ≡ true
sits_on-from die segment seat is =
    ap (λ d. same_die d die && nat_eq seat.segment segment) is.die_is ∙ ap (λ (b : Bool). b && nat_eq seat.segment segment) (same_die-refl die)
    ∙ eq-eqb seat.segment segment is.segment_is

-- one more cell adds its width to the used length of its own segment alone
abbrev pub used_by : Netlist → Die → ℕ → ℕ → Seat → ℕ
used_by p die segment cell seat = if sits_on die segment seat then width p cell die else 0

used_from-push : (p : Netlist) (die : Die) (segment cell : ℕ) (seats : List Seat) (seat : Seat) (last : ℕ) → cell + length seats ≡ last
    → used_from p die segment cell (seats ++ seat ∷ []) ≡ used_from p die segment cell seats + used_by p die segment last seat
unfolding used_from
used_from-push p die segment cell [] seat last e =
    let same : cell ≡ last = omega arith in
    omega (arith, ap (λ c. used_by p die segment c seat) same)
used_from-push p die segment cell (first ∷ seats) seat last e =
    omega (arith, used_from-push p die segment (cell + 1) seats seat last (omega arith))

pub used_push : (p : Netlist) (die : Die) (segment : ℕ) (seats : List Seat) (seat : Seat) (last : ℕ) → length seats ≡ last
    → used p die segment (seats ++ seat ∷ []) ≡ used p die segment seats + used_by p die segment last seat
used_push p die segment seats seat last e = used_from-push p die segment 0 seats seat last (omega arith)

-- a cell stands where the length that is used before it ends
x_on : (p : Netlist) (before : List Seat) (cell : ℕ) (seat : Seat) (die : Die) (segment : ℕ) → IsFeasible p before cell seat → SitsOn die segment seat
    → seat.x ≡ (segment_at p.plan die segment).start +ℤ pos (used p die segment before)
x_on p before cell seat die segment is sits =
    is.behind ∙ ap (λ d. (segment_at p.plan d seat.segment).start +ℤ pos (used p d seat.segment before)) sits.die_is
    ∙ ap (λ s. (segment_at p.plan die s).start +ℤ pos (used p die s before)) sits.segment_is

-- a cell ends within its segment
ends_on : (p : Netlist) (before : List Seat) (cell : ℕ) (seat : Seat) (die : Die) (segment : ℕ) → IsFeasible p before cell seat → SitsOn die segment seat
    → pos (used p die segment before + width p cell die) ≤ℤ (segment_at p.plan die segment).length
ends_on p before cell seat die segment is sits =
    subst (λ s. pos (used p die s before + width p cell die) ≤ℤ (segment_at p.plan die s).length) sits.segment_is
    (subst (λ d. pos (used p d seat.segment before + width p cell d) ≤ℤ (segment_at p.plan d seat.segment).length) sits.die_is is.room)

-- cells by their numbers
abbrev cells_of : List ℕ → List CellId
cells_of cells = map (λ cell. record { 0 = cell }) cells

-- the seats are a front of so many and the rest
record AreSplit (before rest all : List Seat) (i : ℕ) : Type 0 where
  many : length before ≡ i
  joined : before ++ rest ≡ all

next_split : (before rest all : List Seat) (seat : Seat) (i : ℕ) → AreSplit before (seat ∷ rest) all i → AreSplit (before ++ seat ∷ []) rest all (i + 1)
next_split before rest all seat i is = record {
  many = omega (arith, length_push before seat, is.many);
  joined = append_assoc before (seat ∷ []) rest ∙ is.joined;
}

split_feasible : (p : Netlist) (before rest all : List Seat) (seat : Seat) (i : ℕ) → AreSplit before (seat ∷ rest) all i → AreFeasible p all → IsFeasible p before i seat
split_feasible p before rest all seat i is are =
    let at : get_or all i seat ≡ seat = ap (λ s. get_or s i seat) (sym is.joined) ∙ get_or_at before seat rest seat i is.many in
    let front : take i all ≡ before = ap (take i) (sym is.joined) ∙ take_at before (seat ∷ rest) i is.many in
    let within : i < length all = omega (arith, is.many, ap length is.joined, length-append before (seat ∷ rest)) in
    subst (IsFeasible p before i) at (subst (λ b. IsFeasible p b i (get_or all i seat)) front (are i seat within))

split_place : (p : Netlist) (before rest all : List Seat) (seat : Seat) (i : ℕ) → AreSplit before (seat ∷ rest) all i → place_at (seat_places p.plan all) i ≡ seat_place p.plan seat
split_place p before rest all seat i is =
    let at : get_or all i seat ≡ seat = ap (λ s. get_or s i seat) (sym is.joined) ∙ get_or_at before seat rest seat i is.many in
    let within : i < length all = omega (arith, is.many, ap length is.joined, length-append before (seat ∷ rest)) in
    get_or-map (seat_place p.plan) all i seat nowhere within ∙ ap (seat_place p.plan) at

in_order_from : (p : Netlist) (die : Die) (number : ℕ) (all : List Seat) → AreFeasible p all → (rest before : List Seat) (i : ℕ) (from to : ℤ) → AreSplit before rest all i
    → to ≡ (segment_at p.plan die number).start +ℤ (segment_at p.plan die number).length → from ≤ℤ to
    → from ≤ℤ ((segment_at p.plan die number).start +ℤ pos (used p die number before))
    → StandBetween p die (seat_places p.plan all) from to (cells_of (ids_where (sits_on die number) i rest))
unfolding ids_where
in_order_from p die number all are [] before i from to split to_is some free = some
in_order_from p die number all are (seat ∷ rest) before i from to split to_is some free =
    by (sits_on die number seat) refl
    (in_order_from p die number all are rest (before ++ seat ∷ []) (i + 1) (seat.x +ℤ pos (width p i die)) to next to_is)
    (in_order_from p die number all are rest (before ++ seat ∷ []) (i + 1) from to next to_is some)
  where
    next : AreSplit (before ++ seat ∷ []) rest all (i + 1)
    next = next_split before rest all seat i split

    start : ℤ
    start = (segment_at p.plan die number).start

    more : used p die number (before ++ seat ∷ []) ≡ used p die number before + used_by p die number i seat
    more = used_push p die number before seat i split.many

    is : IsFeasible p before i seat
    is = split_feasible p before rest all seat i split are

    place : place_at (seat_places p.plan all) i ≡ seat_place p.plan seat
    place = split_place p before rest all seat i split

    by : (b : Bool) → sits_on die number seat ≡ b
        → ((seat.x +ℤ pos (width p i die)) ≤ℤ to → (seat.x +ℤ pos (width p i die)) ≤ℤ ((segment_at p.plan die number).start +ℤ pos (used p die number (before ++ seat ∷ [])))
        → StandBetween p die (seat_places p.plan all) (seat.x +ℤ pos (width p i die)) to (cells_of (ids_where (sits_on die number) (i + 1) rest)))
        → (from ≤ℤ ((segment_at p.plan die number).start +ℤ pos (used p die number (before ++ seat ∷ []))) → StandBetween p die (seat_places p.plan all) from to (cells_of (ids_where (sits_on die number) (i + 1) rest)))
        → StandBetween p die (seat_places p.plan all) from to (cells_of (if b then i ∷ ids_where (sits_on die number) (i + 1) rest else ids_where (sits_on die number) (i + 1) rest))
    by true sits taken skipped =
        let sitting = sits_on-true die number seat sits in
        let x_is = x_on p before i seat die number is sitting in
        let ends = ends_on p before i seat die number is sitting in
        let counted : used_by p die number i seat ≡ width p i die = ap (λ (b : Bool). if b then width p i die else 0) sits in
        let place_x : (place_at (seat_places p.plan all) i).x ≡ seat.x = ap (λ q. q.x) place in (
          omega (arith, ints, free, x_is, place_x),
          subst (λ x. StandBetween p die (seat_places p.plan all) (x +ℤ pos (width p i die)) to (cells_of (ids_where (sits_on die number) (i + 1) rest))) (sym place_x)
              (taken (omega (arith, ints, x_is, ends, to_is)) (omega (arith, ints, x_is, more, counted))),
        )
    by false sits taken skipped =
        let counted : used_by p die number i seat ≡ 0 = ap (λ (b : Bool). if b then width p i die else 0) sits in
        skipped (omega (arith, ints, free, more, counted))

-- cells that sit on a segment stand in order on it
pub seats_in_order : (p : Netlist) (seats : List Seat) → AreFeasible p seats → (die : Die) (number : ℕ) (segment : Segment) → slice_get (segments p.plan die) number ≡ Some segment
    → StandBetween p die (seat_places p.plan seats) segment.start (segment.start +ℤ segment.length) (sitters die number seats)
unfolding sitters used_from
seats_in_order p seats are die number segment there =
    let is : segment_at p.plan die number ≡ segment = get_or_from_slice_get (segments p.plan die) number segment _ there in
    let piece = segment_on p.plan die number segment there in
    let some : pos 1 ≤ℤ segment.length = piece.1.some in
    in_order_from p die number seats are seats [] 0 segment.start (segment.start +ℤ segment.length) (record { many = refl; joined = refl })
    (ap (λ s. s.start +ℤ s.length) (sym is)) (omega (arith, ints, some)) (omega (arith, ints, ap (λ s. s.start) is))
