-- Laws of the lanes that seats make: each cell stands once on them, and in order.
use Rattle.std.specs.Prelude.{◌≡◌, ℕ, ◌+◌, ◌<◌, List, [], length, map, take, get_or, All, Contains, Some, option_map, slice_get, ◌+ℤ◌, ◌⊎◌}
use Rattle.std.proofs.Common.{refl, sym, ap, subst, ◌∙◌, arith, inl, inr}
use Rattle.std.proofs.lemmas.List.{length-map}
use Rattle.std.proofs.lemmas.Bool.{cases_order}
use Rattle.std.proofs.lemmas.Int.{ints}
use Rattle.std.proofs.lemmas.Option.{same_Some, slice_get-map, slice_get-get_or, slice_get_within, get_or_from_slice_get}
use Rattle.fp_base.specs.declared.ids.CellId.{CellId}
use Rattle.fp_base.specs.declared.ids.Die.{Die}
use Rattle.fp_tech.specs.Plan.{segments, IsPlan}
use Rattle.fp_netlist.specs.Netlist.{Netlist, ids_where}
use Rattle.fp_netlist.specs.NetlistLaws.{places, place_counted, places_rise}
use Rattle.fp_place.specs.Placed.{LaneList, Placed, StandOnce, StandBetween, IsInOrder, lanes_on, lanes_of, places_of, entry_at}
use Rattle.fp_place.specs.PlacedLaws.{entry_of, entry_on, entry_within, place_in_range}
use Rattle.fp_score.specs.FirstFit.{Seat, segment_at, sits_on, sitters, seat_places}
use Rattle.fp_seed.specs.Fits.{IsOnDie}
use Rattle.fp_seed.specs.FeasibleLaws.{no_seat, IsFeasible, AreFeasible}
use Rattle.fp_seed.specs.InOrderLaws.{SitsOn, sits_on-true, sits_on-from, seats_in_order}

abbrev cell_of : ℕ → CellId
cell_of cell = record { 0 = cell }

-- the lanes of both dies are those of the seats
pub record AreLanes (p : Netlist) (seats : List Seat) (top bottom : LaneList) : Type 0 where
  pub many : (die : Die) → length (lanes_on top bottom die) ≡ length (segments p.plan die)
  pub lane_at : (die : Die) (segment : ℕ) → segment < length (segments p.plan die) → get_or (lanes_on top bottom die) segment [] ≡ sitters die segment seats

-- an entry of a lane is a cell that sits there
pub record IsSitter (seats : List Seat) (die : Die) (segment rank : ℕ) (cell : CellId) : Type 0 where
  pub seat : Seat
  pub at : slice_get seats cell.0 ≡ Some seat
  pub sits : SitsOn die segment seat
  pub ranked : rank < length (ids_where (sits_on die segment) 0 seats)
  pub cell_is : get_or (ids_where (sits_on die segment) 0 seats) rank 0 ≡ cell.0

sitter_at : (seats : List Seat) (die : Die) (segment rank : ℕ) (cell : CellId) → slice_get (sitters die segment seats) rank ≡ Some cell → IsSitter seats die segment rank cell
unfolding sitters
sitter_at seats die segment rank cell is =
    let ids = ids_where (sits_on die segment) 0 seats in
    let within : rank < length ids = omega (arith, slice_get_within (map cell_of ids) rank cell is, length-map ids cell_of) in
    let same = same_Some (cell_of (get_or ids rank 0)) cell (ap (option_map cell_of) (sym (slice_get-get_or ids rank 0 within)) ∙ sym (slice_get-map cell_of ids rank) ∙ is) in
    let there = places (sits_on die segment) 0 seats rank 0 within in
    let number : there.place ≡ cell.0 = omega (arith, there.counted, ap (λ (c : CellId). c.0) same) in
    record {
      seat = there.element;
      at = ap (slice_get seats) (sym number) ∙ there.at;
      sits = sits_on-true die segment there.element there.passes;
      ranked = within;
      cell_is = ap (λ (c : CellId). c.0) same;
    }

pub sitter : (p : Netlist) (seats : List Seat) (top bottom : LaneList) (die : Die) (segment rank : ℕ) (cell : CellId) → AreLanes p seats top bottom
    → entry_at (lanes_on top bottom die) segment rank ≡ Some cell → IsSitter seats die segment rank cell
sitter p seats top bottom die segment rank cell are is =
    let entry = entry_of (lanes_on top bottom die) segment rank cell is in
    let within : segment < length (segments p.plan die) = omega (arith, entry_within (lanes_on top bottom die) segment rank cell is, are.many die) in
    let lane : entry.lane ≡ sitters die segment seats =
    sym (get_or_from_slice_get (lanes_on top bottom die) segment entry.lane [] entry.there) ∙ are.lane_at die segment within in
    sitter_at seats die segment rank cell (ap (λ lane. slice_get lane rank) (sym lane) ∙ entry.at)

-- a cell sits on one segment of one die, at one rank
same_seat : (seats : List Seat) (a b : Die) (i j r s : ℕ) (cell : CellId) (x : IsSitter seats a i r cell) (y : IsSitter seats b j s cell) → x.seat ≡ y.seat
same_seat seats a b i j r s cell x y = same_Some x.seat y.seat (sym x.at ∙ y.at)

one_rank : (seats : List Seat) (a b : Die) (i j r s : ℕ) (cell : CellId) → IsSitter seats a i r cell → IsSitter seats b j s cell → r ≡ s
one_rank seats a b i j r s cell x y = by (cases_order r s)
  where
    die_is : b ≡ a
    die_is = sym y.sits.die_is ∙ ap (λ (seat : Seat). seat.die) (sym (same_seat seats a b i j r s cell x y)) ∙ x.sits.die_is

    segment_is : j ≡ i
    segment_is = sym y.sits.segment_is ∙ ap (λ (seat : Seat). seat.segment) (sym (same_seat seats a b i j r s cell x y)) ∙ x.sits.segment_is

    there : IsSitter seats a i s cell
    there = subst (λ die. IsSitter seats die i s cell) die_is (subst (λ segment. IsSitter seats b segment s cell) segment_is y)

    by : (r ≡ s) ⊎ ((r < s) ⊎ (s < r)) → r ≡ s
    by (inl same) = same
    by (inr (inl less)) = absurd (omega (arith, places_rise (sits_on a i) 0 seats r s less there.ranked, x.cell_is, there.cell_is))
    by (inr (inr more)) = absurd (omega (arith, places_rise (sits_on a i) 0 seats s r more x.ranked, x.cell_is, there.cell_is))

-- each cell has a rank on the lane of its segment
pub record IsRanked (top bottom : LaneList) (seat : Seat) (cell : ℕ) : Type 0 where
  pub rank : ℕ
  pub entry : entry_at (lanes_on top bottom seat.die) seat.segment rank ≡ Some (record { 0 = cell })

pub ranked : (p : Netlist) (seats : List Seat) (top bottom : LaneList) (cell : ℕ) → AreLanes p seats top bottom → All (IsOnDie p) seats → cell < length seats
    → IsRanked top bottom (get_or seats cell no_seat) cell
unfolding sitters
ranked p seats top bottom cell are on_die below =
    let seat = get_or seats cell no_seat in
    let ids = ids_where (sits_on seat.die seat.segment) 0 seats in
    let on = on_die cell no_seat below in
    let counted : Contains ids (0 + cell) = place_counted (sits_on seat.die seat.segment) 0 seats cell seat (slice_get-get_or seats cell no_seat below)
    (sits_on-from seat.die seat.segment seat (record { die_is = refl; segment_is = refl })) in
    let number : get_or ids counted.0 (0 + cell) ≡ cell = omega (arith, counted.2) in
    let lane : slice_get (lanes_on top bottom seat.die) seat.segment ≡ Some (map cell_of ids) =
    slice_get-get_or (lanes_on top bottom seat.die) seat.segment [] (omega (arith, on.within, are.many seat.die)) ∙ ap Some (are.lane_at seat.die seat.segment on.within) in
    record {
      rank = counted.0;
      entry = entry_on (lanes_on top bottom seat.die) seat.segment counted.0 (map cell_of ids) lane
          ∙ slice_get-map cell_of ids counted.0 ∙ ap (option_map cell_of) (slice_get-get_or ids counted.0 (0 + cell) counted.1 ∙ ap Some number);
    }

pub stand_once : (p : Netlist) (seats : List Seat) (top bottom : LaneList) → AreLanes p seats top bottom → All (IsOnDie p) seats → length seats ≡ length p.cells
    → StandOnce (length p.cells) top bottom
stand_once p seats top bottom are on_die many = record {
  there = λ cell below.
      let at = ranked p seats top bottom cell are on_die (omega (arith, below, many)) in
      ((get_or seats cell no_seat).die, (get_or seats cell no_seat).segment, at.rank, at.entry);
  within = λ die segment rank cell is.
      let at = sitter p seats top bottom die segment rank cell are is in omega (arith, slice_get_within seats cell.0 at.seat at.at, many);
  one_die = λ a b i j r s cell x y.
      let at = sitter p seats top bottom a i r cell are x in let there = sitter p seats top bottom b j s cell are y in
      sym at.sits.die_is ∙ ap (λ (seat : Seat). seat.die) (same_seat seats a b i j r s cell at there) ∙ there.sits.die_is;
  one_segment = λ a b i j r s cell x y.
      let at = sitter p seats top bottom a i r cell are x in let there = sitter p seats top bottom b j s cell are y in
      sym at.sits.segment_is ∙ ap (λ (seat : Seat). seat.segment) (same_seat seats a b i j r s cell at there) ∙ there.sits.segment_is;
  one_rank = λ a b i j r s cell x y.
      one_rank seats a b i j r s cell (sitter p seats top bottom a i r cell are x) (sitter p seats top bottom b j s cell are y);
}

-- feasible seats are on segments of their dies, at an x in range
pub feasible_on_dies : (p : Netlist) (seats : List Seat) → IsPlan p.plan → AreFeasible p seats → All (IsOnDie p) seats
feasible_on_dies p seats plan are k d below =
    let seat = get_or seats k d in
    let is : IsFeasible p (take k seats) k seat = are k d below in
    let x_is = is.behind in
    let room = is.room in
    record {
      within = is.within;
      x = place_in_range p.plan plan seat.die seat.segment (segment_at p.plan seat.die seat.segment)
          (slice_get-get_or (segments p.plan seat.die) seat.segment _ is.within) seat.x (omega (arith, ints, x_is)) (omega (arith, ints, x_is, room));
    }

-- a placement whose cells are at feasible seats, and whose lanes are those of the seats, is in order
pub lanes_in_order : (p : Netlist) (seats : List Seat) (placed : Placed) → AreFeasible p seats → places_of placed ≡ seat_places p.plan seats
    → ((die : Die) (segment : ℕ) → segment < length (segments p.plan die) → get_or (lanes_of placed die) segment [] ≡ sitters die segment seats) → IsInOrder p placed
lanes_in_order p seats placed are places_are lane_at die number segment lane there at =
    let same : lane ≡ sitters die number seats = sym (get_or_from_slice_get (lanes_of placed die) number lane [] at)
    ∙ lane_at die number (slice_get_within (segments p.plan die) number segment there) in
    subst (λ places. StandBetween p die places segment.start (segment.start +ℤ segment.length) lane) (sym places_are)
    (subst (StandBetween p die (seat_places p.plan seats) segment.start (segment.start +ℤ segment.length)) (sym same)
    (seats_in_order p seats are die number segment there))
