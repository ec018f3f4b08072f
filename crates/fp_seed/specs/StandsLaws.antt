-- Laws of the placement that feasible seats make: there is one, and it is legal.
use Rattle.std.specs.Prelude.{◌≡◌, ℕ, zero, suc, ◌<◌, ◌≤◌, List, [], ◌∷◌, ◌++◌, length, map, get_or, All, Some, IfSome, ◌⊎◌}
use Rattle.std.specs.List.{range_with_len}
use Rattle.std.proofs.Common.{refl, sym, ap, subst, ◌∙◌, arith, inl, inr}
use Rattle.std.proofs.lemmas.List.{length_push, length-map, get_or-map, get_or_append_left, get_or_push, same_lists}
use Rattle.std.proofs.lemmas.List.FromFn.{length-map-range_with_len, get_or-map-range_with_len}
use Rattle.std.proofs.lemmas.Bool.{cases_lt}
use Rattle.std.proofs.lemmas.Option.{slice_get-get_or, get_or_from_slice_get}
use Rattle.fp_base.specs.declared.ids.Die.{Die}
use Rattle.fp_base.specs.declared.ids.Die.TheVariants.{Top, Bottom}
use Rattle.fp_tech.specs.Plan.{segments, IsPlan}
use Rattle.fp_tech.specs.Slots.{Slots, IsGrid, slot_count}
use Rattle.fp_netlist.specs.Netlist.{Netlist}
use Rattle.fp_place.specs.declared.placement.Spot.{Spot}
use Rattle.fp_place.specs.Cut.{cut}
use Rattle.fp_place.specs.Drawing.{drawing_of}
use Rattle.fp_place.specs.Legal.{IsLegal}
use Rattle.fp_place.specs.LegalLaws.{in_order_is_legal}
use Rattle.fp_place.specs.OnSlots.{AreOnCuts, AreOnSlots}
use Rattle.fp_place.specs.Places.{dies_of}
use Rattle.fp_place.specs.Placed.{LaneList, Placed, DoAgree, StandOnce, IsCentre, IsSpotOf, IsPlacementOf, lanes_on, no_spot, spot_at, place_of, places_of, drawn_of, entry_at}
use Rattle.fp_place.specs.PlacedLaws.{row_in_range}
use Rattle.fp_place.specs.Settled.{KeepRules}
use Rattle.fp_score.specs.FirstFit.{Seat, segment_at, seat_dies, seat_place, seat_places, sitters, fit_terminals}
use Rattle.fp_seed.specs.Fits.{IsOnDie}
use Rattle.fp_seed.specs.FeasibleLaws.{no_seat, AreFeasible}
use Rattle.fp_seed.specs.LanesLaws.{AreLanes, IsRanked, ranked, stand_once, feasible_on_dies, lanes_in_order}
use Rattle.fp_seed.specs.TerminalsLaws.{length-fit_terminals, fit_on_cuts, fit_on_slots, on_slots_in_range}
use Rattle.fp_seed.specs.RulesLaws.{dies_of_seats, seats_keep_rules}

-- a list has for each number below a bound what there is for it
record IsListOf {A : Type 0} (n : ℕ) (d : A) (P : ℕ → A → Type 0) : Type 0 where
  list : List A
  many : length list ≡ n
  each : (k : ℕ) → k < n → P k (get_or list k d)

list_more : {A : Type 0} (n : ℕ) (d x : A) (P : ℕ → A → Type 0) → IsListOf n d P → P n x → IsListOf (suc n) d P
list_more n d x P front last = record {
  list = front.list ++ x ∷ [];
  many = omega (arith, length_push front.list x, front.many);
  each = λ k below. each k below (cases_lt k n);
}
  where
    each : (k : ℕ) → k < suc n → (k < n) ⊎ (n ≤ k) → P k (get_or (front.list ++ x ∷ []) k d)
    each k below (inl before) = subst (P k) (sym (get_or_append_left front.list (x ∷ []) d k (omega (arith, before, front.many)))) (front.each k before)
    each k below (inr past) =
        let same : n ≡ k = omega arith in
        subst (λ j. P j (get_or (front.list ++ x ∷ []) j d)) same (subst (P n) (sym (get_or_push front.list x d n front.many)) last)

list_of : {A : Type 0} (n : ℕ) (d : A) (P : ℕ → A → Type 0) → ((k : ℕ) → k < n → (x : A) × P k x) → IsListOf n d P
list_of zero d P some = record { list = []; many = refl; each = λ k below. absurd (omega arith) }
list_of (suc n) d P some =
    let last = some n (omega arith) in
    list_more n d last.0 P (list_of n d P (λ k below. some k (omega arith))) last.1

-- the lanes of a die: the cells that sit on each segment
seat_lanes : Netlist → List Seat → Die → LaneList
seat_lanes p seats die = map (λ segment. sitters die segment seats) (range_with_len 0 (length (segments p.plan die)))

seat_lanes_are : (p : Netlist) (seats : List Seat) → AreLanes p seats (seat_lanes p seats Top) (seat_lanes p seats Bottom)
unfolding seat_lanes
seat_lanes_are p seats = record { many = many; lane_at = lane_at }
  where
    many : (die : Die) → length (lanes_on (seat_lanes p seats Top) (seat_lanes p seats Bottom) die) ≡ length (segments p.plan die)
    many Top = length-map-range_with_len (λ segment. sitters Top segment seats) 0 (length (segments p.plan Top))
    many Bottom = length-map-range_with_len (λ segment. sitters Bottom segment seats) 0 (length (segments p.plan Bottom))

    lane_at : (die : Die) (segment : ℕ) → segment < length (segments p.plan die)
        → get_or (lanes_on (seat_lanes p seats Top) (seat_lanes p seats Bottom) die) segment [] ≡ sitters die segment seats
    lane_at Top segment below = get_or-map-range_with_len (λ s. sitters Top s seats) 0 (length (segments p.plan Top)) segment segment [] below (omega arith)
    lane_at Bottom segment below = get_or-map-range_with_len (λ s. sitters Bottom s seats) 0 (length (segments p.plan Bottom)) segment segment [] below (omega arith)

-- a cell's spot is at its seat, and is named by the lanes
record IsSpotFor (p : Netlist) (seats : List Seat) (top bottom : LaneList) (cell : ℕ) (spot : Spot) : Type 0 where
  place_is : place_of spot ≡ seat_place p.plan (get_or seats cell no_seat)
  entry : entry_at (lanes_on top bottom spot.die) spot.segment spot.rank ≡ Some (record { 0 = cell })
  is_spot : IsSpotOf p spot

spot_for : (p : Netlist) (seats : List Seat) (top bottom : LaneList) → IsPlan p.plan → AreLanes p seats top bottom → All (IsOnDie p) seats
    → (cell : ℕ) → cell < length seats → (spot : Spot) × IsSpotFor p seats top bottom cell spot
spot_for p seats top bottom plan are on_dies cell below =
    let seat = get_or seats cell no_seat in
    let on : IsOnDie p seat = on_dies cell no_seat below in
    let at : IsRanked top bottom seat cell = ranked p seats top bottom cell are on_dies below in
    let there = slice_get-get_or (segments p.plan seat.die) seat.segment _ on.within in (
      record { die = seat.die; segment = seat.segment; rank = at.rank; x = seat.x; y = (segment_at p.plan seat.die seat.segment).y },
      record {
        place_is = refl;
        entry = at.entry;
        is_spot = record {
          segment = segment_at p.plan seat.die seat.segment;
          there = there;
          row = refl;
          x = on.x;
          y = row_in_range p.plan plan seat.die seat.segment (segment_at p.plan seat.die seat.segment) there;
        };
      },
    )

-- a placement is that of seats: its spots are at the seats, its lanes are those of the seats, and its terminals are those of the first fit
record IsPlacementFor (p : Netlist) (grid : Slots) (seats : List Seat) (placed : Placed) : Type 0 where
  many : length placed.spots ≡ length seats
  each : (cell : ℕ) → cell < length seats → IsSpotFor p seats placed.top placed.bottom cell (spot_at placed.spots cell)
  lanes : AreLanes p seats placed.top placed.bottom
  terminals_are : placed.terminals ≡ fit_terminals p grid (seat_dies seats)

placement_for : (p : Netlist) (grid : Slots) (seats : List Seat) → IsPlan p.plan → AreFeasible p seats → (placed : Placed) × IsPlacementFor p grid seats placed
placement_for p grid seats plan are =
    let top = seat_lanes p seats Top in
    let bottom = seat_lanes p seats Bottom in
    let spots : IsListOf (length seats) no_spot (IsSpotFor p seats top bottom) =
    list_of (length seats) no_spot (IsSpotFor p seats top bottom) (spot_for p seats top bottom plan (seat_lanes_are p seats) (feasible_on_dies p seats plan are)) in (
      record { spots = spots.list; top = top; bottom = bottom; terminals = fit_terminals p grid (seat_dies seats) },
      record { many = spots.many; each = spots.each; lanes = seat_lanes_are p seats; terminals_are = refl },
    )

module _ (p : Netlist) (grid : Slots) (seats : List Seat) (placed : Placed) (is : IsPlacementFor p grid seats placed) (all : length seats ≡ length p.cells) where
  places_are : places_of placed ≡ seat_places p.plan seats
  places_are =
      same_lists (places_of placed) (seat_places p.plan seats) (length-map placed.spots place_of ∙ is.many ∙ sym (length-map seats (seat_place p.plan)))
      (λ k d below.
      let within : k < length placed.spots = omega (arith, below, length-map placed.spots place_of) in
      get_or-map place_of placed.spots k no_spot d within ∙ (is.each k (omega (arith, within, is.many))).place_is
      ∙ sym (get_or-map (seat_place p.plan) seats k no_seat d (omega (arith, within, is.many))))

  -- its spots and the entries of its lanes name each other
  agrees : StandOnce (length p.cells) placed.top placed.bottom → DoAgree placed
  agrees once = record {
    spot_named = λ cell below. named cell (omega (arith, below, is.many));
    within = λ die segment rank cell at. omega (arith, once.within die segment rank cell at, all, is.many);
    entry_named = λ die segment rank cell at.
        let spot = spot_at placed.spots cell.0 in
        let there = named cell.0 (omega (arith, once.within die segment rank cell at, all)) in
        record {
          die_is = once.one_die spot.die die spot.segment segment spot.rank rank cell there at;
          segment_is = once.one_segment spot.die die spot.segment segment spot.rank rank cell there at;
          rank_is = once.one_rank spot.die die spot.segment segment spot.rank rank cell there at;
        };
  }
    where
      named : (cell : ℕ) → cell < length seats
          → entry_at (lanes_on placed.top placed.bottom (spot_at placed.spots cell).die) (spot_at placed.spots cell).segment (spot_at placed.spots cell).rank ≡ Some (record { 0 = cell })
      named cell below = (is.each cell below).entry

  -- it is of the problem
  is_of_problem : IsPlan p.plan → IsGrid p.plan.frame p.plan.terminal grid → cut p (seat_dies seats) ≤ slot_count grid → IsPlacementOf p placed
  is_of_problem plan is_grid enough = record {
    cells = is.many ∙ all;
    nets = ap length is.terminals_are ∙ length-fit_terminals p grid (seat_dies seats);
    top_lanes = is.lanes.many Top;
    bottom_lanes = is.lanes.many Bottom;
    spots = λ k d below.
        subst (IsSpotOf p) (get_or_from_slice_get placed.spots k (get_or placed.spots k d) no_spot (slice_get-get_or placed.spots k d below))
        (is.each k (omega (arith, below, is.many))).is_spot;
    centres = subst (λ terminals. All (λ terminal. IfSome terminal IsCentre) terminals) (sym is.terminals_are)
        (on_slots_in_range p.plan grid (fit_terminals p grid (seat_dies seats)) plan is_grid (fit_on_slots p grid (seat_dies seats) plan is_grid enough));
  }

  -- so it is legal
  is_legal : IsPlan p.plan → IsGrid p.plan.frame p.plan.terminal grid → AreFeasible p seats → cut p (seat_dies seats) ≤ slot_count grid → IsLegal p (drawn_of placed)
  is_legal plan is_grid are enough =
      in_order_is_legal p grid placed plan is_grid (is_of_problem plan is_grid enough)
      (agrees (stand_once p seats placed.top placed.bottom is.lanes (feasible_on_dies p seats plan are) all))
      (lanes_in_order p seats placed are places_are is.lanes.lane_at)
      (subst (KeepRules p) (sym dies_are) (seats_keep_rules p seats are all))
      (subst (λ dies. AreOnCuts p dies placed.terminals) (sym dies_are)
      (subst (AreOnCuts p (seat_dies seats)) (sym is.terminals_are) (fit_on_cuts p grid (seat_dies seats))))
      (subst (AreOnSlots grid) (sym is.terminals_are) (fit_on_slots p grid (seat_dies seats) plan is_grid enough))
    where
      dies_are : dies_of (places_of placed) ≡ seat_dies seats
      dies_are = ap dies_of places_are ∙ dies_of_seats p.plan seats

-- the drawing of feasible seats of all cells is legal, where the slots are at least the cut nets
pub seats_are_legal : (p : Netlist) (grid : Slots) (seats : List Seat) → IsPlan p.plan → IsGrid p.plan.frame p.plan.terminal grid → AreFeasible p seats
    → length seats ≡ length p.cells → cut p (seat_dies seats) ≤ slot_count grid
    → IsLegal p (drawing_of (seat_places p.plan seats) (fit_terminals p grid (seat_dies seats)))
seats_are_legal p grid seats plan is_grid are all enough =
    let stands = placement_for p grid seats plan are in
    subst (λ places. IsLegal p (drawing_of places (fit_terminals p grid (seat_dies seats)))) (places_are p grid seats stands.0 stands.1 all)
    (subst (λ terminals. IsLegal p (drawing_of (places_of stands.0) terminals)) stands.1.terminals_are
    (is_legal p grid seats stands.0 stands.1 all plan is_grid are enough))
