-- Lemmas of the lanes that seats make, and of the placement of these lanes.
use Rattle.std.specs.Prelude.{◌≡◌, ℕ, ◌<◌, List, [], length, map, get_or, replicate, All, None, Result, Ok, Err, IfOk, ℤ, pos}
use Rattle.std.proofs.Common.{sym, ap, subst, ◌∙◌, arith}
use Rattle.std.proofs.lemmas.List.{same_lists, get_or-map, length-map}
use Rattle.std.proofs.lemmas.Option.{slice_get-get_or, get_or_from_slice_get}
use Rattle.fp_base.specs.declared.ids.Die.{Die}
use Rattle.fp_base.specs.declared.ids.Die.TheVariants.{Top, Bottom}
use Rattle.fp_tech.specs.declared.dies.Segment.{Segment}
use Rattle.fp_tech.specs.Plan.{segments}
use Rattle.fp_netlist.specs.Netlist.{Netlist}
use Rattle.fp_place.specs.Places.{Place}
use Rattle.fp_place.specs.declared.placement.Spot.{Spot}
use Rattle.fp_place.specs.Drawing.{IsCoordinate}
use Rattle.fp_place.specs.Placed.{LaneList, Placed, DoAgree, IsSpotOf, IsPlacementOf, lanes_on, no_spot, place_of, places_of}
use Rattle.fp_score.specs.FirstFit.{Seat, no_segment, sitters, seat_place, seat_places}
use Rattle.fp_seed.specs.declared.seating.Seating.{Seating}
use Rattle.fp_seed.specs.Seats.{IsSeating}
use Rattle.fp_seed.specs.Fits.{IsOnDie, IsLaid}
use Rattle.fp_seed.specs.Seeded.{spot_seat}
use Rattle.fp_seed.specs.LanesLaws.{AreLanes, sitter}
use Rattle.fp_seed.specs.FeasibleLaws.{no_seat}

-- a placement was built of the seats' lanes
pub record IsBuilt (p : Netlist) (seats : List Seat) (placed : Placed) : Type 0 where
  pub of_problem : IsPlacementOf p placed
  pub agree : DoAgree placed
  pub lanes : AreLanes p seats placed.top placed.bottom
  pub all : length seats ≡ length p.cells
  pub xs : map (λ (spot : Spot). spot.x) placed.spots ≡ map (λ (seat : Seat). seat.x) seats
  pub bare : placed.terminals ≡ replicate (length p.nets) None

-- a spot is that of its cell's seat
record IsSpotOfSeat (p : Netlist) (spot : Spot) (seat : Seat) : Type 0 where
  seat_is : spot_seat spot ≡ seat
  place_is : place_of spot ≡ seat_place p.plan seat

same_parts : (spot : Spot) (seat : Seat) → spot.die ≡ seat.die → spot.segment ≡ seat.segment → spot.x ≡ seat.x → spot_seat spot ≡ seat
same_parts spot seat die segment x =
    ap (λ d. record { die = d; segment = spot.segment; x = spot.x }) die ∙ ap (λ s. record { die = seat.die; segment = s; x = spot.x }) segment
    ∙ ap (λ v. record { die = seat.die; segment = seat.segment; x = v }) x

on_its_row : (p : Netlist) (spot : Spot) → IsSpotOf p spot → place_of spot ≡ seat_place p.plan (spot_seat spot)
on_its_row p spot is =
    ap (λ y. record { die = spot.die; x = spot.x; y = y })
    (is.row ∙ ap (λ (s : Segment). s.y) (sym (get_or_from_slice_get (segments p.plan spot.die) spot.segment is.segment no_segment is.there)))

first_spot : (p : Netlist) (seats : List Seat) (placed : Placed) → IsBuilt p seats placed → (cell : ℕ) → cell < length placed.spots
    → IsSpotOfSeat p (get_or placed.spots cell no_spot) (get_or seats cell no_seat)
first_spot p seats placed is cell below =
    let spot = get_or placed.spots cell no_spot in
    let at = sitter p seats placed.top placed.bottom spot.die spot.segment spot.rank (record { 0 = cell }) is.lanes (is.agree.spot_named cell below) in
    let seat : get_or seats cell no_seat ≡ at.seat = get_or_from_slice_get seats cell at.seat no_seat at.at in
    let within : cell < length seats = omega (arith, below, is.all, is.of_problem.cells) in
    let x : spot.x ≡ (get_or seats cell no_seat).x = sym (get_or-map (λ (spot : Spot). spot.x) placed.spots cell no_spot (pos 0) below)
    ∙ ap (λ xs. get_or xs cell (pos 0)) is.xs ∙ get_or-map (λ (seat : Seat). seat.x) seats cell no_seat (pos 0) within in
    let same = same_parts spot (get_or seats cell no_seat) (sym at.sits.die_is ∙ ap (λ (seat : Seat). seat.die) (sym seat))
    (sym at.sits.segment_is ∙ ap (λ (seat : Seat). seat.segment) (sym seat)) x in
    record {
      seat_is = same;
      place_is = on_its_row p spot (is.of_problem.spots cell no_spot below) ∙ ap (seat_place p.plan) same;
    }

pub laid_is : (p : Netlist) (seats : List Seat) (placed : Placed) → IsBuilt p seats placed → IsLaid p seats placed
laid_is p seats placed is = record {
  seats_are = seats_are;
  places_are = same_lists (places_of placed) (seat_places p.plan seats) (length-map placed.spots place_of ∙ many ∙ sym (length-map seats (seat_place p.plan)))
      (λ k d below. place_at k d (omega (arith, below, length-map placed.spots place_of)));
  lane_at = is.lanes.lane_at;
  of_problem = is.of_problem;
  bare = is.bare;
  agree = is.agree;
}
  where
    many : length placed.spots ≡ length seats
    many = omega (arith, is.all, is.of_problem.cells)

    seat_at : (k : ℕ) (d : Seat) → k < length placed.spots → get_or (map spot_seat placed.spots) k d ≡ get_or seats k d
    seat_at k d below =
        get_or-map spot_seat placed.spots k no_spot d below ∙ (first_spot p seats placed is k below).seat_is
        ∙ sym (get_or_from_slice_get seats k (get_or seats k no_seat) d (slice_get-get_or seats k no_seat (omega (arith, below, many))))

    place_at : (k : ℕ) (d : Place) → k < length placed.spots → get_or (places_of placed) k d ≡ get_or (seat_places p.plan seats) k d
    place_at k d below =
        get_or-map place_of placed.spots k no_spot d below ∙ (first_spot p seats placed is k below).place_is
        ∙ sym (get_or-map (seat_place p.plan) seats k no_seat d (omega (arith, below, many)))

    seats_are : map spot_seat placed.spots ≡ seats
    seats_are = same_lists (map spot_seat placed.spots) seats (length-map placed.spots spot_seat ∙ many)
        (λ k d below. seat_at k d (omega (arith, below, length-map placed.spots spot_seat)))

-- the cells on the filled segments are those of the seats
pub seating_lanes : (p : Netlist) (s : Seating) → IsSeating p s → AreLanes p s.seats.items s.top.lanes s.bottom.lanes
seating_lanes p s is = record { many = λ die. many die; lane_at = λ die segment below. lane_at die segment below }
  where
    many : (die : Die) → length (lanes_on s.top.lanes s.bottom.lanes die) ≡ length (segments p.plan die)
    many Top = is.top_ready.as_many
    many Bottom = is.bottom_ready.as_many

    lane_at : (die : Die) (segment : ℕ) → segment < length (segments p.plan die) → get_or (lanes_on s.top.lanes s.bottom.lanes die) segment [] ≡ sitters die segment s.seats.items
    lane_at Top segment below = is.top_holds.lane_at segment below
    lane_at Bottom segment below = is.bottom_holds.lane_at segment below

pub xs_in_range : (p : Netlist) (seats : List Seat) (xs : List ℤ) → All (IsOnDie p) seats → xs ≡ map (λ (seat : Seat). seat.x) seats → All IsCoordinate xs
xs_in_range p seats xs on_die are k d below =
    let within : k < length seats = omega (arith, below, ap length are, length-map seats (λ (seat : Seat). seat.x)) in
    subst IsCoordinate (sym (ap (λ list. get_or list k d) are ∙ get_or-map (λ (seat : Seat). seat.x) seats k no_seat d within)) (on_die k no_seat within).x

pub laid_where_ok : {E : Type 0} (p : Netlist) (seats : List Seat) (top bottom : LaneList) (xs : List ℤ) (r : Result Placed E) → AreLanes p seats top bottom
    → length seats ≡ length p.cells → xs ≡ map (λ (seat : Seat). seat.x) seats → IfOk r (IsPlacementOf p) → IfOk r (λ placed. placed.top ≡ top) → IfOk r (λ placed. placed.bottom ≡ bottom)
    → IfOk r (λ placed. map (λ (spot : Spot). spot.x) placed.spots ≡ xs) → IfOk r (λ placed. placed.terminals ≡ replicate (length p.nets) None) → IfOk r DoAgree → IfOk r (IsLaid p seats)
laid_where_ok p seats top bottom xs (Err e) lanes all xs_are of_problem top_is bottom_is spots bare agree = tt
laid_where_ok p seats top bottom xs (Ok placed) lanes all xs_are of_problem top_is bottom_is spots bare agree =
    laid_is p seats placed (record {
      of_problem = of_problem;
      agree = agree;
      lanes = subst (λ t. AreLanes p seats t placed.bottom) (sym top_is) (subst (AreLanes p seats top) (sym bottom_is) lanes);
      all = all;
      xs = spots ∙ xs_are;
      bare = bare;
    })
