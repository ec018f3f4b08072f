-- The law that a placement in order is legal, where its dies keep the rules and its terminals stand on slots of their own.
use Rattle.std.specs.Prelude.{◌≡◌, ◌≢◌, ◌⊎◌, ℕ, ◌<◌, List, length, slice_get, Some, IsTrue, ◌+ℤ◌}
use Rattle.std.proofs.Common.{sym, ap, subst, ◌∙◌, arith, inl, inr}
use Rattle.std.proofs.lemmas.List.{length-map, get_or-map}
use Rattle.std.proofs.lemmas.Bool.{cases_order}
use Rattle.std.proofs.lemmas.Int.{ints}
use Rattle.std.proofs.lemmas.Option.{same_Some}
use Rattle.fp_base.specs.declared.ids.CellId.{CellId}
use Rattle.fp_base.specs.declared.ids.Die.{Die}
use Rattle.fp_base.specs.declared.ids.Die.TheVariants.{Top, Bottom}
use Rattle.fp_tech.specs.Plan.{segments, IsPlan}
use Rattle.fp_tech.specs.Slots.{Slots, IsGrid}
use Rattle.fp_netlist.specs.Netlist.{Netlist}
use Rattle.fp_netlist.specs.Points.{width}
use Rattle.fp_place.specs.Places.{Place, place_at, nowhere, dies_of}
use Rattle.fp_place.specs.PlacesLaws.{die_of_place}
use Rattle.fp_place.specs.Areas.{fits}
use Rattle.fp_place.specs.DrawnLaws.{stands_once, places_in_drawing}
use Rattle.fp_place.specs.Legal.{StandsIn, StandsOnSegment, Overlap, IsClear, IsLegalAt, IsLegal}
use Rattle.fp_place.specs.LaneOrder.{IsOnLane}
use Rattle.fp_place.specs.Placed.{Placed, lanes_of, spot_at, no_spot, place_of, places_of, DoAgree, IsSpotOf, IsPlacementOf, StandBetween, IsInOrder, drawn_of}
use Rattle.fp_place.specs.PlacedLaws.{IsEntry, entry_of}
use Rattle.fp_place.specs.Settled.{KeepRules}
use Rattle.fp_place.specs.ClearLaws.{overlap_swapped, segments_clear}
use Rattle.fp_place.specs.LaneLaws.{IsBetween, between_at, between_behind}
use Rattle.fp_place.specs.OnSlots.{AreOnCuts, AreOnSlots}
use Rattle.fp_place.specs.OnSlotsLaws.{drawn_on_cuts, slots_keep_edges, slots_keep_apart}

-- a cell is that of a rank on a segment's lane, which is in order, and it stands on the segment
pub record IsEntryOn (p : Netlist) (placed : Placed) (die : Die) (number cell : ℕ) : Type 0 where
  pub on_lane : IsOnLane p (places_of placed) die number cell
  pub lane : List CellId
  pub lane_there : slice_get (lanes_of placed die) number ≡ Some lane
  pub rank : ℕ
  pub at : slice_get lane rank ≡ Some (record { 0 = cell })
  pub between : StandBetween p die (places_of placed) on_lane.segment.start (on_lane.segment.start +ℤ on_lane.segment.length) lane

-- a cell's place is its spot's
pub place_of_spot : (placed : Placed) (cell : ℕ) → cell < length placed.spots → place_at (places_of placed) cell ≡ place_of (spot_at placed.spots cell)
place_of_spot placed cell below = get_or-map place_of placed.spots cell no_spot nowhere below

-- a placement of a problem that agrees and is in order, with cells that fit their dies
module _ (p : Netlist) (placed : Placed) (of : IsPlacementOf p placed) (agree : DoAgree placed) (in_order : IsInOrder p placed) (rules : KeepRules p (dies_of (places_of placed))) where
  many_places : length (places_of placed) ≡ length p.cells
  many_places = length-map placed.spots place_of ∙ of.cells

  fits_die : (cell : ℕ) → cell < length p.cells → IsTrue (fits p cell (place_at (places_of placed) cell).die)
  fits_die cell below = subst (λ die. IsTrue (fits p cell die)) (die_of_place (places_of placed) cell (omega (arith, below, many_places))) (rules.fitting cell below)

  -- each cell has its entry
  entry_on_lane : (cell : ℕ) → cell < length p.cells → IsEntryOn p placed (spot_at placed.spots cell).die (spot_at placed.spots cell).segment cell
  entry_on_lane cell below =
      let spot = spot_at placed.spots cell in
      let within : cell < length placed.spots = omega (arith, below, of.cells) in
      let is : IsSpotOf p spot = of.spots cell no_spot within in
      let entry : IsEntry (lanes_of placed spot.die) spot.segment spot.rank (record { 0 = cell }) =
      entry_of (lanes_of placed spot.die) spot.segment spot.rank (record { 0 = cell }) (agree.spot_named cell within) in
      let between : StandBetween p spot.die (places_of placed) is.segment.start (is.segment.start +ℤ is.segment.length) entry.lane =
      in_order spot.die spot.segment is.segment entry.lane is.there entry.there in
      let on : IsBetween p spot.die (places_of placed) is.segment.start (is.segment.start +ℤ is.segment.length) (record { 0 = cell }) =
      between_at p spot.die (places_of placed) is.segment.start (is.segment.start +ℤ is.segment.length) entry.lane between spot.rank (record { 0 = cell }) entry.at in
      let place : place_at (places_of placed) cell ≡ place_of spot = place_of_spot placed cell within in
      record {
        on_lane = record {
          die_is = ap (λ (q : Place). q.die) place;
          segment = is.segment;
          there = is.there;
          stands = record { row = ap (λ (q : Place). q.y) place ∙ is.row; starts = on.starts; ends = on.ends };
          fitting = subst (λ die. IsTrue (fits p cell die)) (ap (λ (q : Place). q.die) place) (fits_die cell below);
        };
        lane = entry.lane;
        lane_there = entry.there;
        rank = spot.rank;
        at = entry.at;
        between = between;
      }

  -- each cell stands on a segment of its die
  on_segment : (cell : ℕ) → cell < length p.cells → StandsOnSegment p (places_of placed) cell
  on_segment cell below =
      let entry = entry_on_lane cell below in
      record {
        number = (spot_at placed.spots cell).segment;
        segment = entry.on_lane.segment;
        there = ap (λ die. slice_get (segments p.plan die) (spot_at placed.spots cell).segment) entry.on_lane.die_is ∙ entry.on_lane.there;
        stands = subst (λ die. StandsIn entry.on_lane.segment (width p cell die) (place_at (places_of placed) cell)) (sym entry.on_lane.die_is) entry.on_lane.stands;
      }

  -- two cells of a lane do not overlap
  lane_clear : (die : Die) (number a b : ℕ) (here : IsEntryOn p placed die number a) (there : IsEntryOn p placed die number b) → here.rank < there.rank
      → Overlap p (places_of placed) a b → ⊥
  lane_clear die number a b here there less over =
      let one_lane : there.lane ≡ here.lane = same_Some there.lane here.lane (sym there.lane_there ∙ here.lane_there) in
      let at : slice_get here.lane there.rank ≡ Some (record { 0 = b }) = ap (λ (lane : List CellId). slice_get lane there.rank) (sym one_lane) ∙ there.at in
      let behind = between_behind p die (places_of placed) here.on_lane.segment.start (here.on_lane.segment.start +ℤ here.on_lane.segment.length) here.lane here.between
      here.rank there.rank (record { 0 = a }) (record { 0 = b }) less here.at at in
      let wide : width p a (place_at (places_of placed) a).die ≡ width p a die = ap (λ d. width p a d) here.on_lane.die_is in
      omega (arith, ints, behind, wide, over.right)

  one_cell : (die : Die) (number a b : ℕ) (here : IsEntryOn p placed die number a) (there : IsEntryOn p placed die number b) → here.rank ≡ there.rank → a ≡ b
  one_cell die number a b here there same =
      let one_lane : there.lane ≡ here.lane = same_Some there.lane here.lane (sym there.lane_there ∙ here.lane_there) in
      let at : slice_get here.lane here.rank ≡ Some (record { 0 = b }) =
      ap (slice_get here.lane) same ∙ ap (λ (lane : List CellId). slice_get lane there.rank) (sym one_lane) ∙ there.at in
      ap (λ (c : CellId). c.0) (same_Some (record { 0 = a }) (record { 0 = b }) (sym here.at ∙ at))

  -- two cells of a die do not overlap
  cells_clear : (die : Die) (i j a b : ℕ) → IsEntryOn p placed die i a → IsEntryOn p placed die j b → a ≢ b → Overlap p (places_of placed) a b → ⊥
  cells_clear die i j a b here there differ over = by (cases_order i j)
    where
      in_lane : (there : IsEntryOn p placed die i b) → (here.rank ≡ there.rank) ⊎ ((here.rank < there.rank) ⊎ (there.rank < here.rank)) → ⊥
      in_lane there (inl same) = differ (one_cell die i a b here there same)
      in_lane there (inr (inl less)) = lane_clear die i a b here there less over
      in_lane there (inr (inr more)) = lane_clear die i b a there here more (overlap_swapped p (places_of placed) a b over)

      by : (i ≡ j) ⊎ ((i < j) ⊎ (j < i)) → ⊥
      by (inl same) = let beside : IsEntryOn p placed die i b = subst (λ n. IsEntryOn p placed die n b) (sym same) there in in_lane beside (cases_order here.rank beside.rank)
      by (inr (inl less)) = segments_clear p (places_of placed) die i j a b less here.on_lane there.on_lane over
      by (inr (inr more)) = segments_clear p (places_of placed) die j i b a more there.on_lane here.on_lane (overlap_swapped p (places_of placed) a b over)

  -- each cell is clear
  is_clear : (cell : ℕ) → cell < length p.cells → IsClear p (places_of placed) cell
  is_clear cell below other other_below differ over =
      let here = entry_on_lane cell below in
      let there = entry_on_lane other other_below in
      let one_die : (spot_at placed.spots other).die ≡ (spot_at placed.spots cell).die = sym there.on_lane.die_is ∙ sym over.same_die ∙ here.on_lane.die_is in
      cells_clear (spot_at placed.spots cell).die (spot_at placed.spots cell).segment (spot_at placed.spots other).segment cell other here
      (subst (λ die. IsEntryOn p placed die (spot_at placed.spots other).segment other) one_die there) (λ same. differ (sym same)) over

-- a placement that is in order, whose dies keep the rules and whose terminals are those of the cut nets, each on a slot of its own, is legal
pub in_order_is_legal : (p : Netlist) (grid : Slots) (placed : Placed) → IsPlan p.plan → IsGrid p.plan.frame p.plan.terminal grid → IsPlacementOf p placed → DoAgree placed
    → IsInOrder p placed → KeepRules p (dies_of (places_of placed)) → AreOnCuts p (dies_of (places_of placed)) placed.terminals → AreOnSlots grid placed.terminals
    → IsLegal p (drawn_of placed)
in_order_is_legal p grid placed is is_grid of agree in_order rules on_cuts on_slots =
    let places : List Place = places_of placed in
    let many : length places ≡ length p.cells = many_places p placed of agree in_order rules in
    subst (IsLegalAt p (drawn_of placed)) (sym (places_in_drawing places placed.terminals (length p.cells) many))
    (record {
      once = λ cell below. stands_once places placed.terminals cell (omega (arith, below, many));
      on_segments = λ cell below. on_segment p placed of agree in_order rules cell below;
      heights = λ cell below. fits_die p placed of agree in_order rules cell below;
      clear = λ cell below. is_clear p placed of agree in_order rules cell below;
      top_percent = rules.percents Top;
      bottom_percent = rules.percents Bottom;
      terminals = λ net below. drawn_on_cuts p places placed.terminals of.nets on_cuts net below;
      edges = λ net below. slots_keep_edges p grid places placed.terminals is is_grid on_slots net;
      apart = λ net below. slots_keep_apart p grid places placed.terminals is_grid on_slots net;
    })
