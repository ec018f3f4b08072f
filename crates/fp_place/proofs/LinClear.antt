-- Over both dies: the cells that overlap no other, and lanes whose cells stand between two ends.
use Rattle.std.specs.Prelude.{◌≡◌, ◌≢◌, ℕ, suc, ◌<◌, List, [], ◌∷◌, length, All, AllPairs, get_or, slice_get, Option, Some, None, ℤ, pos, ◌+ℤ◌, ◌≤ℤ◌, ◌⊎◌, Ok, Err}
use Rattle.std.proofs.Common.{sym, ap, subst, ◌∙◌, arith, inl, inr}
use Rattle.std.proofs.lemmas.Bool.{cases_order}
use Rattle.std.proofs.lemmas.Int.{ints, by_lt_z}
use Rattle.std.proofs.lemmas.Option.{same_Some, slice_get-get_or, slice_get_within, get_or_from_slice_get}
use Rattle.fp_base.specs.declared.ids.CellId.{CellId}
use Rattle.fp_base.specs.declared.ids.Die.{Die}
use Rattle.fp_base.specs.declared.ids.Die.TheVariants.{Top, Bottom}
use Rattle.fp_tech.specs.declared.dies.Segment.{Segment}
use Rattle.fp_tech.specs.Plan.{segments}
use Rattle.fp_tech.specs.PlanLaws.{few_segments}
use Rattle.fp_place.specs.PlacedLaws.{segment_in_range}
use Rattle.fp_netlist.specs.Netlist.{Netlist, IsSound}
use Rattle.fp_netlist.specs.NetlistLaws.{lib_within}
use Rattle.fp_netlist.specs.Points.{width}
use Rattle.fp_place.specs.declared.lined.Lined.{Lined}
use Rattle.fp_place.specs.Places.{Place, place_at}
use Rattle.fp_place.specs.Legal.{Overlap, IsClear}
use Rattle.fp_place.specs.Lining.{LinesUp}
use Rattle.fp_place.specs.Placed.{LaneList, lanes_on, entry_at, StandBetween}
use Rattle.fp_place.specs.LaneOrder.{AreRanked, IsOnLane}
use Rattle.fp_place.specs.LaneOverlaps.{OverlapsSome, AreLanes, IsLane, IsOnRowAt, IsFirst, Meets, MeetsOn, IsApartOn, IsAmong, IsAmongLanes, cell_at, no_cell, earlier}
use Rattle.fp_place.proofs.LinFirst.{first_weaker, first_joined}
use Rattle.fp_place.proofs.LinRank.{AreMade, are_ranked, entry_owned, entry_from, entry_in}
use Rattle.fp_place.proofs.LinReach.{x_at, end_at, overlap_behind}
use Rattle.fp_place.specs.ClearLaws.{overlap_swapped, segments_clear}

-- the segment that stands for one that is not there
abbrev no_segment : Segment
no_segment = record { y = pos 0; start = pos 0; length = pos 0 }

lanes_many : (p : Netlist) (places : List Place) (top bottom : LaneList) → AreRanked p places top bottom → (die : Die) → length (lanes_on top bottom die) ≡ length (segments p.plan die)
lanes_many p places top bottom ranked Top = ranked.top_lanes
lanes_many p places top bottom ranked Bottom = ranked.bottom_lanes

-- a cell of a lane, as an entry
cell_entry : (lanes : LaneList) (number : ℕ) (lane : List CellId) → slice_get lanes number ≡ Some lane → (rank : ℕ) → rank < length lane
    → entry_at lanes number rank ≡ Some (cell_at lane rank)
cell_entry lanes number lane there rank below = entry_from lanes number rank lane (cell_at lane rank) there (slice_get-get_or lane rank no_cell below)

cell_on_row : (p : Netlist) (places : List Place) (die : Die) (number cell : ℕ) (segment : Segment) → IsSound p → cell < length p.cells → IsOnLane p places die number cell
    → slice_get (segments p.plan die) number ≡ Some segment → IsOnRowAt p places die segment.y cell
cell_on_row p places die number cell segment sound below on there =
    let same : on.segment ≡ segment = same_Some on.segment segment (sym on.there ∙ there) in
    let lies = segment_in_range p.plan sound.plan die number on.segment on.there in
    let begins = on.stands.starts in
    let finishes = on.stands.ends in
    let least = lies.start.least in
    let most = lies.end.most in
    record {
      within = below;
      die_is = on.die_is;
      row = on.stands.row ∙ ap (λ s. s.y) same;
      least = omega (arith, ints, begins, least);
      most = omega (arith, ints, finishes, most);
      some_width = (lib_within p cell die sound below).some_width;
      some_height = (lib_within p cell die sound below).some_height;
    }

pub lane_ranked : (p : Netlist) (places : List Place) (top bottom : LaneList) → IsSound p → AreRanked p places top bottom → (die : Die) (number : ℕ) (lane : List CellId)
    → slice_get (lanes_on top bottom die) number ≡ Some lane → IsLane p places die lane
lane_ranked p places top bottom sound ranked die number lane there =
    let within : number < length (segments p.plan die) = omega (arith, slice_get_within (lanes_on top bottom die) number lane there, lanes_many p places top bottom ranked die) in
    let segment : Segment = get_or (segments p.plan die) number no_segment in
    let segment_there : slice_get (segments p.plan die) number ≡ Some segment = slice_get-get_or (segments p.plan die) number no_segment within in
    record {
      y = segment.y;
      cells = λ rank below.
          let entry = cell_entry (lanes_on top bottom die) number lane there rank below in
          cell_on_row p places die number (cell_at lane rank).0 segment sound (ranked.once.within die number rank (cell_at lane rank) entry) (ranked.on_lane die number rank (cell_at lane rank) entry)
          segment_there;
      rising = λ i j less below. ranked.rising die number lane there i j no_cell less below;
    }

pub lanes_ranked : (p : Netlist) (places : List Place) (top bottom : LaneList) → IsSound p → AreRanked p places top bottom → (die : Die) → AreLanes p places die (lanes_on top bottom die)
lanes_ranked p places top bottom sound ranked die = record {
  few = omega (arith, few_segments p.plan sound.plan die, lanes_many p places top bottom ranked die);
  each = λ number below. lane_ranked p places top bottom sound ranked die number (get_or (lanes_on top bottom die) number []) (slice_get-get_or (lanes_on top bottom die) number [] below);
}

-- a cell that meets another of its lane is not clear
pub met_not_clear : (p : Netlist) (places : List Place) (top bottom : LaneList) → AreRanked p places top bottom → (die : Die) (cell : CellId)
    → MeetsOn p places (lanes_on top bottom die) cell → (cell.0 < length p.cells) × (IsClear p places cell.0 → ⊥)
met_not_clear p places top bottom ranked die cell on = (
  ranked.once.within die on.number meets.rank cell here,
  λ clear.
      clear (cell_at lane meets.other).0 (ranked.once.within die on.number meets.other (cell_at lane meets.other) there) differs meets.over,
)
  where
    lane : List CellId
    lane = get_or (lanes_on top bottom die) on.number []

    meets : Meets p places (get_or (lanes_on top bottom die) on.number []) cell
    meets = on.meets

    lane_there : slice_get (lanes_on top bottom die) on.number ≡ Some (get_or (lanes_on top bottom die) on.number [])
    lane_there = slice_get-get_or (lanes_on top bottom die) on.number [] on.within

    here : entry_at (lanes_on top bottom die) on.number on.meets.rank ≡ Some cell
    here = cell_entry (lanes_on top bottom die) on.number (get_or (lanes_on top bottom die) on.number []) lane_there on.meets.rank on.meets.within ∙ ap Some on.meets.here

    there : entry_at (lanes_on top bottom die) on.number on.meets.other ≡ Some (cell_at (get_or (lanes_on top bottom die) on.number []) on.meets.other)
    there = cell_entry (lanes_on top bottom die) on.number (get_or (lanes_on top bottom die) on.number []) lane_there on.meets.other on.meets.other_within

    differs : (cell_at (get_or (lanes_on top bottom die) on.number []) on.meets.other).0 ≢ cell.0
    differs same = on.meets.apart (ranked.once.one_rank die die on.number on.number on.meets.rank on.meets.other cell here
        (there ∙ ap (λ (n : ℕ). Some (let c : CellId = record { 0 = n } in c)) same))

-- a cell that stands apart on its lane is clear
pub apart_clear : (p : Netlist) (places : List Place) (top bottom : LaneList) → AreRanked p places top bottom → (die : Die) (cell : CellId)
    → IsApartOn p places (lanes_on top bottom die) cell → IsClear p places cell.0
apart_clear p places top bottom ranked die cell on other other_below differs over = by (cases_order on.number there.1)
  where
    there : (d : Die) × (segment : ℕ) × (rank : ℕ) × (entry_at (lanes_on top bottom d) segment rank ≡ Some (record { 0 = other }))
    there = ranked.once.there other other_below

    here : entry_at (lanes_on top bottom die) on.number on.among.0 ≡ Some cell
    here = cell_entry (lanes_on top bottom die) on.number (get_or (lanes_on top bottom die) on.number [])
        (slice_get-get_or (lanes_on top bottom die) on.number [] on.within) on.among.0 on.among.2 ∙ ap Some on.among.3

    on_here : IsOnLane p places die on.number cell.0
    on_here = ranked.on_lane die on.number on.among.0 cell here

    same_die : there.0 ≡ die
    same_die = sym (ranked.on_lane there.0 there.1 there.2 (record { 0 = other }) there.3).die_is ∙ sym over.same_die ∙ on_here.die_is

    entry : entry_at (lanes_on top bottom die) there.1 there.2 ≡ Some (record { 0 = other })
    entry = subst (λ d. entry_at (lanes_on top bottom d) there.1 there.2 ≡ Some (record { 0 = other })) same_die there.3

    on_there : IsOnLane p places die there.1 other
    on_there = ranked.on_lane die there.1 there.2 (record { 0 = other }) entry

    by : (on.number ≡ there.1) ⊎ ((on.number < there.1) ⊎ (there.1 < on.number)) → ⊥
    by (inl same) =
        let lane : List CellId = get_or (lanes_on top bottom die) on.number [] in
        let found = entry_in (lanes_on top bottom die) on.number there.2 (record { 0 = other })
        (subst (λ n. entry_at (lanes_on top bottom die) n there.2 ≡ Some (record { 0 = other })) (sym same) entry) in
        let at : slice_get lane there.2 ≡ Some (record { 0 = other }) =
        subst (λ (l : List CellId). slice_get l there.2 ≡ Some (record { 0 = other })) (sym (get_or_from_slice_get (lanes_on top bottom die) on.number found.lane [] found.there)) found.at in
        let is : (cell_at lane there.2).0 ≡ other = ap (λ (c : CellId). c.0) (get_or_from_slice_get lane there.2 (record { 0 = other }) no_cell at) in
        on.apart there.2 (slice_get_within lane there.2 (record { 0 = other }) at) (λ e. differs (sym is ∙ e)) (subst (λ n. Overlap p places cell.0 n) (sym is) over)
    by (inr (inl lower)) = segments_clear p places die on.number there.1 cell.0 other lower on_here on_there over
    by (inr (inr higher)) = segments_clear p places die there.1 on.number other cell.0 higher on_there on_here (overlap_swapped p places cell.0 other over)

-- the first over both dies
first_on_die : (p : Netlist) (places : List Place) (top bottom : LaneList) → AreRanked p places top bottom → (die : Die) (first : Option CellId)
    → IsFirst (MeetsOn p places (lanes_on top bottom die)) (IsApartOn p places (lanes_on top bottom die)) (IsAmongLanes (lanes_on top bottom die) (length (lanes_on top bottom die))) first
    → IsFirst (OverlapsSome p places) (λ cell. IsClear p places cell.0) (IsAmongLanes (lanes_on top bottom die) (length (lanes_on top bottom die))) first
first_on_die p places top bottom ranked die first is =
    first_weaker (MeetsOn p places (lanes_on top bottom die)) (IsApartOn p places (lanes_on top bottom die)) (IsAmongLanes (lanes_on top bottom die) (length (lanes_on top bottom die)))
    (OverlapsSome p places) (λ cell. IsClear p places cell.0) (IsAmongLanes (lanes_on top bottom die) (length (lanes_on top bottom die))) first is
    (λ cell meets. met_not_clear p places top bottom ranked die cell meets) (λ cell among. among) (λ cell among apart. apart_clear p places top bottom ranked die cell apart)

among_die : (lanes : LaneList) (number rank : ℕ) (cell : CellId) → entry_at lanes number rank ≡ Some cell → IsAmongLanes lanes (length lanes) cell
among_die lanes number rank cell e =
    let found = entry_in lanes number rank cell e in
    let same : get_or lanes number [] ≡ found.lane = get_or_from_slice_get lanes number found.lane [] found.there in (
      number,
      slice_get_within lanes number found.lane found.there,
      subst (λ (l : List CellId). IsAmong l (length l) cell) (sym same)
          (rank, slice_get_within found.lane rank cell found.at, slice_get_within found.lane rank cell found.at, get_or_from_slice_get found.lane rank cell no_cell found.at),
    )

pub first_of_both : (p : Netlist) (places : List Place) (top bottom : LaneList) → AreRanked p places top bottom → (one other : Option CellId)
    → IsFirst (MeetsOn p places top) (IsApartOn p places top) (IsAmongLanes top (length top)) one
    → IsFirst (MeetsOn p places bottom) (IsApartOn p places bottom) (IsAmongLanes bottom (length bottom)) other
    → IsFirst (OverlapsSome p places) (λ cell. IsClear p places cell.0) (λ cell. cell.0 < length p.cells) (earlier one other)
first_of_both p places top bottom ranked one other upper lower =
    first_joined (OverlapsSome p places) (λ cell. IsClear p places cell.0) (IsAmongLanes top (length top)) (IsAmongLanes bottom (length bottom)) (λ cell. cell.0 < length p.cells) one other
    (first_on_die p places top bottom ranked Top one upper) (first_on_die p places top bottom ranked Bottom other lower)
    (λ cell below. let there = ranked.once.there cell.0 below in by cell there.0 there.1 there.2 there.3)
  where
    by : (cell : CellId) (die : Die) (number rank : ℕ) → entry_at (lanes_on top bottom die) number rank ≡ Some (record { 0 = cell.0 })
        → IsAmongLanes top (length top) cell ⊎ IsAmongLanes bottom (length bottom) cell
    by cell Top number rank e = inl (among_die top number rank cell e)
    by cell Bottom number rank e = inr (among_die bottom number rank cell e)

-- cells between two ends
stand_between : (p : Netlist) (places : List Place) (die : Die) (from to : ℤ) (lane : List CellId) → from ≤ℤ to → All (λ (c : CellId). from ≤ℤ (place_at places c.0).x) lane
    → All (λ (c : CellId). ((place_at places c.0).x +ℤ pos (width p c.0 die)) ≤ℤ to) lane
    → AllPairs (λ (a b : CellId). ((place_at places a.0).x +ℤ pos (width p a.0 die)) ≤ℤ (place_at places b.0).x) lane
    → StandBetween p die places from to lane
stand_between p places die from to [] some begins finishes pairs = some
stand_between p places die from to (first ∷ lane) some begins finishes pairs = (
  begins 0 first (omega arith),
  stand_between p places die ((place_at places first.0).x +ℤ pos (width p first.0 die)) to lane (finishes 0 first (omega arith))
      (λ k d below. pairs 0 (suc k) d (omega arith) (omega arith))
      (λ k d below. finishes (suc k) d (omega arith))
      (λ i j d less below. pairs (suc i) (suc j) d (omega arith) (omega arith)),
)

-- a lane of clear cells
pub lane_in_order : (p : Netlist) (places : List Place) (top bottom : LaneList) → IsSound p → AreRanked p places top bottom
    → ((cell : ℕ) → cell < length p.cells → IsClear p places cell) → (die : Die) (number : ℕ) (segment : Segment) (lane : List CellId)
    → slice_get (segments p.plan die) number ≡ Some segment → slice_get (lanes_on top bottom die) number ≡ Some lane
    → StandBetween p die places segment.start (segment.start +ℤ segment.length) lane
lane_in_order p places top bottom sound ranked clear die number segment lane segment_there lane_there =
    stand_between p places die segment.start (segment.start +ℤ segment.length) lane
    (let some = (segment_in_range p.plan sound.plan die number segment segment_there).some in omega (arith, ints, some))
    (λ k d below. subst (λ (c : CellId). segment.start ≤ℤ (place_at places c.0).x) (at k d below) (starts k below))
    (λ k d below. subst (λ (c : CellId). ((place_at places c.0).x +ℤ pos (width p c.0 die)) ≤ℤ (segment.start +ℤ segment.length)) (at k d below) (ends k below))
    (λ i j d less below. subst (λ (c : CellId). ((place_at places (get_or lane i d).0).x +ℤ pos (width p (get_or lane i d).0 die)) ≤ℤ (place_at places c.0).x) (at j d below)
    (subst (λ (c : CellId). ((place_at places c.0).x +ℤ pos (width p c.0 die)) ≤ℤ x_at places lane j) (at i d (omega arith)) (apart i j less below)))
  where
    at : (k : ℕ) (d : CellId) → k < length lane → cell_at lane k ≡ get_or lane k d
    at k d below = same_Some (cell_at lane k) (get_or lane k d) (sym (slice_get-get_or lane k no_cell below) ∙ slice_get-get_or lane k d below)

    entry : (k : ℕ) → k < length lane → entry_at (lanes_on top bottom die) number k ≡ Some (cell_at lane k)
    entry k below = cell_entry (lanes_on top bottom die) number lane lane_there k below

    on : (k : ℕ) → k < length lane → IsOnLane p places die number (cell_at lane k).0
    on k below = ranked.on_lane die number k (cell_at lane k) (entry k below)

    one_segment : (k : ℕ) (below : k < length lane) → (on k below).segment ≡ segment
    one_segment k below = same_Some (on k below).segment segment (sym (on k below).there ∙ segment_there)

    starts : (k : ℕ) → k < length lane → segment.start ≤ℤ x_at places lane k
    starts k below = subst (λ (s : Segment). s.start ≤ℤ x_at places lane k) (one_segment k below) (on k below).stands.starts

    ends : (k : ℕ) → k < length lane → end_at p places die lane k ≤ℤ (segment.start +ℤ segment.length)
    ends k below = subst (λ (s : Segment). end_at p places die lane k ≤ℤ (s.start +ℤ s.length)) (one_segment k below) (on k below).stands.ends

    apart : (i j : ℕ) → i < j → j < length lane → end_at p places die lane i ≤ℤ x_at places lane j
    apart i j less below = by_lt_z (x_at places lane j) (end_at p places die lane i)
        (λ close. absurd (clear (cell_at lane i).0 (ranked.once.within die number i (cell_at lane i) (entry i (omega arith)))
        (cell_at lane j).0 (ranked.once.within die number j (cell_at lane j) (entry j below))
        (λ same. differs i j less below same)
        (overlap_behind p places die lane (lane_ranked p places top bottom sound ranked die number lane lane_there) i j less below close)))
        (λ far. far)
      where
        differs : (i j : ℕ) → i < j → j < length lane → (cell_at lane j).0 ≡ (cell_at lane i).0 → ⊥
        differs i j less below same =
            let one : i ≡ j = ranked.once.one_rank die die number number i j (cell_at lane i) (entry i (omega arith)) (entry j below ∙ ap (λ (n : ℕ). Some (let c : CellId = record { 0 = n } in c)) same) in
            omega (arith, one, less)

-- what is returned
pub lined_up : (p : Netlist) (places : List Place) (numbers : List ℕ) (order : List CellId) (lined : Lined) → IsSound p → AreMade p places numbers order lined.top lined.bottom
    → IsFirst (OverlapsSome p places) (λ cell. IsClear p places cell.0) (λ cell. cell.0 < length p.cells) None → LinesUp p places numbers (Ok lined)
lined_up p places numbers order lined sound made is = (
  clear,
  record {
    top_lanes = ranked.top_lanes;
    bottom_lanes = ranked.bottom_lanes;
    once = ranked.once;
    own_die = λ die segment rank cell e. (entry_owned p places numbers order lined.top lined.bottom made die segment rank cell e).die_is;
    own_segment = λ die segment rank cell e. (entry_owned p places numbers order lined.top lined.bottom made die segment rank cell e).number_is;
    in_order = lane_in_order p places lined.top lined.bottom sound ranked clear;
  },
)
  where
    ranked : AreRanked p places lined.top lined.bottom
    ranked = are_ranked p places numbers order lined.top lined.bottom made

    clear : (cell : ℕ) → cell < length p.cells → IsClear p places cell
    clear cell below = is.kept (record { 0 = cell }) below tt

pub first_told : (p : Netlist) (places : List Place) (numbers : List ℕ) (cell : CellId)
    → IsFirst (OverlapsSome p places) (λ c. IsClear p places c.0) (λ c. c.0 < length p.cells) (Some cell) → LinesUp p places numbers (Err cell)
first_told p places numbers cell is =
    let below = is.broken.0 in
    (is.broken.0, is.broken.1, λ before less. is.kept (record { 0 = before }) (omega (arith, below, less)) less)
