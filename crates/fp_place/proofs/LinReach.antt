-- A lane that is gone over in order of x: how far its cells reach, and which overlap.
use Rattle.std.specs.Prelude.{◌≡◌, ℕ, ◌+◌, ◌<◌, ◌≤◌, ◌^◌, true, false, List, [], length, slice_get, get_or, Option, Some, ℤ, pos, ◌+ℤ◌, ◌≤ℤ◌, ◌<ℤ◌, ◌⊎◌}
use Rattle.std.specs.Int.{int_max}
use Rattle.std.specs.Int.Signed.{lt_z}
use Rattle.std.proofs.Common.{refl, sym, ap, subst, ◌∙◌, arith, inl, inr}
use Rattle.std.proofs.lemmas.Bool.{cases_lt, cases_order}
use Rattle.std.proofs.lemmas.Int.{ints, clamps, by_lt_z}
use Rattle.std.proofs.lemmas.Option.{slice_get_within, get_or_from_slice_get}
use Rattle.fp_base.specs.declared.ids.CellId.{CellId}
use Rattle.fp_base.specs.declared.ids.Die.{Die}
use Rattle.fp_netlist.specs.Netlist.{Netlist}
use Rattle.fp_netlist.specs.Points.{width, height}
use Rattle.fp_place.specs.Places.{Place, place_at}
use Rattle.fp_place.specs.Legal.{Overlap}
use Rattle.fp_place.specs.Placed.{LaneList}
use Rattle.fp_place.specs.LaneOverlaps.{IsFirst, IsLane, IsAmong, IsAmongLanes, Meets, MeetsOn, StandsApart, IsApartOn, IsCloseNext, IsFarNext, cell_at, earlier}
use Rattle.fp_place.specs.ClearLaws.{overlap_swapped}
use Rattle.fp_place.proofs.LinFirst.{first_some, first_joined, first_kept, first_weaker}

-- where a lane's cell of a rank begins and ends
abbrev pub x_at : List Place → List CellId → ℕ → ℤ
x_at places lane rank = (place_at places (cell_at lane rank).0).x

abbrev pub end_at : Netlist → List Place → Die → List CellId → ℕ → ℤ
end_at p places die lane rank = x_at places lane rank +ℤ pos (width p (cell_at lane rank).0 die)

-- the greatest end of the first cells of a lane, or 0
pub record IsReach (p : Netlist) (places : List Place) (die : Die) (lane : List CellId) (count : ℕ) (reach : ℤ) : Type 0 where
  pub least : pos 0 ≤ℤ reach
  pub most : reach ≤ℤ pos (2 ^ 32)
  pub covers : (rank : ℕ) → rank < count → end_at p places die lane rank ≤ℤ reach
  pub reached : (at : ℤ) → pos 0 ≤ℤ at → at <ℤ reach → (rank : ℕ) × (rank < count) × (at <ℤ end_at p places die lane rank)

pub reach_none : (p : Netlist) (places : List Place) (die : Die) (lane : List CellId) → IsReach p places die lane 0 (pos 0)
reach_none p places die lane = record {
  least = omega (arith, ints);
  most = omega (arith, ints);
  covers = λ rank below. absurd (omega arith);
  reached = λ at least less. absurd (omega (arith, ints, least, less));
}

pub reach_more : (p : Netlist) (places : List Place) (die : Die) (lane : List CellId) (rank : ℕ) (reach end new : ℤ) → IsReach p places die lane rank reach
    → end ≡ end_at p places die lane rank → end ≤ℤ pos (2 ^ 32) → new ≡ int_max reach end → IsReach p places die lane (rank + 1) new
reach_more p places die lane rank reach end new is end_is small new_is = record {
  least = let least = is.least in omega (arith, ints, clamps, least, new_is);
  most = let most = is.most in omega (arith, ints, clamps, most, small, new_is);
  covers = λ other below. covers other below (cases_lt other rank);
  reached = λ at least less. by_lt_z at reach (λ before. earlier_reached at least before) (λ past. (rank, omega arith, omega (arith, ints, clamps, past, less, new_is, end_is)));
}
  where
    covers : (other : ℕ) → other < rank + 1 → (other < rank) ⊎ (rank ≤ other) → end_at p places die lane other ≤ℤ new
    covers other below (inl before) = let covered = is.covers other before in omega (arith, ints, clamps, covered, new_is)
    covers other below (inr last) =
        let same : other ≡ rank = omega arith in
        omega (arith, ints, clamps, ap (end_at p places die lane) same, end_is, new_is)

    earlier_reached : (at : ℤ) → pos 0 ≤ℤ at → at <ℤ reach → (other : ℕ) × (other < rank + 1) × (at <ℤ end_at p places die lane other)
    earlier_reached at least less = let found = is.reached at least less in (found.0, let before = found.1 in omega (arith, before), found.2)

-- two cells of a lane: the one behind begins before the end of the one ahead
pub overlap_behind : (p : Netlist) (places : List Place) (die : Die) (lane : List CellId) → IsLane p places die lane → (j k : ℕ) → j < k → k < length lane
    → x_at places lane k <ℤ end_at p places die lane j → Overlap p places (cell_at lane j).0 (cell_at lane k).0
overlap_behind p places die lane is j k less below close =
    let here = is.cells j (omega arith) in
    let there = is.cells k below in
    let rise = is.rising j k less below in
    let wide_here : width p (cell_at lane j).0 (place_at places (cell_at lane j).0).die ≡ width p (cell_at lane j).0 die = ap (λ d. width p (cell_at lane j).0 d) here.die_is in
    let wide_there : width p (cell_at lane k).0 (place_at places (cell_at lane k).0).die ≡ width p (cell_at lane k).0 die = ap (λ d. width p (cell_at lane k).0 d) there.die_is in
    let tall_here : height p (cell_at lane j).0 (place_at places (cell_at lane j).0).die ≡ height p (cell_at lane j).0 die = ap (λ d. height p (cell_at lane j).0 d) here.die_is in
    let tall_there : height p (cell_at lane k).0 (place_at places (cell_at lane k).0).die ≡ height p (cell_at lane k).0 die = ap (λ d. height p (cell_at lane k).0 d) there.die_is in
    let some_width = there.some_width in
    let some_height_here = here.some_height in
    let some_height_there = there.some_height in
    let row_here = here.row in
    let row_there = there.row in
    record {
      same_die = here.die_is ∙ sym there.die_is;
      left = omega (arith, ints, rise, some_width, wide_there);
      right = omega (arith, ints, close, wide_here);
      low = omega (arith, ints, row_here, row_there, some_height_there, tall_there);
      high = omega (arith, ints, row_here, row_there, some_height_here, tall_here);
    }

-- of two cells of a lane that overlap, each begins before the end of the other
pub overlap_ends : (p : Netlist) (places : List Place) (die : Die) (lane : List CellId) → IsLane p places die lane → (j k : ℕ) → j < length lane
    → Overlap p places (cell_at lane j).0 (cell_at lane k).0 → x_at places lane k <ℤ end_at p places die lane j
overlap_ends p places die lane is j k below over =
    let wide : width p (cell_at lane j).0 (place_at places (cell_at lane j).0).die ≡ width p (cell_at lane j).0 die = ap (λ d. width p (cell_at lane j).0 d) (is.cells j below).die_is in
    let right = over.right in
    omega (arith, ints, right, wide)

-- a cell that begins before the reach of those before it meets one
pub meets_before : (p : Netlist) (places : List Place) (die : Die) (lane : List CellId) (rank : ℕ) (reach : ℤ) → IsLane p places die lane → rank < length lane
    → IsReach p places die lane rank reach → x_at places lane rank <ℤ reach → Meets p places lane (cell_at lane rank)
meets_before p places die lane rank reach is below so_far less =
    let found = so_far.reached (x_at places lane rank) (is.cells rank below).least less in
    let before = found.1 in
    record {
      rank = rank;
      other = found.0;
      within = below;
      other_within = omega (arith, before, below);
      here = refl;
      apart = omega (arith, before);
      over = overlap_swapped p places (cell_at lane found.0).0 (cell_at lane rank).0 (overlap_behind p places die lane is found.0 rank before below found.2);
    }

-- a cell behind whose begin the next begins meets that
pub meets_next : (p : Netlist) (places : List Place) (die : Die) (lane : List CellId) (rank : ℕ) (end : ℤ) → IsLane p places die lane → end ≡ end_at p places die lane rank
    → IsCloseNext places lane (rank + 1) end → Meets p places lane (cell_at lane rank)
meets_next p places die lane rank end is end_is close =
    let within = close.within in
    let near = close.close in
    record {
      rank = rank;
      other = rank + 1;
      within = omega (arith, within);
      other_within = within;
      here = refl;
      apart = omega arith;
      over = overlap_behind p places die lane is rank (rank + 1) (omega arith) within (omega (arith, ints, near, end_is));
    }

-- else it stands apart
pub stands_apart : (p : Netlist) (places : List Place) (die : Die) (lane : List CellId) (rank : ℕ) (reach end : ℤ) → IsLane p places die lane → rank < length lane
    → IsReach p places die lane rank reach → reach ≤ℤ x_at places lane rank → end ≡ end_at p places die lane rank → IsFarNext places lane (rank + 1) end
    → StandsApart p places lane (cell_at lane rank)
stands_apart p places die lane rank reach end is below so_far past end_is far other other_below differs over = by (cases_order other rank)
  where
    by : (other ≡ rank) ⊎ ((other < rank) ⊎ (rank < other)) → ⊥
    by (inl same) = differs (ap (λ k. (cell_at lane k).0) same)
    by (inr (inl before)) =
        let covered = so_far.covers other before in
        let close = overlap_ends p places die lane is other rank other_below (overlap_swapped p places (cell_at lane rank).0 (cell_at lane other).0 over) in
        omega (arith, ints, covered, close, past)
    by (inr (inr behind)) =
        let next = far (omega (arith, behind, other_below)) in
        let close = overlap_ends p places die lane is rank other below over in
        later (cases_order (rank + 1) other) next close
      where
        later : (rank + 1 ≡ other) ⊎ ((rank + 1 < other) ⊎ (other < rank + 1)) → end ≤ℤ x_at places lane (rank + 1) → x_at places lane other <ℤ end_at p places die lane rank → ⊥
        later (inl same) next close = omega (arith, ints, next, close, end_is, ap (x_at places lane) same)
        later (inr (inl less)) next close = let rise = is.rising (rank + 1) other less other_below in omega (arith, ints, next, close, end_is, rise)
        later (inr (inr less)) next close = omega (arith, behind, less)

-- one more cell of the lane is seen
among_more : (lane : List CellId) (rank : ℕ) (cell : CellId) → IsAmong lane (rank + 1) cell → IsAmong lane rank cell ⊎ (cell ≡ cell_at lane rank)
among_more lane rank cell among = by (cases_lt among.0 rank)
  where
    by : (among.0 < rank) ⊎ (rank ≤ among.0) → IsAmong lane rank cell ⊎ (cell ≡ cell_at lane rank)
    by (inl before) = inl (among.0, before, among.2, among.3)
    by (inr last) = let below = among.1 in let same : among.0 ≡ rank = omega (arith, last, below) in inr (sym among.3 ∙ ap (cell_at lane) same)

pub first_met : (p : Netlist) (places : List Place) (lane : List CellId) (rank : ℕ) (first : Option CellId) (cell : CellId)
    → IsFirst (Meets p places lane) (StandsApart p places lane) (IsAmong lane rank) first → cell ≡ cell_at lane rank → Meets p places lane (cell_at lane rank)
    → IsFirst (Meets p places lane) (StandsApart p places lane) (IsAmong lane (rank + 1)) (earlier first (Some cell))
first_met p places lane rank first cell is same meets =
    subst (λ c. IsFirst (Meets p places lane) (StandsApart p places lane) (IsAmong lane (rank + 1)) (earlier first (Some c))) (sym same)
    (first_joined (Meets p places lane) (StandsApart p places lane) (IsAmong lane rank) (λ c. c ≡ cell_at lane rank) (IsAmong lane (rank + 1)) first (Some (cell_at lane rank))
    is (first_some (Meets p places lane) (StandsApart p places lane) (cell_at lane rank) meets) (among_more lane rank))

pub first_not_met : (p : Netlist) (places : List Place) (lane : List CellId) (rank : ℕ) (first : Option CellId)
    → IsFirst (Meets p places lane) (StandsApart p places lane) (IsAmong lane rank) first → StandsApart p places lane (cell_at lane rank)
    → IsFirst (Meets p places lane) (StandsApart p places lane) (IsAmong lane (rank + 1)) first
first_not_met p places lane rank first is apart =
    first_kept (Meets p places lane) (StandsApart p places lane) (IsAmong lane rank) (λ c. c ≡ cell_at lane rank) (IsAmong lane (rank + 1)) first is
    (λ c same. subst (StandsApart p places lane) (sym same) apart) (among_more lane rank)

-- one more lane is seen
lane_found : (p : Netlist) (places : List Place) (lanes : LaneList) (row : ℕ) (found : Option CellId) → row < length lanes
    → IsFirst (Meets p places (get_or lanes row [])) (StandsApart p places (get_or lanes row [])) (IsAmong (get_or lanes row []) (length (get_or lanes row []))) found
    → IsFirst (MeetsOn p places lanes) (IsApartOn p places lanes) (IsAmong (get_or lanes row []) (length (get_or lanes row []))) found
lane_found p places lanes row found below is =
    first_weaker (Meets p places (get_or lanes row [])) (StandsApart p places (get_or lanes row [])) (IsAmong (get_or lanes row []) (length (get_or lanes row [])))
    (MeetsOn p places lanes) (IsApartOn p places lanes) (IsAmong (get_or lanes row []) (length (get_or lanes row []))) found is
    (λ cell meets. record { number = row; within = below; meets = meets })
    (λ cell among. among)
    (λ cell among apart. record { number = row; within = below; among = among; apart = apart })

lanes_more : (lanes : LaneList) (row : ℕ) (cell : CellId) → IsAmongLanes lanes (row + 1) cell
    → IsAmongLanes lanes row cell ⊎ IsAmong (get_or lanes row []) (length (get_or lanes row [])) cell
lanes_more lanes row cell among = by (cases_lt among.0 row)
  where
    by : (among.0 < row) ⊎ (row ≤ among.0) → IsAmongLanes lanes row cell ⊎ IsAmong (get_or lanes row []) (length (get_or lanes row [])) cell
    by (inl before) = inl (among.0, before, among.2)
    by (inr last) =
        let below = among.1 in
        let same : among.0 ≡ row = omega (arith, last, below) in
        inr (subst (λ n. IsAmong (get_or lanes n []) (length (get_or lanes n [])) cell) same among.2)

pub lane_joined : (p : Netlist) (places : List Place) (lanes : LaneList) (row : ℕ) (lane : List CellId) (first found : Option CellId) → slice_get lanes row ≡ Some lane
    → IsFirst (MeetsOn p places lanes) (IsApartOn p places lanes) (IsAmongLanes lanes row) first
    → IsFirst (Meets p places lane) (StandsApart p places lane) (IsAmong lane (length lane)) found
    → IsFirst (MeetsOn p places lanes) (IsApartOn p places lanes) (IsAmongLanes lanes (row + 1)) (earlier first found)
lane_joined p places lanes row lane first found there is also =
    let same : lane ≡ get_or lanes row [] = sym (get_or_from_slice_get lanes row lane [] there) in
    first_joined (MeetsOn p places lanes) (IsApartOn p places lanes) (IsAmongLanes lanes row) (IsAmong (get_or lanes row []) (length (get_or lanes row []))) (IsAmongLanes lanes (row + 1))
    first found is
    (lane_found p places lanes row found (slice_get_within lanes row lane there)
    (subst (λ (l : List CellId). IsFirst (Meets p places l) (StandsApart p places l) (IsAmong l (length l)) found) same also))
    (lanes_more lanes row)

-- what a test of two numbers says
pub less_told : (a b : ℤ) → lt_z a b ≡ true → a <ℤ b
less_told a b e = grind (arith, ints)

pub not_less_told : (a b : ℤ) → lt_z a b ≡ false → b ≤ℤ a
not_less_told a b e = grind (arith, ints)
