-- A placement that stands as another does, in order, with its own places as targets.
use Rattle.std.proofs.Common.{◌≡◌, ℕ, ◌+◌, ◌<◌, ◌≤◌, false, List, length, map, drop, get_or, slice_get, Some, ℤ, pos, ◌+ℤ◌, ◌≤ℤ◌, sym, ap, subst, ◌∙◌, arith}
use Rattle.std.specs.Prelude.{All, IsTrue, ◌↔◌}
use Rattle.std.proofs.Math.ListN.{get_or-map}
use Rattle.std.proofs.lemmas.Int.{ints}
use Rattle.std.proofs.lemmas.List.{drop_more, drop_all, ext_get_or, length-map}
use Rattle.std.proofs.lemmas.Option.{slice_get-get_or, get_or_from_slice_get}
use lib.Signed.{le_z, lt_z}
use Rattle.fp_base.specs.declared.ids.CellId.{CellId}
use Rattle.fp_base.specs.declared.ids.Die.{Die}
use Rattle.fp_base.specs.declared.ids.Point.{Point}
use Rattle.fp_netlist.specs.Netlist.{Netlist}
use Rattle.fp_netlist.specs.Points.{width}
use Rattle.fp_place.specs.declared.placement.Spot.{Spot}
use Rattle.fp_place.specs.Places.{Place, nowhere, place_at}
use Rattle.fp_place.specs.Placed.{Placed, no_spot, spot_at, place_of, places_of, lanes_of, DoAgree, StandBetween, IsPlacementOf}
use Rattle.fp_place.specs.PlacedLaws.{entry_on}
use Rattle.fp_score.specs.Pick.{point_at}
use Rattle.fp_score.specs.Score.{corner}
use Rattle.fp_check.specs.Seeds.{StandAlike}

-- two spots that are read are those of a cell
pub alike_read : (seed placed : Placed) (cell : ℕ) (from to : Spot) → slice_get seed.spots cell ≡ Some from → slice_get placed.spots cell ≡ Some to
    → StandAlike seed placed cell ↔ ((to.die ≡ from.die) × (to.segment ≡ from.segment) × (to.x ≡ from.x))
alike_read seed placed cell from to at also =
    let first : spot_at seed.spots cell ≡ from = get_or_from_slice_get seed.spots cell from no_spot at in
    let second : spot_at placed.spots cell ≡ to = get_or_from_slice_get placed.spots cell to no_spot also in (
      λ is. (
        sym (ap (λ (spot : Spot). spot.die) second) ∙ is.die_is ∙ ap (λ (spot : Spot). spot.die) first,
        sym (ap (λ (spot : Spot). spot.segment) second) ∙ is.segment_is ∙ ap (λ (spot : Spot). spot.segment) first,
        sym (ap (λ (spot : Spot). spot.x) second) ∙ is.x_is ∙ ap (λ (spot : Spot). spot.x) first,
      ),
      λ is. record {
        die_is = ap (λ (spot : Spot). spot.die) second ∙ is.0 ∙ sym (ap (λ (spot : Spot). spot.die) first);
        segment_is = ap (λ (spot : Spot). spot.segment) second ∙ is.1 ∙ sym (ap (λ (spot : Spot). spot.segment) first);
        x_is = ap (λ (spot : Spot). spot.x) second ∙ is.2 ∙ sym (ap (λ (spot : Spot). spot.x) first);
      },
    )

-- a spot that is read is where its cell's place is
pub corner_read : (placed : Placed) (cell : ℕ) (spot : Spot) → slice_get placed.spots cell ≡ Some spot → corner (place_of spot) ≡ corner (place_at (places_of placed) cell)
corner_read placed cell spot at =
    ap corner (sym (get_or-map place_of placed.spots cell no_spot ∙ ap place_of (get_or_from_slice_get placed.spots cell spot no_spot at)))

-- the corners of places, cell by cell
pub corner_at : (placed : Placed) (cell : ℕ) → point_at (map corner (places_of placed)) cell ≡ corner (place_at (places_of placed) cell)
corner_at placed cell = get_or-map corner (places_of placed) cell nowhere

pub corners_are : (p : Netlist) (placed : Placed) (targets : List Point) → IsPlacementOf p placed → length targets ≡ length p.cells
    → ((cell : ℕ) → cell < length p.cells → point_at targets cell ≡ corner (place_at (places_of placed) cell)) → targets ≡ map corner (places_of placed)
corners_are p placed targets is many each =
    ext_get_or (record { x = pos 0; y = pos 0 }) targets (map corner (places_of placed))
    (many ∙ sym (length-map (places_of placed) corner ∙ length-map placed.spots place_of ∙ is.cells))
    (λ cell below. each cell (omega (arith, below, many)) ∙ sym (corner_at placed cell))

-- ---- a lane in order

-- where a cell starts at or behind an end, the lane from it on stands as the lane behind it does from its own end
pub stands_next : (p : Netlist) (die : Die) (places : List Place) (lane : List CellId) (i : ℕ) (d : CellId) (from to : ℤ) → i < length lane
    → from ≤ℤ (place_at places (get_or lane i d).0).x → StandBetween p die places from to (drop i lane)
    ↔ StandBetween p die places ((place_at places (get_or lane i d).0).x +ℤ pos (width p (get_or lane i d).0 die)) to (drop (i + 1) lane)
stands_next p die places lane i d from to below starts =
    let same = drop_more lane i d below in (
      λ all. (subst (λ (list : List CellId). StandBetween p die places from to list) same all).1,
      λ rest. subst (λ (list : List CellId). StandBetween p die places from to list) (sym same) (starts, rest),
    )

-- behind the last cell what is left to show is that the end so far is within the segment
pub stands_last : (p : Netlist) (die : Die) (places : List Place) (lane : List CellId) (i : ℕ) (from to : ℤ) → length lane ≤ i
    → StandBetween p die places from to (drop i lane) ↔ (from ≤ℤ to)
stands_last p die places lane i from to past =
    let none = drop_all i lane past in (
      λ all. subst (λ (list : List CellId). StandBetween p die places from to list) none all,
      λ ends. subst (λ (list : List CellId). StandBetween p die places from to list) (sym none) ends,
    )

pub at_most_told : (a b : ℤ) → IsTrue (le_z a b) ↔ (a ≤ℤ b)
at_most_told a b = (λ e. grind (arith, ints), λ less. grind (arith, ints))

pub not_below_told : (a b : ℤ) → lt_z a b ≡ false → b ≤ℤ a
not_below_told a b e = grind (arith, ints)

-- the cells of a placement's lane are the problem's
pub lane_within : (p : Netlist) (placed : Placed) (die : Die) (number : ℕ) (lane : List CellId) → IsPlacementOf p placed → DoAgree placed
    → slice_get (lanes_of placed die) number ≡ Some lane → All (λ cell. cell.0 < length p.cells) lane
lane_within p placed die number lane is agree there k d below =
    let entry = entry_on (lanes_of placed die) number k lane there ∙ slice_get-get_or lane k d below in
    omega (arith, agree.within die number k (get_or lane k d) entry, is.cells)
