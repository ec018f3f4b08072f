-- A placement: a spot for each cell, which names an entry of a lane; for each segment of a die its lane, the cells on it; and a terminal
-- or none for each net.
use Rattle.std.specs.Prelude.{◌≡◌, ℕ, ◌<◌, List, [], ◌∷◌, length, map, All, Option, Some, slice_get, get_or, ℤ, pos, ◌+ℤ◌, ◌≤ℤ◌, IfSome}
use Rattle.std.specs.Option.{option_and_then}
use Rattle.fp_base.specs.declared.ids.Die.{Die}
use Rattle.fp_base.specs.declared.ids.Die.TheVariants.{Top, Bottom}
use Rattle.fp_base.specs.declared.ids.CellId.{CellId}
use Rattle.fp_base.specs.declared.ids.Point.{Point}
use Rattle.fp_tech.specs.declared.dies.Segment.{Segment}
use Rattle.fp_tech.specs.Plan.{segments}
use Rattle.fp_netlist.specs.Netlist.{Netlist}
use Rattle.fp_netlist.specs.Points.{width}
use Rattle.fp_place.specs.declared.placement.Spot.{Spot}
use Rattle.fp_place.specs.Places.{Place, place_at}
use Rattle.fp_place.specs.Drawing.{Drawing, drawing_of, IsCoordinate}

-- the cells of each segment of a die
abbrev pub LaneList : Type 0
LaneList = List (List CellId)

pub record Placed : Type 0 where
  pub spots : List Spot
  pub top : LaneList
  pub bottom : LaneList
  pub terminals : List (Option Point)

abbrev pub no_spot : Spot
no_spot = record { die = Top; segment = 0; rank = 0; x = pos 0; y = pos 0 }

abbrev pub spot_at : List Spot → ℕ → Spot
spot_at spots cell = get_or spots cell no_spot

abbrev pub lanes_on : LaneList → LaneList → Die → LaneList
lanes_on top bottom Top = top
lanes_on top bottom Bottom = bottom

abbrev pub lanes_of : Placed → Die → LaneList
lanes_of placed die = lanes_on placed.top placed.bottom die

-- the cell of a rank on a segment, where there is one
unfoldable pub entry_at : LaneList → ℕ → ℕ → Option CellId
entry_at lanes segment rank = option_and_then (λ lane. slice_get lane rank) (slice_get lanes segment)

-- a spot stands at this entry of the lanes
pub record StandsAt (die : Die) (segment rank : ℕ) (spot : Spot) : Type 0 where
  pub die_is : spot.die ≡ die
  pub segment_is : spot.segment ≡ segment
  pub rank_is : spot.rank ≡ rank

-- each spot and its lane's entry name each other
pub record Agree (spots : List Spot) (top bottom : LaneList) : Type 0 where
  pub spot_named : (cell : ℕ) → cell < length spots
      → entry_at (lanes_on top bottom (spot_at spots cell).die) (spot_at spots cell).segment (spot_at spots cell).rank ≡ Some (record { 0 = cell })
  pub within : (die : Die) (segment rank : ℕ) (cell : CellId) → entry_at (lanes_on top bottom die) segment rank ≡ Some cell → cell.0 < length spots
  pub entry_named : (die : Die) (segment rank : ℕ) (cell : CellId) → entry_at (lanes_on top bottom die) segment rank ≡ Some cell
      → StandsAt die segment rank (spot_at spots cell.0)

abbrev pub DoAgree : Placed → Type 0
DoAgree placed = Agree placed.spots placed.top placed.bottom

-- each of so many cells stands exactly once over the lanes of both dies, and nothing else does
pub record StandOnce (cells : ℕ) (top bottom : LaneList) : Type 0 where
  pub there : (cell : ℕ) → cell < cells → (die : Die) × (segment : ℕ) × (rank : ℕ) × (entry_at (lanes_on top bottom die) segment rank ≡ Some (record { 0 = cell }))
  pub within : (die : Die) (segment rank : ℕ) (cell : CellId) → entry_at (lanes_on top bottom die) segment rank ≡ Some cell → cell.0 < cells
  pub one_die : (a b : Die) (i j r s : ℕ) (cell : CellId) → entry_at (lanes_on top bottom a) i r ≡ Some cell → entry_at (lanes_on top bottom b) j s ≡ Some cell → a ≡ b
  pub one_segment : (a b : Die) (i j r s : ℕ) (cell : CellId) → entry_at (lanes_on top bottom a) i r ≡ Some cell → entry_at (lanes_on top bottom b) j s ≡ Some cell → i ≡ j
  pub one_rank : (a b : Die) (i j r s : ℕ) (cell : CellId) → entry_at (lanes_on top bottom a) i r ≡ Some cell → entry_at (lanes_on top bottom b) j s ≡ Some cell → r ≡ s

-- where the cells stand
abbrev pub place_of : Spot → Place
place_of spot = record { die = spot.die; x = spot.x; y = spot.y }

abbrev pub places_of : Placed → List Place
places_of placed = map place_of placed.spots

-- a terminal's centre is in range
pub record IsCentre (centre : Point) : Type 0 where
  pub x : IsCoordinate centre.x
  pub y : IsCoordinate centre.y

-- a spot lies on its segment's row, at an x in range
pub record IsSpotOf (p : Netlist) (spot : Spot) : Type 0 where
  pub segment : Segment
  pub there : slice_get (segments p.plan spot.die) spot.segment ≡ Some segment
  pub row : spot.y ≡ segment.y
  pub x : IsCoordinate spot.x
  pub y : IsCoordinate spot.y

-- a placement is of a problem: a spot for each cell, a lane for each segment, a terminal or none for each net
pub record IsPlacementOf (p : Netlist) (placed : Placed) : Type 0 where
  pub cells : length placed.spots ≡ length p.cells
  pub nets : length placed.terminals ≡ length p.nets
  pub top_lanes : length placed.top ≡ length (segments p.plan Top)
  pub bottom_lanes : length placed.bottom ≡ length (segments p.plan Bottom)
  pub spots : All (IsSpotOf p) placed.spots
  pub centres : All (λ terminal. IfSome terminal IsCentre) placed.terminals

-- the drawing of a placement, in file order
abbrev pub drawn_of : Placed → Drawing
drawn_of placed = drawing_of (places_of placed) placed.terminals

-- cells stand between two ends in this order, each from where the one before ends
abbrev pub StandBetween : Netlist → Die → List Place → ℤ → ℤ → List CellId → Type 0
StandBetween p die places from to [] = from ≤ℤ to
StandBetween p die places from to (cell ∷ cells) =
    (from ≤ℤ (place_at places cell.0).x) × StandBetween p die places ((place_at places cell.0).x +ℤ pos (width p cell.0 die)) to cells

-- a placement is in order: on each segment each cell ends at or before the next one's x, all within the segment
abbrev pub IsInOrder : Netlist → Placed → Type 0
IsInOrder p placed = (die : Die) (number : ℕ) (segment : Segment) (lane : List CellId)
    → slice_get (segments p.plan die) number ≡ Some segment → slice_get (lanes_of placed die) number ≡ Some lane
    → StandBetween p die (places_of placed) segment.start (segment.start +ℤ segment.length) lane
