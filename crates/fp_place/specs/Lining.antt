-- Cells that are lined up on their segments.
use Rattle.std.specs.Prelude.{◌≡◌, ℕ, ◌<◌, List, length, IsTrue, Some, get_or, slice_get, Result, Ok, Err, ◌+ℤ◌}
use Rattle.fp_base.specs.declared.ids.CellId.{CellId}
use Rattle.fp_base.specs.declared.ids.Die.{Die}
use Rattle.fp_base.specs.declared.ids.Die.TheVariants.{Top, Bottom}
use Rattle.fp_tech.specs.declared.dies.Segment.{Segment}
use Rattle.fp_tech.specs.Plan.{segments}
use Rattle.fp_netlist.specs.Netlist.{Netlist}
use Rattle.fp_netlist.specs.Points.{width}
use Rattle.fp_place.specs.declared.lined.Lined.{Lined}
use Rattle.fp_place.specs.Places.{Place, place_at}
use Rattle.fp_place.specs.Areas.{fits}
use Rattle.fp_place.specs.Legal.{StandsIn, IsClear}
use Rattle.fp_place.specs.Placed.{LaneList, lanes_on, entry_at, StandOnce, StandBetween}

-- a cell stands on the segment of its number, and fits its die
pub record IsOnSegment (p : Netlist) (places : List Place) (numbers : List ℕ) (cell : ℕ) : Type 0 where
  pub segment : Segment
  pub there : slice_get (segments p.plan (place_at places cell).die) (get_or numbers cell 0) ≡ Some segment
  pub stands : StandsIn segment (width p cell (place_at places cell).die) (place_at places cell)
  pub fitting : IsTrue (fits p cell (place_at places cell).die)

-- the lanes hold each cell once, on its own segment, in order of x
pub record AreLined (p : Netlist) (places : List Place) (numbers : List ℕ) (top bottom : LaneList) : Type 0 where
  pub top_lanes : length top ≡ length (segments p.plan Top)
  pub bottom_lanes : length bottom ≡ length (segments p.plan Bottom)
  pub once : StandOnce (length p.cells) top bottom
  pub own_die : (die : Die) (segment rank : ℕ) (cell : CellId) → entry_at (lanes_on top bottom die) segment rank ≡ Some cell → (place_at places cell.0).die ≡ die
  pub own_segment : (die : Die) (segment rank : ℕ) (cell : CellId) → entry_at (lanes_on top bottom die) segment rank ≡ Some cell → get_or numbers cell.0 0 ≡ segment
  pub in_order : (die : Die) (number : ℕ) (segment : Segment) (lane : List CellId) → slice_get (segments p.plan die) number ≡ Some segment
      → slice_get (lanes_on top bottom die) number ≡ Some lane → StandBetween p die places segment.start (segment.start +ℤ segment.length) lane

-- all cells are clear and lined up, or the first that overlaps some other
abbrev pub LinesUp : Netlist → List Place → List ℕ → Result Lined CellId → Type 0
LinesUp p places numbers (Ok lined) = ((cell : ℕ) → cell < length p.cells → IsClear p places cell) × AreLined p places numbers lined.top lined.bottom
LinesUp p places numbers (Err cell) = (cell.0 < length p.cells) × (IsClear p places cell.0 → ⊥) × ((before : ℕ) → before < cell.0 → IsClear p places before)
