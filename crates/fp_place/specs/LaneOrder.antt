-- Cells in order of x, in the lanes of their segments.
use Rattle.std.specs.Prelude.{◌≡◌, ◌≢◌, ℕ, ◌<◌, Bool, ◌&&◌, nat_eq, List, [], ◌∷◌, ◌++◌, length, map, All, AllPairs, Contains, filter, replicate, set, get_or, IsTrue, Some, slice_get, ℤ, ◌≤ℤ◌}
use Rattle.fp_base.specs.declared.ids.CellId.{CellId}
use Rattle.fp_base.specs.declared.ids.Die.{Die}
use Rattle.fp_base.specs.declared.ids.Die.TheVariants.{Top, Bottom}
use Rattle.fp_tech.specs.declared.dies.Segment.{Segment}
use Rattle.fp_tech.specs.Plan.{Plan, segments}
use Rattle.fp_netlist.specs.Netlist.{Netlist}
use Rattle.fp_netlist.specs.Points.{width}
use Rattle.fp_place.specs.declared.lined.Lined.{Lined}
use Rattle.fp_place.specs.Places.{Place, place_at, same_die}
use Rattle.fp_place.specs.Areas.{fits}
use Rattle.fp_place.specs.Legal.{StandsIn}
use Rattle.fp_place.specs.Placed.{LaneList, lanes_on, entry_at, StandOnce}

-- the cells of entries that each are an x and a cell
abbrev pub cells_alone : List (ℤ × ℕ) → List CellId
cells_alone entries = map (λ entry. record { 0 = entry.1 }) entries

-- the cells of places, each once, in order of x
pub record AreByX (places : List Place) (order : List CellId) : Type 0 where
  pub within : All (λ cell. cell.0 < length places) order
  pub there : (cell : ℕ) → cell < length places → Contains order (record { 0 = cell })
  pub apart : AllPairs (λ a b. a.0 ≢ b.0) order
  pub rising : AllPairs (λ a b. (place_at places a.0).x ≤ℤ (place_at places b.0).x) order

-- no cell stands on any segment
pub record AreEmptyOn (plan : Plan) (lined : Lined) : Type 0 where
  pub top_is : lined.top ≡ replicate (length (segments plan Top)) []
  pub bottom_is : lined.bottom ≡ replicate (length (segments plan Bottom)) []

abbrev pub with_last : LaneList → ℕ → CellId → LaneList
with_last lanes number cell = set lanes number (get_or lanes number [] ++ cell ∷ [])

-- one more cell at the end of a lane
abbrev pub pushed : Lined → Die → ℕ → CellId → Lined
pushed lined Top number cell = record lined { top = with_last lined.top number cell }
pushed lined Bottom number cell = record lined { bottom = with_last lined.bottom number cell }

-- a cell stands on the segment of this number of a die
abbrev pub is_of : List Place → List ℕ → Die → ℕ → CellId → Bool
is_of places numbers die number cell = same_die (place_at places cell.0).die die && nat_eq (get_or numbers cell.0 0) number

-- the lanes hold these cells, each on its own segment, in their order
pub record HoldInOrder (p : Netlist) (places : List Place) (numbers : List ℕ) (cells : List CellId) (top bottom : LaneList) : Type 0 where
  pub top_lanes : length top ≡ length (segments p.plan Top)
  pub bottom_lanes : length bottom ≡ length (segments p.plan Bottom)
  pub lanes : (die : Die) (number : ℕ) → number < length (segments p.plan die)
      → get_or (lanes_on top bottom die) number [] ≡ filter (is_of places numbers die number) cells

-- a cell stands on a segment of a die, and fits it
pub record IsOnLane (p : Netlist) (places : List Place) (die : Die) (number cell : ℕ) : Type 0 where
  pub die_is : (place_at places cell).die ≡ die
  pub segment : Segment
  pub there : slice_get (segments p.plan die) number ≡ Some segment
  pub stands : StandsIn segment (width p cell die) (place_at places cell)
  pub fitting : IsTrue (fits p cell die)

-- the lanes hold each cell once, on a segment where it stands, in order of x
pub record AreRanked (p : Netlist) (places : List Place) (top bottom : LaneList) : Type 0 where
  pub top_lanes : length top ≡ length (segments p.plan Top)
  pub bottom_lanes : length bottom ≡ length (segments p.plan Bottom)
  pub once : StandOnce (length p.cells) top bottom
  pub on_lane : (die : Die) (number rank : ℕ) (cell : CellId) → entry_at (lanes_on top bottom die) number rank ≡ Some cell → IsOnLane p places die number cell.0
  pub rising : (die : Die) (number : ℕ) (lane : List CellId) → slice_get (lanes_on top bottom die) number ≡ Some lane
      → AllPairs (λ a b. (place_at places a.0).x ≤ℤ (place_at places b.0).x) lane
