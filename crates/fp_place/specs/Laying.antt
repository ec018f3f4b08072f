-- How the cells of a die's lanes get their spots, one after the other.
use Rattle.std.specs.Prelude.{◌≡◌, ℕ, ◌<◌, List, length, Some, slice_get, get_or, ℤ, pos}
use Rattle.fp_base.specs.declared.ids.Die.{Die}
use Rattle.fp_base.specs.declared.ids.CellId.{CellId}
use Rattle.fp_tech.specs.declared.dies.Segment.{Segment}
use Rattle.fp_tech.specs.Plan.{Plan, segments}
use Rattle.fp_place.specs.declared.placement.Spot.{Spot}
use Rattle.fp_place.specs.Placed.{LaneList, lanes_on, entry_at, spot_at}

abbrev pub x_at : List ℤ → ℕ → ℤ
x_at xs cell = get_or xs cell (pos 0)

-- a cell stands at most once on a lane
abbrev pub StandApart : List CellId → Type 0
StandApart lane = (r s : ℕ) (cell : CellId) → slice_get lane r ≡ Some cell → slice_get lane s ≡ Some cell → r ≡ s

-- each of so many cells stands at most once over the lanes of a die, and nothing else does
pub record AreApart (cells : ℕ) (lanes : LaneList) : Type 0 where
  pub within : (segment rank : ℕ) (cell : CellId) → entry_at lanes segment rank ≡ Some cell → cell.0 < cells
  pub one_segment : (i j r s : ℕ) (cell : CellId) → entry_at lanes i r ≡ Some cell → entry_at lanes j s ≡ Some cell → i ≡ j
  pub one_rank : (i j r s : ℕ) (cell : CellId) → entry_at lanes i r ≡ Some cell → entry_at lanes j s ≡ Some cell → r ≡ s

-- the first cells of a lane have their spots, and the spots of all other cells stay
pub record IsLaneLaid (die : Die) (segment : ℕ) (y : ℤ) (xs : List ℤ) (lane : List CellId) (count : ℕ) (old new : List Spot) : Type 0 where
  pub many : length new ≡ length old
  pub laid : (rank : ℕ) (cell : CellId) → rank < count → slice_get lane rank ≡ Some cell
      → spot_at new cell.0 ≡ record { die = die; segment = segment; rank = rank; x = x_at xs cell.0; y = y }
  pub others : (cell : ℕ) → ((rank : ℕ) → rank < count → slice_get lane rank ≡ Some (record { 0 = cell }) → ⊥) → spot_at new cell ≡ spot_at old cell

-- the cells of the first segments of a die have their spots, and the spots of all other cells stay
pub record AreLanesLaid (die : Die) (segments : List Segment) (xs : List ℤ) (lanes : LaneList) (count : ℕ) (old new : List Spot) : Type 0 where
  pub many : length new ≡ length old
  pub laid : (number rank : ℕ) (cell : CellId) (segment : Segment) → number < count → entry_at lanes number rank ≡ Some cell → slice_get segments number ≡ Some segment
      → spot_at new cell.0 ≡ record { die = die; segment = number; rank = rank; x = x_at xs cell.0; y = segment.y }
  pub others : (cell : ℕ) → ((number rank : ℕ) → number < count → entry_at lanes number rank ≡ Some (record { 0 = cell }) → ⊥) → spot_at new cell ≡ spot_at old cell

-- each cell of the lanes of both dies has its spot
pub record AreLaid (plan : Plan) (top bottom : LaneList) (xs : List ℤ) (spots : List Spot) : Type 0 where
  pub laid : (die : Die) (number rank : ℕ) (cell : CellId) (segment : Segment) → entry_at (lanes_on top bottom die) number rank ≡ Some cell → slice_get (segments plan die) number ≡ Some segment
      → spot_at spots cell.0 ≡ record { die = die; segment = number; rank = rank; x = x_at xs cell.0; y = segment.y }
