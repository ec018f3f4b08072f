-- The first cell that overlaps another of its lane.
use Rattle.std.specs.Prelude.{◌≡◌, ◌≢◌, ℕ, ◌<◌, ◌≤◌, ◌^◌, nat_lt, if◌then◌else◌, List, [], length, get_or, IfSome, Option, Some, None, ℤ, pos, ◌≤ℤ◌, ◌<ℤ◌}
use Rattle.fp_base.specs.declared.ids.CellId.{CellId}
use Rattle.fp_base.specs.declared.ids.Die.{Die}
use Rattle.fp_netlist.specs.Netlist.{Netlist}
use Rattle.fp_netlist.specs.Points.{width, height}
use Rattle.fp_place.specs.Places.{Place, place_at}
use Rattle.fp_place.specs.Legal.{Overlap, IsClear}
use Rattle.fp_place.specs.Placed.{LaneList}

-- the cell that stands for one that is not there
abbrev pub no_cell : CellId
no_cell = record { 0 = 0 }

abbrev pub cell_at : List CellId → ℕ → CellId
cell_at lane rank = get_or lane rank no_cell

-- a cell of a lane: its die, the row of all the lane's cells, and an x and a size in range
pub record IsOnRowAt (p : Netlist) (places : List Place) (die : Die) (y : ℤ) (cell : ℕ) : Type 0 where
  pub within : cell < length p.cells
  pub die_is : (place_at places cell).die ≡ die
  pub row : (place_at places cell).y ≡ y
  pub least : pos 0 ≤ℤ (place_at places cell).x
  pub most : (place_at places cell).x ≤ℤ pos (2 ^ 31)
  pub some_width : 1 ≤ width p cell die
  pub some_height : 1 ≤ height p cell die

-- cells on one row of a die, in order of x
pub record IsLane (p : Netlist) (places : List Place) (die : Die) (lane : List CellId) : Type 0 where
  pub y : ℤ
  pub cells : (rank : ℕ) → rank < length lane → IsOnRowAt p places die y (cell_at lane rank).0
  pub rising : (i j : ℕ) → i < j → j < length lane → (place_at places (cell_at lane i).0).x ≤ℤ (place_at places (cell_at lane j).0).x

pub record AreLanes (p : Netlist) (places : List Place) (die : Die) (lanes : LaneList) : Type 0 where
  pub few : length lanes ≤ 2 ^ 16
  pub each : (number : ℕ) → number < length lanes → IsLane p places die (get_or lanes number [])

-- a cell is one of the first of a lane
abbrev pub IsAmong : List CellId → ℕ → CellId → Type 0
IsAmong lane count cell = (rank : ℕ) × (rank < count) × (rank < length lane) × (cell_at lane rank ≡ cell)

-- a cell is in one of the first lanes
abbrev pub IsAmongLanes : LaneList → ℕ → CellId → Type 0
IsAmongLanes lanes count cell = (number : ℕ) × (number < count) × IsAmong (get_or lanes number []) (length (get_or lanes number [])) cell

-- a cell of a lane overlaps one of another rank
pub record Meets (p : Netlist) (places : List Place) (lane : List CellId) (cell : CellId) : Type 0 where
  pub rank : ℕ
  pub other : ℕ
  pub within : rank < length lane
  pub other_within : other < length lane
  pub here : cell_at lane rank ≡ cell
  pub apart : rank ≢ other
  pub over : Overlap p places cell.0 (cell_at lane other).0

-- a cell overlaps no other of a lane
abbrev pub StandsApart : Netlist → List Place → List CellId → CellId → Type 0
StandsApart p places lane cell = (other : ℕ) → other < length lane → (cell_at lane other).0 ≢ cell.0 → Overlap p places cell.0 (cell_at lane other).0 → ⊥

-- a cell overlaps another of its lane, over the lanes of a die
pub record MeetsOn (p : Netlist) (places : List Place) (lanes : LaneList) (cell : CellId) : Type 0 where
  pub number : ℕ
  pub within : number < length lanes
  pub meets : Meets p places (get_or lanes number []) cell

pub record IsApartOn (p : Netlist) (places : List Place) (lanes : LaneList) (cell : CellId) : Type 0 where
  pub number : ℕ
  pub within : number < length lanes
  pub among : IsAmong (get_or lanes number []) (length (get_or lanes number [])) cell
  pub apart : StandsApart p places (get_or lanes number []) cell

-- a lane's cell of a rank starts before an end, or does not
pub record IsCloseNext (places : List Place) (lane : List CellId) (rank : ℕ) (end : ℤ) : Type 0 where
  pub within : rank < length lane
  pub close : (place_at places (cell_at lane rank).0).x <ℤ end

abbrev pub IsFarNext : List Place → List CellId → ℕ → ℤ → Type 0
IsFarNext places lane rank end = rank < length lane → end ≤ℤ (place_at places (cell_at lane rank).0).x

-- the lesser of two cells, where there are any
abbrev pub earlier : Option CellId → Option CellId → Option CellId
earlier (Some one) (Some other) = Some (if nat_lt other.0 one.0 then other else one)
earlier (Some one) None = Some one
earlier None other = other

-- a number is less than that of a cell, if there is any
abbrev pub IsBefore : ℕ → Option CellId → Type 0
IsBefore number None = Unit {0}
IsBefore number (Some cell) = number < cell.0

-- a cell, if there is any, breaks a rule, and of those that were seen each that is less keeps it
pub record IsFirst (breaks keeps seen : CellId → Type 0) (first : Option CellId) : Type 0 where
  pub broken : IfSome first breaks
  pub kept : (cell : CellId) → seen cell → IsBefore cell.0 first → keeps cell

-- a cell that overlaps some other
abbrev pub OverlapsSome : Netlist → List Place → CellId → Type 0
OverlapsSome p places cell = (cell.0 < length p.cells) × (IsClear p places cell.0 → ⊥)
