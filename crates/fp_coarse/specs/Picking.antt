-- What a pick answers.
use Rattle.std.specs.Prelude.{◌≡◌, ℕ, ◌<◌, List, [], length, get_or, set, Option, Some, Result, Ok, Err, IsTrue, ℤ, pos, ◌-ℤ◌, ◌≤ℤ◌}
use Rattle.std.specs.List.{sum_by}
use Rattle.fp_base.specs.declared.ids.CellId.{CellId}
use Rattle.fp_base.specs.declared.ids.Die.{Die}
use Rattle.fp_base.specs.declared.ids.Point.{Point}
use Rattle.fp_tech.specs.Plan.{segments}
use Rattle.fp_netlist.specs.Netlist.{Netlist}
use Rattle.fp_netlist.specs.Points.{width}
use Rattle.fp_place.specs.Areas.{fits}
use Rattle.fp_place.specs.Places.{die_at}
use Rattle.fp_place.specs.Placed.{LaneList, lanes_on, entry_at, StandOnce}
use Rattle.fp_score.specs.FirstFit.{segment_at}
use Rattle.fp_score.specs.Pick.{Taken, taken_width, pick_on, taken_by, lanes_by, picked, point_at}
use Rattle.fp_coarse.specs.declared.picking.Picked.{Picked}
use Rattle.fp_coarse.specs.declared.picking.Picked.TheVariants.{Rows, NoRow}
use Rattle.fp_coarse.specs.declared.order.Choice.{Choice}
use Rattle.fp_coarse.specs.Rooms.{has_free}
use Rattle.fp_coarse.specs.Nearest.{IsNearPoint, IsLeastOrNone, cost_at}
use Rattle.fp_coarse.specs.Orders.{numbers_of}

-- one die and one target for each cell; each cell fits its die, and targets are within 2^32 of 0
pub record CanPick (p : Netlist) (dies : List Die) (targets : List Point) : Type 0 where
  pub dies_long : length dies ≡ length p.cells
  pub targets_long : length targets ≡ length p.cells
  pub fitting : (cell : ℕ) → cell < length p.cells → IsTrue (fits p cell (die_at dies cell))
  pub near : (cell : ℕ) → cell < length p.cells → IsNearPoint (point_at targets cell)

-- a target for each cell, in range
pub record AreNear (p : Netlist) (targets : List Point) : Type 0 where
  pub long : length targets ≡ length p.cells
  pub near : (cell : ℕ) → cell < length p.cells → IsNearPoint (point_at targets cell)

-- the answer is the pick
abbrev pub IsPicked : Netlist → List Die → List Point → Picked → Type 0
IsPicked p dies targets (Rows top bottom) = picked p dies targets ≡ Ok (record { top = top; bottom = bottom })
IsPicked p dies targets (NoRow cell) = picked p dies targets ≡ Err cell.0

-- a cell of the problem that took a segment of a die
pub record IsChoice (p : Netlist) (die : Die) (choice : Choice) : Type 0 where
  pub cell : choice.cell.0 < length p.cells
  pub segment : choice.segment < length (segments p.plan die)

-- of the segments with room for a cell, the first to which it is moved least, or none where none has room
abbrev pub IsNearest : Netlist → List Point → Die → List ℤ → ℕ → Option ℕ → Type 0
IsNearest p targets die free cell found =
    IsLeastOrNone (has_free free (pos (width p cell die))) (cost_at (segments p.plan die) (pos (width p cell die)) (point_at targets cell)) 0 (length (segments p.plan die)) found

-- a segment's free length falls by a width
abbrev pub lowered : List ℤ → ℕ → ℕ → List ℤ
lowered free segment by = set free segment (get_or free segment (pos 0) -ℤ pos by)

-- free lengths are what is left by those that took segments
pub record AreLeft (p : Netlist) (die : Die) (taken : List Taken) (free : List ℤ) : Type 0 where
  pub many : length free ≡ length (segments p.plan die)
  pub low : (number : ℕ) → pos 0 ≤ℤ get_or free number (pos 0)
  pub left : (number : ℕ) → number < length (segments p.plan die)
      → get_or free number (pos 0) ≡ (segment_at p.plan die number).length -ℤ pos (taken_width p die number taken)

-- what cells of a die take, one after the other
abbrev pub taken_in : Netlist → List Point → Die → List CellId → Result (List Taken) ℕ
taken_in p targets die order = taken_by p die targets [] (numbers_of order)

-- a die's lanes, or the cell that finds no segment
abbrev pub PicksOn : Netlist → List Die → List Point → Die → Result LaneList CellId → Type 0
PicksOn p dies targets die (Ok lanes) = (taken : List Taken) × (pick_on p dies targets die ≡ Ok taken) × (lanes ≡ lanes_by p die targets taken)
PicksOn p dies targets die (Err cell) = pick_on p dies targets die ≡ Err cell.0

-- the widths of a lane's cells
abbrev pub lane_width : Netlist → Die → List CellId → ℕ
lane_width p die lane = sum_by (λ cell. width p cell.0 die) lane

-- the lanes hold each cell once, on its own die, a lane for each segment, and each segment has room for its lane
pub record HoldAll (p : Netlist) (dies : List Die) (top bottom : LaneList) : Type 0 where
  pub once : StandOnce (length p.cells) top bottom
  pub lanes : (die : Die) → length (lanes_on top bottom die) ≡ length (segments p.plan die)
  pub own_die : (die : Die) (segment rank : ℕ) (cell : CellId) → entry_at (lanes_on top bottom die) segment rank ≡ Some cell → die_at dies cell.0 ≡ die
  pub fits : (die : Die) (segment : ℕ) → segment < length (segments p.plan die)
      → pos (lane_width p die (get_or (lanes_on top bottom die) segment [])) ≤ℤ (segment_at p.plan die segment).length

abbrev pub HoldsAll : Netlist → List Die → Picked → Type 0
HoldsAll p dies (Rows top bottom) = HoldAll p dies top bottom
HoldsAll p dies (NoRow cell) = cell.0 < length p.cells
