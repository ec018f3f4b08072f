-- The lanes of a die, each of which can be placed on its segment, and trials that show them placed where they cost the least.
use Rattle.std.specs.Prelude.{◌≡◌, ℕ, ◌<◌, List, length, map, All, slice_get, Some, ◌+ℤ◌}
use Rattle.fp_base.specs.declared.ids.CellId.{CellId}
use Rattle.fp_base.specs.declared.ids.Die.{Die}
use Rattle.fp_base.specs.declared.ids.Point.{Point}
use Rattle.fp_tech.specs.declared.dies.Segment.{Segment}
use Rattle.fp_tech.specs.Plan.{segments}
use Rattle.fp_netlist.specs.Netlist.{Netlist}
use Rattle.fp_place.specs.Placed.{LaneList}
use Rattle.fp_rows.specs.Squares.{IsRow}
use Rattle.fp_cert.specs.RowsLaws.{cell_for}
use Rattle.fp_cert.specs.Shown.{ShownRow, ShownTrial}
use Rattle.fp_flow.specs.Rows.{IsBestRow}
use Rattle.fp_flow.specs.Still.{with_rows}

-- the cells of a lane are of the problem, and a row that the segment has room for
pub record CanPlace (p : Netlist) (die : Die) (segment : Segment) (targets : List Point) (lane : List CellId) : Type 0 where
  pub within : All (λ cell. cell.0 < length p.cells) lane
  pub row : IsRow (map (cell_for p die targets) lane) segment.start (segment.start +ℤ segment.length)

abbrev pub CanPlaceAll : Netlist → Die → List Point → LaneList → Type 0
CanPlaceAll p die targets lanes = (number : ℕ) (segment : Segment) (lane : List CellId)
    → slice_get (segments p.plan die) number ≡ Some segment → slice_get lanes number ≡ Some lane → CanPlace p die segment targets lane

-- a trial with more rows of a die: those of the first lanes, each the best
pub record AddsBestRows (p : Netlist) (die : Die) (lanes : LaneList) (count : ℕ) (targets : List Point) (old new : ShownTrial) : Type 0 where
  pub rows : List ShownRow
  pub new_is : new ≡ with_rows old die rows
  pub many : length rows ≡ count
  pub each : (number : ℕ) (segment : Segment) (lane : List CellId) (row : ShownRow) → slice_get (segments p.plan die) number ≡ Some segment
      → slice_get lanes number ≡ Some lane → slice_get rows number ≡ Some row → IsBestRow p die segment lane targets row
