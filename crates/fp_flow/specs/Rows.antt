-- A lane whose cells are placed where they cost the least, and shown so.
use Rattle.std.specs.Prelude.{◌≡◌, ℕ, ◌+◌, ◌≤◌, ◌^◌, List, length, map, All, get_or, slice_get, Some, ℤ, pos, ◌+ℤ◌}
use Rattle.std.specs.List.{range_with_len}
use Rattle.fp_base.specs.declared.ids.CellId.{CellId}
use Rattle.fp_base.specs.declared.ids.Die.{Die}
use Rattle.fp_base.specs.declared.ids.Point.{Point}
use Rattle.fp_tech.specs.declared.dies.Segment.{Segment}
use Rattle.fp_netlist.specs.Netlist.{Netlist}
use Rattle.fp_rows.specs.declared.RowCell.{RowCell}
use Rattle.fp_rows.specs.Squares.{IsBest, AreDuals}
use Rattle.fp_score.specs.Pick.{point_at}
use Rattle.fp_cert.specs.declared.shown.CellShown.{CellShown}
use Rattle.fp_cert.specs.Shown.{ShownRow, ShownTrial, with_row}
use Rattle.fp_cert.specs.Standing.{lane_shown}
use Rattle.fp_cert.specs.Trials.{row_cells, row_xs, IsRowBest}
use Rattle.fp_cert.specs.Certified.{row_duals}

-- positions and duals of a row's cells, which are the best and show it
pub record IsPlacedRow (cells : List RowCell) (lo hi : ℤ) (xs : List ℤ) (duals : List ℕ) : Type 0 where
  pub many : length xs ≡ length cells
  pub many_duals : length duals ≡ length cells + 1
  pub best : IsBest cells lo hi xs
  pub shown : AreDuals cells lo hi xs duals
  pub small : All (λ dual. dual ≤ 2 ^ 57) duals

abbrev pub no_cell : CellId
no_cell = record { 0 = 0 }

-- the line of the cell of a rank
abbrev pub line_of : List CellId → List Point → List ℤ → List ℕ → ℕ → CellShown
line_of lane targets xs duals rank = record {
  cell = get_or lane rank no_cell;
  x = get_or xs rank (pos 0);
  target = point_at targets (get_or lane rank no_cell).0;
  dual = get_or duals (rank + 1) 0;
}

abbrev pub placed_row : List CellId → List Point → List ℤ → List ℕ → ShownRow
placed_row lane targets xs duals = record { first = get_or duals 0 0; cells = map (line_of lane targets xs duals) (range_with_len 0 (length lane)) }

-- a row shows a lane with its targets, and its positions and duals are the best and show it
pub record IsBestRow (p : Netlist) (die : Die) (segment : Segment) (lane : List CellId) (targets : List Point) (row : ShownRow) : Type 0 where
  pub lane_is : lane_shown row ≡ lane
  pub targets_are : (rank : ℕ) (cell : CellShown) → slice_get row.cells rank ≡ Some cell → cell.target ≡ point_at targets cell.cell.0
  pub best : IsRowBest p die segment row
  pub duals : AreDuals (row_cells p die row) segment.start (segment.start +ℤ segment.length) (row_xs row) (row_duals row)
  pub small : All (λ dual. dual ≤ 2 ^ 57) (row_duals row)

-- a trial with one more row of a die, which is such
pub record AddsBestRow (p : Netlist) (die : Die) (segment : Segment) (lane : List CellId) (targets : List Point) (old new : ShownTrial) : Type 0 where
  pub row : ShownRow
  pub new_is : new ≡ with_row old die row
  pub is_best : IsBestRow p die segment lane targets row
