-- The two measures of how far cells stand from their targets, as convex cells.
use Rattle.std.specs.Prelude.{◌^◌, ℤ, pos, negsuc, neg_ℤ, ◌-ℤ◌, ◌*ℤ◌, List, map, unsigned_abs}
use Rattle.fp_rows.specs.declared.RowCell.{RowCell}
use Rattle.fp_rows.specs.Squares.{squared_cost, squared_rise}
use Rattle.fp_rows.specs.LeastDuals.{above}
use Rattle.fp_absrow.specs.ConvexCells.{ConvexCell}

-- the weight times the distance from the target
unfoldable pub absolute_cost : RowCell → ℤ → ℤ
absolute_cost c x = c.weight *ℤ pos (unsigned_abs (x -ℤ c.target))

-- the weight from 0 on, and less it before
unfoldable pub turned : ℤ → ℤ → ℤ
turned weight (pos distance) = weight
turned weight (negsuc distance) = neg_ℤ weight

-- what the cost rises by from x to x + 1
unfoldable pub absolute_rise : RowCell → ℤ → ℤ
absolute_rise c x = turned c.weight (x -ℤ c.target)

unfoldable pub squared_cell : RowCell → ConvexCell
squared_cell c = record {
  width = c.width;
  cost = squared_cost c;
  rise = squared_rise c;
  most = above (c.weight *ℤ pos (2 ^ 35));
}

unfoldable pub absolute_cell : RowCell → ConvexCell
absolute_cell c = record {
  width = c.width;
  cost = absolute_cost c;
  rise = absolute_rise c;
  most = above c.weight;
}

abbrev pub squared_cells : List RowCell → List ConvexCell
squared_cells cells = map squared_cell cells

abbrev pub absolute_cells : List RowCell → List ConvexCell
absolute_cells cells = map absolute_cell cells
