use Rattle.fp_rows.specs.RunsLaws.{IsWide}
use Rattle.fp_absrow.specs.ConvexCells.{width_of}
use Rattle.fp_absrow.proofs.placing.width_of_all.Given as goal

abbrev pub invariant-loop-cell : goal.invariant-loop-cell
invariant-loop-cell g l = IsWide width_of (g.C.RowCost.cells_of l.costs) l.cell l.width
