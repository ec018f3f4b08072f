use Rattle.fp_rows.specs.NeedsLaws.{IsNeeded}
use Rattle.fp_absrow.specs.ConvexCells.{rise_of}
use Rattle.fp_absrow.proofs.duals.set_needs.Given as goal

abbrev pub invariant-loop-cell : goal.invariant-loop-cell
invariant-loop-cell g l = IsNeeded rise_of (g.C.RowCost.cells_of l.costs) l.xs l.duals l.cell
