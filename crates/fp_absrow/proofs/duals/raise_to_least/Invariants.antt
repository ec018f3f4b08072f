use Rattle.fp_rows.specs.NeedsLaws.{IsRaising}
use Rattle.fp_absrow.specs.ConvexCells.{rise_of, most_of}
use Rattle.fp_absrow.proofs.duals.raise_to_least.Given as goal

abbrev pub invariant-loop-cell : goal.invariant-loop-cell
invariant-loop-cell g l = IsRaising rise_of most_of (g.C.RowCost.cells_of l.costs) l.xs l.duals l.cell l.spare
