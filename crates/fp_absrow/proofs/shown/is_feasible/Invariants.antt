use Rattle.fp_rows.specs.SeenLaws.{IsFrom}
use Rattle.fp_absrow.specs.ConvexCells.{width_of}
use Rattle.fp_absrow.proofs.shown.is_feasible.Given as goal

abbrev pub invariant-loop-cell : goal.invariant-loop-cell
invariant-loop-cell g l = IsFrom width_of (g.C.RowCost.cells_of l.costs) l.lo l.hi l.xs l.cell l.from
