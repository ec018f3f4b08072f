use Rattle.fp_rows.specs.SeenLaws.{IsShownFrom}
use Rattle.fp_absrow.specs.ConvexCells.{width_of, rise_of}
use Rattle.fp_absrow.proofs.shown.are_duals.Given as goal

abbrev pub invariant-loop-cell : goal.invariant-loop-cell
invariant-loop-cell g l = IsShownFrom width_of rise_of (g.C.RowCost.cells_of l.costs) l.lo l.hi l.xs l.duals l.cell l.from
