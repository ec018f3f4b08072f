use Rattle.fp_rows.specs.RunsLaws.{IsPacking}
use Rattle.fp_absrow.specs.ConvexCells.{width_of}
use Rattle.fp_absrow.specs.Spans.{some_cells}
use Rattle.fp_absrow.proofs.placing.pack.Given as goal

abbrev pub invariant-loop-i : goal.invariant-loop-i
invariant-loop-i g l = IsPacking width_of (some_cells l.first l.count (g.C.RowCost.cells_of l.costs)) l.position l.initial.xs l.xs l.first l.i l.end
