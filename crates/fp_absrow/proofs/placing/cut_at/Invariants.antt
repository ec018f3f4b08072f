use Rattle.fp_absrow.specs.Spans.{some_cells}
use Rattle.fp_absrow.proofs.Cutting.{IsCutting}
use Rattle.fp_absrow.proofs.placing.cut_at.Given as goal

abbrev pub invariant-loop-i : goal.invariant-loop-i
invariant-loop-i g l = IsCutting (some_cells l.first l.count (g.C.RowCost.cells_of l.costs)) l.position l.i l.cut l.excess l.at
