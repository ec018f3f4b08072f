use Rattle.std.proofs.Common.{drop}
use Rattle.fp_absrow.proofs.Pending.{to_do}
use Rattle.fp_absrow.proofs.Positions.{IsPlacing}
use Rattle.fp_absrow.proofs.placing.place_spans.Given as goal

abbrev pub invariant-loop-first : goal.invariant-loop-first
invariant-loop-first g l = IsPlacing l.lo l.top (g.C.RowCost.cells_of l.costs) l.work l.xs l.first l.placed l.before

abbrev pub decreases-loop-first : goal.decreases-loop-first
decreases-loop-first g l = to_do (drop l.first l.work)
