use Rattle.fp_match.proofs.Assigned.{IsAssigned}
use Rattle.fp_match.specs.Search.{AreMarks}
use Rattle.fp_match.proofs.assign.assign.Given as goal

abbrev pub invariant-loop-row : goal.invariant-loop-row
invariant-loop-row g l =
    IsAssigned (g.C.Costs.cost_of l.costs) (g.C.Costs.column_count l.costs) l.row l.fn.matching l.matching l.fn.labels l.labels
    × AreMarks l.row l.matching l.closed
