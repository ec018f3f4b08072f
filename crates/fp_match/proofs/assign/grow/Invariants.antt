use Rattle.std.proofs.Common.{◌-◌}
use Rattle.fp_match.proofs.Assigned.{IsGrowing}
use Rattle.fp_match.specs.Search.{AreRuns}
use Rattle.fp_match.proofs.assign.grow.Given as goal

abbrev pub invariant-loop-row : goal.invariant-loop-row
invariant-loop-row g l =
    IsGrowing (g.C.Costs.cost_of l.costs) (g.C.Costs.column_count l.costs) l.row l.matching l.fn.labels l.labels
    × AreRuns l.row l.matching l.labels l.closed

abbrev pub decreases-loop-row : goal.decreases-loop-row
decreases-loop-row g l = l.row - l.labels.at
