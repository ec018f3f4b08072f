use Rattle.std.proofs.Common.{◌-◌, ◌≤◌}
use Rattle.fp_match.specs.Search.{Scanned, AreRuns}
use Rattle.fp_match.proofs.scan.scan_columns.Given as goal

abbrev pub invariant-loop-column : goal.invariant-loop-column
invariant-loop-column g l =
    Scanned (g.C.Costs.cost_of l.costs) (g.C.Costs.column_count l.costs) l.row l.matching l.fn.labels l.labels l.fn.from l.column
    × AreRuns l.row l.matching l.labels l.closed × (l.column ≤ l.to)

abbrev pub decreases-loop-column : goal.decreases-loop-column
decreases-loop-column g l = l.to - l.column
