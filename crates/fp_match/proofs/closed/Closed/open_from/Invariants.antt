use Rattle.std.proofs.Common.{◌-◌, ◌≤◌, ◌<◌, ℕ}
use Rattle.fp_match.specs.Search.{IsClosed, AreRuns}
use Rattle.fp_match.proofs.closed.Closed.open_from.Given as goal

abbrev pub invariant-loop-column : goal.invariant-loop-column
invariant-loop-column l =
    AreRuns l.row l.matching l.labels l.self × (l.from ≤ l.column) × (l.column ≤ l.to)
    × ((s : ℕ) → l.from ≤ s → s < l.column → IsClosed l.row l.matching l.labels s)

abbrev pub decreases-loop-column : goal.decreases-loop-column
decreases-loop-column l = l.to - l.column
