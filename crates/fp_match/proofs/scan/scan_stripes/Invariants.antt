use Rattle.std.proofs.Common.{◌*◌, min}
use Rattle.fp_match.specs.Search.{Scanned, StripeCovered, AreRuns}
use Rattle.fp_match.proofs.scan.scan_stripes.Given as goal

abbrev pub invariant-loop-stripe : goal.invariant-loop-stripe
invariant-loop-stripe g l =
    Scanned (g.C.Costs.cost_of l.costs) (g.C.Costs.column_count l.costs) l.row l.matching l.fn.labels l.labels
    (min (l.initial.stripe * g.C.Costs.stripe_width l.costs) (g.C.Costs.column_count l.costs))
    (min (l.stripe * g.C.Costs.stripe_width l.costs) (g.C.Costs.column_count l.costs))
    × StripeCovered (g.C.Costs.cost_of l.costs) (g.C.Costs.column_count l.costs) (g.C.Costs.stripe_width l.costs) l.row l.matching l.labels l.first
    × AreRuns l.row l.matching l.labels l.closed
