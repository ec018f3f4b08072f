use Rattle.fp_match.proofs.Augment.{IsAugmenting}
use Rattle.fp_match.proofs.matching.augment.Given as goal

abbrev pub invariant-loop-place : goal.invariant-loop-place
invariant-loop-place g l =
    IsAugmenting (g.C.Costs.cost_of l.costs) (g.C.Costs.column_count l.costs) l.row l.fn.matching l.matching l.labels l.column l.place

abbrev pub decreases-loop-place : goal.decreases-loop-place
decreases-loop-place g l = l.place
