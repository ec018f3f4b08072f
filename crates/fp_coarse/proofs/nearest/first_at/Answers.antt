use Rattle.std.proofs.Common.{int_lt, rules, arith}
use Rattle.std.proofs.lemmas.List.Sorted.{IsPartitionPoint-from_clause}
use Rattle.fp_score.specs.FirstFit.{no_segment}
use Rattle.fp_coarse.specs.Nearest.{at}
use Rattle.fp_coarse.proofs.Hulls.{rows_part, is_below, is_above}
use Rattle.fp_coarse.proofs.nearest.first_at.Goals as goal

pub returns-clause-below : goal.returns-clause-below
returns-clause-below c =
    let parts = IsPartitionPoint-from_clause (λ segment. int_lt segment.y c.args.y) _ _ c.partition_point.ensures.partitioned (rows_part c.args.segments.now c.args.y c.requires)
    (λ a r q k. search rules) in
    λ number below. is_below (at c.args.segments.now number).y c.args.y (parts.0 number no_segment (omega arith) below)

pub returns-clause-above : goal.returns-clause-above
returns-clause-above c =
    let parts = IsPartitionPoint-from_clause (λ segment. int_lt segment.y c.args.y) _ _ c.partition_point.ensures.partitioned (rows_part c.args.segments.now c.args.y c.requires)
    (λ a r q k. search rules) in
    λ number from below. is_above (at c.args.segments.now number).y c.args.y (parts.1 number no_segment from below)
