use Rattle.std.proofs.Common.{rules, arith}
use Rattle.std.proofs.lemmas.List.Sorted.{IsPartitionPoint-from_clause}
use Rattle.fp_place.specs.Standing.{starts_by}
use Rattle.fp_place.proofs.StandingLemmas.{started_first, last_found, none_found}
use Rattle.fp_place.proofs.standing.last_start.Goals as goal

pub returns-then-started-gt0 : goal.returns-then-started-gt0
returns-then-started-gt0 c =
    let parts = IsPartitionPoint-from_clause (λ segment. starts_by segment c.args.place) _ _ c.partition_point-started.ensures.partitioned
    (started_first c.args.segments.now c.args.place c.requires) (λ a r q k. search rules) in
    last_found c.args.segments.now c.args.place c.partition_point-started.result c.partition_point-started.ensures.bound parts (omega arith)

pub returns-else-started-gt0 : goal.returns-else-started-gt0
returns-else-started-gt0 c =
    let parts = IsPartitionPoint-from_clause (λ segment. starts_by segment c.args.place) _ _ c.partition_point-started.ensures.partitioned
    (started_first c.args.segments.now c.args.place c.requires) (λ a r q k. search rules) in
    none_found c.args.segments.now c.args.place c.partition_point-started.result parts (omega arith)
