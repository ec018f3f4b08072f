use Rattle.std.proofs.Common.{ltb, leb, rules}
use Rattle.std.proofs.lemmas.List.{take_rest}
use Rattle.std.proofs.lemmas.List.Sorted.{IsPartitionPoint-from_clause, IsPartitionedBy-ltb, IsPartitionedBy-leb, IsNonDecreasingBy-drop, IsNonDecreasingBy-take}
use Rattle.fp_place.proofs.CloseLemmas.{run_has, run_within}
use Rattle.fp_place.proofs.close.run.Goals as goal

pub returns-clause-within : goal.returns-clause-within
returns-clause-within c = rw take_rest (run_within c.args.entries.now c.partition_point.result c.partition_point-2.result)

pub returns-clause-all : goal.returns-clause-all
returns-clause-all c =
    let entries = c.args.entries.now in
    let before = IsPartitionPoint-from_clause (λ entry. ltb entry.bucket c.args.first) _ _ c.partition_point.ensures.partitioned
    (IsPartitionedBy-ltb (λ entry. entry.bucket) entries c.args.first c.requires) (λ a r q k. search rules) in
    let up_to = IsPartitionPoint-from_clause (λ entry. leb entry.bucket c.args.last) _ _ c.partition_point-2.ensures.partitioned
    (IsPartitionedBy-leb (λ entry. entry.bucket) _ c.args.last (IsNonDecreasingBy-take (λ entry. entry.bucket) _ _ (IsNonDecreasingBy-drop (λ entry. entry.bucket) c.partition_point.result entries c.requires)))
    (λ a r q k. search rules) in
    let within = rw take_rest at c.partition_point-2.ensures.bound in
    rw take_rest (λ entry there enough few. run_has entries c.args.first c.args.last c.partition_point.result c.partition_point-2.result entry
    before.0 (rw take_rest at up_to.1) within there enough few)
