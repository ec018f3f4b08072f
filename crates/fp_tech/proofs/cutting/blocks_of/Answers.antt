use Rattle.std.proofs.Common.{◌≡◌, ◌∙◌, ap, subst, List, filter, rules}
use Rattle.std.specs.List.Sorted.{IsPermutation}
use Rattle.std.proofs.lemmas.Fn.{filter_same}
use Rattle.std.proofs.lemmas.List.Sorted.{IsNonDecreasingBy-from_sort_by_key}
use Rattle.fp_tech.specs.declared.dies.Block.{Block}
use Rattle.fp_tech.specs.Rows.{same_die}
use Rattle.fp_tech.proofs.cutting.blocks_of.Goals as goal

pub returns : goal.returns
returns c =
    let kept : c.retain.new.self.items ≡ filter (λ (block : Block). same_die block.die c.args.die) c.args.blocks.now =
    filter_same _ (λ (block : Block). same_die block.die c.args.die) _ (λ x b f k. search rules) _ _ c.retain.ensures.filtered ∙ ap (filter (λ (block : Block). same_die block.die c.args.die)) c.in_ok-own.ensures.items in
    record {
      kept = subst (λ (list : List Block). IsPermutation list c.sort_unstable_by_key.new.self.items) kept c.sort_unstable_by_key.ensures.permutation;
      by_left = IsNonDecreasingBy-from_sort_by_key (λ (block : Block). block.llx) _ c.sort_unstable_by_key.ensures.sorted (λ a r q k. search rules);
    }
