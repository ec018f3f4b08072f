use Rattle.std.proofs.Common.{◌≡◌, rules, arith}
use Rattle.fp_match.proofs.LeastShown.{choice_kept}
use Rattle.fp_match.proofs.choice.Choice.new.Goals as goal

pub invariant_of-result : goal.invariant_of-result
invariant_of-result c =
    let same : c.in_ok-chosen.chosen.items ≡ c.args.chosen.now = search rules in
    choice_kept c.args.columns c.in_ok-chosen.chosen c.in_ok-owner.owner c.args.chosen.now same (omega arith) c.in_ok-owner.ensures.sized c.in_ok-owner.ensures.owners
