use Rattle.std.proofs.Common.{List, Option, Some, sym, subst}
use Rattle.std.specs.Prelude.{IfOk, IsTrue, ◌↔◌}
use Rattle.fp_base.specs.declared.ids.Die.{Die}
use Rattle.fp_base.specs.declared.ids.Point.{Point}
use Rattle.fp_place.specs.Placed.{places_of}
use Rattle.fp_score.specs.Target.{AreTargets}
use Rattle.fp_check.specs.declared.views.Layout.{Layout}
use Rattle.fp_check.specs.Picks.{IfBoth}
use Rattle.fp_check.proofs.picks.has_targets.Goals as goal

pub returns-in-Some-Some : goal.returns-in-Some-Some
returns-in-Some-Some c =
    let p = c.args.problem.now in
    let r = c.are_targets.result in
    let dies = c.args.view.now.dies.items in
    let from = c.in-Some-Some.from in
    let to = c.in-Some-Some.to in
    let Fact = λ (base layout : Layout). AreTargets p (places_of base.placement) dies layout.targets.items in
    subst (λ (o : Option Layout). IfOk r (λ b. IsTrue b ↔ IfBoth o c.args.view.now.layout Fact)) (sym c.in-Some-Some.is-0)
    (subst (λ (o : Option Layout). IfOk r (λ b. IsTrue b ↔ IfBoth (Some from) o Fact)) (sym c.in-Some-Some.is-1)
    (subst (λ (list : List Point). IfOk r (λ b. IsTrue b ↔ AreTargets p (places_of from.placement) dies list)) c.deref-in-Some-Some.ensures.value
    (subst (λ (list : List Die). IfOk r (λ b. IsTrue b ↔ AreTargets p (places_of from.placement) list c.deref-in-Some-Some.result.now)) c.deref.ensures.value c.are_targets.ensures)))
