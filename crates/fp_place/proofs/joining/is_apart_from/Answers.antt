use Rattle.std.proofs.Common.{arith, refl, subst, All, pos}
use Rattle.std.proofs.lemmas.List.{take_all}
use Rattle.std.proofs.lemmas.List.Elements.{All-more}
use Rattle.fp_tech.specs.Slots.{AreApart}
use Rattle.fp_place.proofs.joining.is_apart_from.Goals as goal

pub loop-other-preserved : goal.loop-other-preserved
loop-other-preserved c =
    All-more (AreApart c.args.terminal c.args.centre) c.args.others.now c.loop-other.other-index (record { x = pos 0; y = pos 0 }) (omega arith) c.loop-other.invariant
    (c.are_apart.ensures.0 c.if-not-are_apart.false)

pub returns : goal.returns
returns c =
    (λ h. subst (All (AreApart c.args.terminal c.args.centre)) (take_all c.loop-other.other-index c.args.others.now (omega arith)) c.loop-other.invariant, λ h. refl)
