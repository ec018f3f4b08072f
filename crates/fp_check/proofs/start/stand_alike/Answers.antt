use Rattle.std.proofs.Common.{below_more, arith}
use Rattle.fp_check.proofs.Pairs.{refuted, none_where}
use Rattle.fp_check.proofs.Startings.{alike_read}
use Rattle.fp_check.proofs.start.stand_alike.Goals as goal

pub returns-then-not-is_alike : goal.returns-then-not-is_alike
returns-then-not-is_alike c =
    none_where (λ all. refuted c.is_alike.result c.is_alike.ensures c.if-not-is_alike.true
    ((alike_read c.args.seed.now c.args.placement.now c.loop-number.number c.spot.result c.spot-in-loop-number.result c.spot.ensures.spot c.spot-in-loop-number.ensures.spot).0
    (all c.loop-number.number (omega arith))))

pub loop-number-preserved : goal.loop-number-preserved
loop-number-preserved c =
    below_more _ _ c.loop-number.invariant
    ((alike_read c.args.seed.now c.args.placement.now c.loop-number.number c.spot.result c.spot-in-loop-number.result c.spot.ensures.spot c.spot-in-loop-number.ensures.spot).1
    (c.is_alike.ensures.0 c.if-not-is_alike.false))
