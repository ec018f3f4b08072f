use Rattle.std.proofs.Common.{List, ap, sym, ◌∙◌, below_more, arith}
use Rattle.fp_base.specs.declared.ids.Point.{Point}
use Rattle.fp_score.specs.Pick.{point_at}
use Rattle.fp_check.proofs.Pairs.{refuted, none_where, all_where}
use Rattle.fp_check.proofs.Startings.{corner_read, corner_at, corners_are}
use Rattle.fp_check.proofs.start.aim_at_places.Goals as goal

pub returns-then-not-is_corner : goal.returns-then-not-is_corner
returns-then-not-is_corner c =
    let number = c.loop-number.number in
    none_where (λ all. refuted c.is_corner.result c.is_corner.ensures c.if-not-is_corner.true
    (ap (λ (list : List Point). point_at list number) all ∙ corner_at c.args.placement.now number ∙ sym (corner_read c.args.placement.now number c.spot-spot.result c.spot-spot.ensures.spot)))

pub loop-number-preserved : goal.loop-number-preserved
loop-number-preserved c =
    below_more _ _ c.loop-number.invariant
    (c.is_corner.ensures.0 c.if-not-is_corner.false ∙ corner_read c.args.placement.now c.loop-number.number c.spot-spot.result c.spot-spot.ensures.spot)

pub returns : goal.returns
returns c =
    all_where (corners_are c.args.problem.now c.args.placement.now c.args.targets.now c.requires.placement c.requires.targets (λ cell below. c.loop-number.invariant cell (omega arith)))
