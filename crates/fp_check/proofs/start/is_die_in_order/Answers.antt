use Rattle.std.proofs.Common.{◌≡◌, ◌<◌, ◌+ℤ◌, List, length, get_or, slice_get, Some, pos, ap, ◌∙◌, below_more, arith}
use Rattle.std.proofs.lemmas.Option.{slice_get_within}
use Rattle.fp_base.specs.declared.ids.CellId.{CellId}
use Rattle.fp_tech.specs.declared.dies.Segment.{Segment}
use Rattle.fp_tech.specs.Plan.{segments}
use Rattle.fp_place.specs.Placed.{places_of, lanes_of, StandBetween}
use Rattle.fp_place.specs.PlacedLaws.{segment_in_range}
use Rattle.fp_check.proofs.Pairs.{at_both, stands_at, refuted, none_where, all_where}
use Rattle.fp_check.proofs.Startings.{lane_within}
use Rattle.fp_check.proofs.start.is_die_in_order.Goals as goal
use Rattle.fp_check.proofs.start.is_die_in_order.Goals.{After-lane-lane, After-loop-number}

-- the segments that are walked are the die's
same : (c : After-loop-number) → c.segments_of-segments.result.now ≡ segments c.args.problem.now.plan c.args.die
same c = c.segments_of-segments.ensures.segments ∙ ap (λ plan. segments plan c.args.die) c.dies.ensures

-- the segment that is looked at
there : (c : After-lane-lane)
    → slice_get (segments c.args.problem.now.plan c.args.die) c.loop-number.number ≡ Some (get_or c.segments_of-segments.result.now c.loop-number.number (record { y = pos 0; start = pos 0; length = pos 0 }))
there c =
    stands_at c.segments_of-segments.result.now (segments c.args.problem.now.plan c.args.die) c.loop-number.number (record { y = pos 0; start = pos 0; length = pos 0 })
    (c.segments_of-segments.ensures.segments ∙ ap (λ plan. segments plan c.args.die) c.dies.ensures) c.loop-number-test.true

pub stand_between-requires-clause-within : goal.stand_between-requires-clause-within
stand_between-requires-clause-within c =
    lane_within c.args.problem.now c.args.placement.now c.args.die c.loop-number.number c.lane-lane.result.now c.requires c.lane-lane.ensures.agree c.lane-lane.ensures.lane

pub stand_between-requires-clause-segment : goal.stand_between-requires-clause-segment
stand_between-requires-clause-segment c =
    segment_in_range c.args.problem.now.plan c.cells-cells.ensures.sound.plan c.args.die c.loop-number.number _ (there c)

pub returns-then-not-stand_between : goal.returns-then-not-stand_between
returns-then-not-stand_between c =
    let at = (goal.at.returns-then-not-stand_between c).After-lane-lane in
    none_where (λ all. refuted c.stand_between.result c.stand_between.ensures c.if-not-stand_between.true (all c.loop-number.number _ c.lane-lane.result.now (there at) c.lane-lane.ensures.lane))

pub loop-number-preserved : goal.loop-number-preserved
loop-number-preserved c =
    let at = (goal.at.loop-number-preserved c).After-lane-lane in
    let p = c.args.problem.now in
    below_more _ _ c.loop-number.invariant
    (at_both (λ (segment : Segment) (lane : List CellId). StandBetween p c.args.die (places_of c.args.placement.now) segment.start (segment.start +ℤ segment.length) lane)
    (segments p.plan c.args.die) (lanes_of c.args.placement.now c.args.die) c.loop-number.number c.loop-number.number _ c.lane-lane.result.now (there at) c.lane-lane.ensures.lane
    (c.stand_between.ensures.0 c.if-not-stand_between.false))

pub returns : goal.returns
returns c =
    all_where (λ number segment lane at held.
    let below : number < c.loop-number.number =
    omega (arith, slice_get_within (segments c.args.problem.now.plan c.args.die) number segment at, ap length (same c), c.loop-number-test.false) in
    c.loop-number.invariant number below segment lane at held)
