use Rattle.fp_coarse.proofs.Hulls.{hull_more}
use Rattle.fp_coarse.proofs.nearest.hull_of.Goals as goal

pub loop-segment-preserved : goal.loop-segment-preserved
loop-segment-preserved c =
    hull_more c.args.segments.now c.loop-segment.segment-index c.loop-segment.hull c.widened-hull.result c.loop-segment.invariant
    (c.requires.each c.loop-segment.segment-index c.loop-segment-test.true) c.widened-hull.ensures.low c.widened-hull.ensures.high
