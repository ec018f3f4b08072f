use Rattle.std.proofs.Common.{sym, subst}
use Rattle.fp_coarse.specs.Nearest.{AreSegments}
use Rattle.fp_coarse.specs.SegmentsLaws.{rows_are}
use Rattle.fp_coarse.proofs.picking.take_nearest.Goals as goal

pub nearest-requires-clause-segments : goal.nearest-requires-clause-segments
nearest-requires-clause-segments c =
    subst AreSegments (sym c.segments_of-segments.ensures.segments) (rows_are c.dies.result.now c.segments_of-segments.ensures.plan c.args.die)
