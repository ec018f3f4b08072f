use Rattle.std.proofs.Common.{length, ap, arith}
use Rattle.fp_tech.specs.PlanLaws.{few_segments}
use Rattle.fp_seed.proofs.filled_segments.FilledSegments.next_holding.Goals as goal

pub overflow_cast-count : goal.overflow_cast-count
overflow_cast-count g c =
    let few = few_segments c.dies.result.now c.segments.ensures.plan g.S.Side.DIE in
    let many = ap length c.segments.ensures.segments in
    omega arith
