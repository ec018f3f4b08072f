use Rattle.std.proofs.Common.{length, ap, arith}
use Rattle.fp_base.specs.declared.ids.Die.TheVariants.{Top, Bottom}
use Rattle.fp_tech.specs.PlanLaws.{few_segments}
use Rattle.fp_place.proofs.lined.Lined.empty.Goals as goal

pub overflow_cast-top : goal.overflow_cast-top
overflow_cast-top c = omega (arith, few_segments c.args.dies.now c.segments_of-top.ensures.plan Top, ap length c.segments_of-top.ensures.segments)

pub overflow_cast-bottom : goal.overflow_cast-bottom
overflow_cast-bottom c = omega (arith, few_segments c.args.dies.now c.segments_of-bottom.ensures.plan Bottom, ap length c.segments_of-bottom.ensures.segments)
