use Rattle.fp_coarse.proofs.Bests.{cost_is}
use Rattle.fp_coarse.proofs.nearest.found_at.Goals as goal

pub returns-clause-cost : goal.returns-clause-cost
returns-clause-cost c = cost_is c.args.segments.now c.args.aim c.args.number c.cost_to.result c.cost_to.ensures
