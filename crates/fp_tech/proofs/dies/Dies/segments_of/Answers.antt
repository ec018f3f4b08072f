use Rattle.std.proofs.Common.{rules}
use Rattle.fp_tech.specs.PlanLaws.{are_greatest}
use Rattle.fp_tech.proofs.dies.Dies.segments_of.Goals as goal

pub returns-in-Top-clause-greatest : goal.returns-in-Top-clause-greatest
returns-in-Top-clause-greatest c = are_greatest c.args.self.now c.args.die c.as_slice.result.now (search rules)

pub returns-in-Bottom-clause-greatest : goal.returns-in-Bottom-clause-greatest
returns-in-Bottom-clause-greatest c = are_greatest c.args.self.now c.args.die c.as_slice-in-Bottom.result.now (search rules)
