use Rattle.std.proofs.Common.{length, take}
use Rattle.fp_tech.specs.Plan.{segments}
use Rattle.fp_coarse.proofs.Laying.{HoldEntries}
use Rattle.fp_coarse.proofs.picking.lanes_of.Given as goal

abbrev pub invariant-loop-entry : goal.invariant-loop-entry
invariant-loop-entry g l = HoldEntries (length (segments l.problem.plan g.S.Side.DIE)) (take l.entry-index l.entry-items) l.lanes
