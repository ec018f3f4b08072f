use Rattle.fp_gains.specs.OrderParts.{AreAreas}
use Rattle.fp_gains.proofs.order.areas.Given as goal

abbrev pub invariant-loop-cell : goal.invariant-loop-cell
invariant-loop-cell l = AreAreas l.problem l.die l.cell l.entries.items
