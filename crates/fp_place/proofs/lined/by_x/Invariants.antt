use Rattle.fp_place.proofs.LinOrder.{AreEntries}
use Rattle.fp_place.proofs.lined.by_x.Given as goal

abbrev pub invariant-loop-cell : goal.invariant-loop-cell
invariant-loop-cell l = AreEntries l.places l.cell l.order.items
