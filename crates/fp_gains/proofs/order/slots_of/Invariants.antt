use Rattle.fp_gains.specs.OrderParts.{AreSlots}
use Rattle.fp_gains.proofs.order.slots_of.Given as goal

abbrev pub invariant-loop-slot : goal.invariant-loop-slot
invariant-loop-slot l = AreSlots l.count l.slots l.cells l.slot
