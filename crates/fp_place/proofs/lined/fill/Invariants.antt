use Rattle.std.proofs.Common.{take}
use Rattle.fp_place.specs.LaneOrder.{HoldInOrder}
use Rattle.fp_place.proofs.lined.fill.Given as goal

abbrev pub invariant-loop-cell : goal.invariant-loop-cell
invariant-loop-cell l = HoldInOrder l.problem l.places l.numbers (take l.cell-index l.order) l.lined.top l.lined.bottom
