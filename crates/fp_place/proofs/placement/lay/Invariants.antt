use Rattle.fp_place.specs.Laying.{AreLanesLaid}
use Rattle.fp_place.proofs.placement.lay.Given as goal

abbrev pub invariant-loop-number : goal.invariant-loop-number
invariant-loop-number g l = AreLanesLaid g.S.Side.DIE l.segments l.xs l.lanes l.number l.initial.spots l.spots
