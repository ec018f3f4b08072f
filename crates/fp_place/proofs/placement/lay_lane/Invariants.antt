use Rattle.fp_place.specs.Laying.{IsLaneLaid}
use Rattle.fp_place.proofs.placement.lay_lane.Given as goal

abbrev pub invariant-loop-rank : goal.invariant-loop-rank
invariant-loop-rank l = IsLaneLaid l.die l.segment l.y l.xs l.lane l.rank l.initial.spots l.spots
