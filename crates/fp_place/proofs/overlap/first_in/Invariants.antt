use Rattle.fp_place.specs.LaneOverlaps.{IsFirst, Meets, StandsApart, IsAmong}
use Rattle.fp_place.proofs.LinReach.{IsReach}
use Rattle.fp_place.proofs.overlap.first_in.Given as goal

abbrev pub invariant-loop-rank : goal.invariant-loop-rank
invariant-loop-rank l = record {
  first_is : IsFirst (Meets l.problem l.places l.lane) (StandsApart l.problem l.places l.lane) (IsAmong l.lane l.rank) l.first;
  reach_is : IsReach l.problem l.places l.die l.lane l.rank l.reach;
}
