use Rattle.fp_place.specs.LaneOverlaps.{IsFirst, MeetsOn, IsApartOn, IsAmongLanes}
use Rattle.fp_place.proofs.overlap.first_on.Given as goal

abbrev pub invariant-loop-segment : goal.invariant-loop-segment
invariant-loop-segment g l = IsFirst (MeetsOn l.problem l.places l.lanes) (IsApartOn l.problem l.places l.lanes) (IsAmongLanes l.lanes l.segment) l.first
