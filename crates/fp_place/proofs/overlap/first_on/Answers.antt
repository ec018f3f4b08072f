use Rattle.std.proofs.Common.{◌≡◌, ◌+◌, Some, Option, slice_get, sym, subst}
use Rattle.fp_base.specs.declared.ids.CellId.{CellId}
use Rattle.fp_place.specs.LaneOverlaps.{IsFirst, MeetsOn, IsApartOn, IsAmongLanes}
use Rattle.fp_place.proofs.LinReach.{lane_joined}
use Rattle.fp_place.proofs.overlap.first_on.Goals as goal

pub loop-segment-preserved : goal.loop-segment-preserved
loop-segment-preserved g c =
    let there : slice_get c.args.lanes.now c.loop-segment.segment ≡ Some c.lane-lane.result.now = subst (λ n. slice_get c.args.lanes.now n ≡ Some c.lane-lane.result.now) c.new.ensures c.lane-lane.ensures in
    subst (λ (o : Option CellId). IsFirst (MeetsOn c.args.problem.now c.args.places.now c.args.lanes.now) (IsApartOn c.args.problem.now c.args.places.now c.args.lanes.now) (IsAmongLanes c.args.lanes.now (c.loop-segment.segment + 1)) o)
    (sym c.earlier-first.ensures)
    (lane_joined c.args.problem.now c.args.places.now c.args.lanes.now c.loop-segment.segment c.lane-lane.result.now c.loop-segment.first c.first_in.result there c.loop-segment.invariant c.first_in.ensures)
