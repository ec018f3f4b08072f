use Rattle.std.proofs.Common.{◌<◌, get_or, ap, subst, sym, ◌∙◌, rules, FitsSigned, w64, All}
use Rattle.std.specs.Prelude.{slice_get, pos}
use Rattle.std.proofs.lemmas.Option.{slice_get-get_or}
use Rattle.std.proofs.lemmas.Int.{to_z-of_z}
use Rattle.fp_base.specs.declared.ids.CellId.{CellId}
use Rattle.fp_tech.specs.declared.dies.Segment.{Segment}
use Rattle.fp_place.proofs.LayingLemmas.{lane_within, lane_apart, lanes_more}
use Rattle.fp_place.proofs.placement.lay.Goals as goal
use Rattle.fp_place.proofs.placement.lay.Goals.{After-lay_lane-arg-in-loop-number-1}

abbrev no_segment : Segment
no_segment = record { y = pos 0; start = pos 0; length = pos 0 }

pub lay_lane-requires-clause-within : goal.lay_lane-requires-clause-within
lay_lane-requires-clause-within g c =
    subst (λ n. All (λ (cell : CellId). cell.0 < n) c.lane-lane.result.now) (sym c.loop-number.invariant.many)
    (lane_within _ c.args.lanes.now c.loop-number.number _ c.requires.apart (ap (slice_get c.args.lanes.now) (sym c.new.ensures) ∙ c.lane-lane.ensures))

pub lay_lane-requires-clause-apart : goal.lay_lane-requires-clause-apart
lay_lane-requires-clause-apart g c = lane_apart _ c.args.lanes.now c.loop-number.number _ c.requires.apart (ap (slice_get c.args.lanes.now) (sym c.new.ensures) ∙ c.lane-lane.ensures)

pub loop-number-preserved : goal.loop-number-preserved
loop-number-preserved g c =
    let fits : FitsSigned w64 (get_or c.args.segments.now c.loop-number.number no_segment).y = search rules in
    lanes_more _ c.args.segments.now c.args.xs.now c.args.lanes.now c.loop-number.number c.args.spots.now c.loop-number.spots c.lay_lane.new.spots
    c.lane-lane.result.now (get_or c.args.segments.now c.loop-number.number no_segment) _ c.loop-number.invariant c.requires.apart
    (ap (slice_get c.args.lanes.now) (sym c.new.ensures) ∙ c.lane-lane.ensures)
    (slice_get-get_or c.args.segments.now c.loop-number.number no_segment c.loop-number-test.true)
    (rw c.DIE.ensures at (simp to_z-of_z at c.lay_lane.ensures))
