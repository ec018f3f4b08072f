use Rattle.std.proofs.Common.{◌≡◌, ◌∙◌, ◌+ℤ◌, List, length, map, get_or, slice_get, pos, ap, sym, subst, arith}
use Rattle.std.proofs.lemmas.Option.{slice_get-get_or}
use Rattle.fp_base.specs.declared.ids.Die.{Die}
use Rattle.fp_tech.specs.declared.dies.Segment.{Segment}
use Rattle.fp_tech.specs.Plan.{segments}
use Rattle.fp_rows.specs.Squares.{IsRow}
use Rattle.fp_cert.specs.RowsLaws.{cell_for}
use Rattle.fp_flow.specs.Lanes.{AddsBestRows}
use Rattle.fp_flow.specs.Rows.{AddsBestRow}
use Rattle.fp_flow.proofs.Layouts.{no_rows, rows_more}
use Rattle.fp_flow.proofs.lanes.place_lanes.Goals as goal

abbrev no_segment : Segment
no_segment = record { y = pos 0; start = pos 0; length = pos 0 }

pub loop-number-init : goal.loop-number-init
loop-number-init g c = no_rows c.args.problem.now g.S.Side.DIE c.args.lanes.now c.args.targets.now c.args.trial.now

pub place_lane-requires-clause-within : goal.place_lane-requires-clause-within
place_lane-requires-clause-within g c =
    let segment = get_or c.segments-segments.result.now c.loop-number.number no_segment in
    let there = ap (λ (list : List Segment). slice_get list c.loop-number.number) (sym (c.segments-segments.ensures.segments ∙ ap (λ plan. segments plan g.S.Side.DIE) c.dies.ensures))
    ∙ slice_get-get_or c.segments-segments.result.now c.loop-number.number no_segment c.loop-number-test.true in
    (c.requires.rows c.loop-number.number segment c.lane-lane.result.now there (ap (slice_get c.args.lanes.now) (sym c.new.ensures) ∙ c.lane-lane.ensures)).within

pub place_lane-requires-clause-row : goal.place_lane-requires-clause-row
place_lane-requires-clause-row g c =
    let segment = get_or c.segments-segments.result.now c.loop-number.number no_segment in
    let there = ap (λ (list : List Segment). slice_get list c.loop-number.number) (sym (c.segments-segments.ensures.segments ∙ ap (λ plan. segments plan g.S.Side.DIE) c.dies.ensures))
    ∙ slice_get-get_or c.segments-segments.result.now c.loop-number.number no_segment c.loop-number-test.true in
    subst (λ (die : Die). IsRow (map (cell_for c.args.problem.now die c.args.targets.now) c.lane-lane.result.now) segment.start (segment.start +ℤ segment.length)) (sym c.DIE.ensures)
    (c.requires.rows c.loop-number.number segment c.lane-lane.result.now there (ap (slice_get c.args.lanes.now) (sym c.new.ensures) ∙ c.lane-lane.ensures)).row

pub loop-number-preserved : goal.loop-number-preserved
loop-number-preserved g c =
    let segment = get_or c.segments-segments.result.now c.loop-number.number no_segment in
    let there = ap (λ (list : List Segment). slice_get list c.loop-number.number) (sym (c.segments-segments.ensures.segments ∙ ap (λ plan. segments plan g.S.Side.DIE) c.dies.ensures))
    ∙ slice_get-get_or c.segments-segments.result.now c.loop-number.number no_segment c.loop-number-test.true in
    rows_more c.args.problem.now g.S.Side.DIE c.args.lanes.now c.loop-number.number c.args.targets.now c.args.trial.now c.loop-number.trial c.place_lane.new.trial segment
    c.lane-lane.result.now there (ap (slice_get c.args.lanes.now) (sym c.new.ensures) ∙ c.lane-lane.ensures) c.loop-number.invariant
    (subst (λ (die : Die). AddsBestRow c.args.problem.now die segment c.lane-lane.result.now c.args.targets.now c.loop-number.trial c.place_lane.new.trial) c.DIE.ensures c.in_ok-place_lane.ensures)

pub returns : goal.returns
returns g c =
    let many : c.loop-number.number ≡ length c.args.lanes.now =
    omega (arith, c.loop-number-test.false, c.loop-number.auto.number-end, c.requires.lanes, ap length c.segments-segments.ensures.segments, ap (λ plan. length (segments plan g.S.Side.DIE)) c.dies.ensures) in
    subst (λ (count : _). AddsBestRows c.args.problem.now g.S.Side.DIE c.args.lanes.now count c.args.targets.now c.args.trial.now c.loop-number.trial) many c.loop-number.invariant
