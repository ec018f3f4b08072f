use Rattle.std.proofs.Common.{◌≡◌, ◌<◌, length, get_or, slice_get, Some, pos, ap, ◌∙◌, below_more, arith}
use Rattle.std.proofs.lemmas.Option.{slice_get_within}
use Rattle.fp_tech.specs.declared.dies.Segment.{Segment}
use Rattle.fp_tech.specs.Plan.{segments}
use Rattle.fp_cert.specs.Shown.{ShownRow, rows_of}
use Rattle.fp_check.specs.Rooms.{Meets}
use Rattle.fp_check.proofs.Pairs.{at_both, stands_at, read_at, refuted, none_where, all_where}
use Rattle.fp_check.proofs.rows.rows_meet.Goals as goal
use Rattle.fp_check.proofs.rows.rows_meet.Goals.{After-loop-number, After-index-rows-number}

-- the segments that are walked are the die's
same : (c : After-loop-number) → c.segments_of-segments.result.now ≡ segments c.args.problem.now.plan c.args.die
same c = c.segments_of-segments.ensures.segments ∙ ap (λ plan. segments plan c.args.die) c.dies.ensures

-- the segment that is looked at
there : (c : After-index-rows-number)
    → slice_get (segments c.args.problem.now.plan c.args.die) c.loop-number.number ≡ Some (get_or c.segments_of-segments.result.now c.loop-number.number (record { y = pos 0; start = pos 0; length = pos 0 }))
there c =
    stands_at c.segments_of-segments.result.now (segments c.args.problem.now.plan c.args.die) c.loop-number.number (record { y = pos 0; start = pos 0; length = pos 0 })
    (c.segments_of-segments.ensures.segments ∙ ap (λ plan. segments plan c.args.die) c.dies.ensures) c.loop-number-test.true

-- its row
row_there : (c : After-index-rows-number) → slice_get (rows_of c.args.trial.now c.args.die) c.loop-number.number ≡ Some c.index-rows-number.result
row_there c =
    let many = c.requires.long c.args.die in
    read_at c.rows-rows.result.now (rows_of c.args.trial.now c.args.die) c.loop-number.number c.index-rows-number.result c.rows-rows.ensures
    (omega (arith, many, c.loop-number-test.true, ap length c.rows-rows.ensures, ap length c.segments_of-segments.ensures.segments, ap (λ plan. length (segments plan c.args.die)) c.dies.ensures)) c.index-rows-number.is

pub row_meets-requires-clause-room : goal.row_meets-requires-clause-room
row_meets-requires-clause-room c =
    let at = (goal.at.row_meets-requires-clause-room c).After-index-rows-number in
    c.requires.rows c.args.die c.loop-number.number _ c.index-rows-number.result (there at) (row_there at)

pub row_meets-requires-clause-places : goal.row_meets-requires-clause-places
row_meets-requires-clause-places c = c.requires.places c.args.die c.loop-number.number c.index-rows-number.result (row_there ((goal.at.row_meets-requires-clause-places c).After-index-rows-number))

pub returns-then-not-branch : goal.returns-then-not-branch
returns-then-not-branch c =
    let at = (goal.at.returns-then-not-branch c).After-index-rows-number in
    none_where (λ all. refuted c.in_ok-row_meets.field-0 c.in_ok-row_meets.ensures c.if-not-branch.true (all c.loop-number.number _ c.index-rows-number.result (there at) (row_there at)))

pub loop-number-preserved : goal.loop-number-preserved
loop-number-preserved c =
    let at = (goal.at.loop-number-preserved c).After-index-rows-number in
    let p = c.args.problem.now in
    below_more _ _ c.loop-number.invariant
    (at_both (λ (segment : Segment) (row : ShownRow). Meets c.args.asked p c.args.die segment row)
    (segments p.plan c.args.die) (rows_of c.args.trial.now c.args.die) c.loop-number.number c.loop-number.number _ c.index-rows-number.result (there at) (row_there at)
    (c.in_ok-row_meets.ensures.0 c.if-not-branch.false))

pub returns : goal.returns
returns c =
    all_where (λ number segment row at held.
    let below : number < c.loop-number.number =
    omega (arith, slice_get_within (segments c.args.problem.now.plan c.args.die) number segment at, ap length (same c), c.loop-number-test.false) in
    c.loop-number.invariant number below segment row at held)
