use Rattle.std.proofs.Common.{◌≡◌, ◌∙◌, sym, true, false}
use Rattle.fp_netlist.specs.Points.{width}
use Rattle.fp_place.proofs.StandingLemmas.{no_start, on_last, not_on_last, read_in_range}
use Rattle.fp_place.proofs.standing.segment_under.Goals as goal

pub returns-in_err-number : goal.returns-in_err-number
returns-in_err-number c =
    no_start c.args.problem.now.plan c.args.place (width c.args.problem.now c.args.cell.0 c.args.place.die) c.segments_at-segments.result.now c.last_start.result _
    c.segments_at-segments.ensures.segments c.last_start.ensures c.in_err-number.was c.from_residual.ensures

pub stands_in-requires-clause-start : goal.stands_in-requires-clause-start
stands_in-requires-clause-start c =
    (read_in_range c.args.problem.now.plan c.args.place.die c.segments_at-segments.result.now c.in_ok-number.number _ c.segments_at-segments.ensures.plan c.segments_at-segments.ensures.segments
    c.in_ok-number.ensures.within).start

pub stands_in-requires-clause-length : goal.stands_in-requires-clause-length
stands_in-requires-clause-length c =
    (read_in_range c.args.problem.now.plan c.args.place.die c.segments_at-segments.result.now c.in_ok-number.number _ c.segments_at-segments.ensures.plan c.segments_at-segments.ensures.segments
    c.in_ok-number.ensures.within).length

pub returns-then-stands_in : goal.returns-then-stands_in
returns-then-stands_in c =
    on_last c.args.problem.now.plan c.args.place (width c.args.problem.now c.args.cell.0 c.args.place.die) c.segments_at-segments.result.now c.in_ok-number.number _
    c.segments_at-segments.ensures.segments c.in_ok-number.ensures.within (c.stands_in.ensures.0 c.if-stands_in.true)

pub returns-else-stands_in : goal.returns-else-stands_in
returns-else-stands_in c =
    not_on_last c.args.problem.now.plan c.args.place (width c.args.problem.now c.args.cell.0 c.args.place.die) c.segments_at-segments.result.now c.in_ok-number.number _
    c.segments_at-segments.ensures.segments c.segments_at-segments.ensures.rise c.in_ok-number.ensures
    (λ stands. let nothing : false ≡ true = sym c.if-stands_in.false ∙ c.stands_in.ensures.1 stands in cc)
