use Rattle.std.proofs.Common.{◌≡◌, to_z, of_z, w64, pos, ◌+ℤ◌, get_or, ap, subst, ◌∙◌, arith}
use Rattle.std.proofs.lemmas.List.{get_or_read}
use Rattle.std.proofs.lemmas.Int.{ints}
use Rattle.fp_tech.specs.Plan.{IsPlan, segments}
use Rattle.fp_netlist.specs.Points.{width}
use Rattle.fp_score.specs.FirstFit.{no_segment, segment_at}
use Rattle.fp_seed.proofs.FilledSegmentLemmas.{small_at, holds_is}
use Rattle.fp_seed.proofs.filled_segments.FilledSegments.holds.Goals as goal

pub returns : goal.returns
returns g c =
    let small = small_at c.args.problem.now g.S.Side.DIE c.args.self.now.used.items c.args.self.now.first.items c.args.self.now.lanes c.args.segment
    (subst IsPlan c.dies.ensures c.segments-segments.ensures.plan) c.requires.ready c.requires.within in
    let before : c.index.result.now ≡ get_or c.args.self.now.used.items c.args.segment (pos 0) =
    get_or_read c.args.self.now.used.items c.args.segment c.index.result.now (omega (arith, c.requires.within, c.requires.ready.many)) c.index.ensures (pos 0) in
    let wide : c.width.result ≡ pos (width c.args.problem.now c.args.cell.0 g.S.Side.DIE) =
    c.width.ensures.width ∙ ap (λ die. pos (width c.args.problem.now c.args.cell.0 die)) c.DIE.ensures in
    let at : get_or c.segments-segments.result.now c.args.segment no_segment ≡ segment_at c.args.problem.now.plan g.S.Side.DIE c.args.segment =
    ap (λ rows. get_or rows c.args.segment no_segment) (c.segments-segments.ensures.segments ∙ ap (λ plan. segments plan g.S.Side.DIE) c.dies.ensures) in
    let long = ap (λ s. s.length) at in
    holds_is c.args.problem.now g.S.Side.DIE c.args.self.now.used.items c.args.cell.0 c.args.segment
    (to_z w64 (of_z w64 (to_z w64 (of_z w64 c.index.result.now) +ℤ to_z w64 (of_z w64 c.width.result))))
    (to_z w64 (of_z w64 (get_or c.segments-segments.result.now c.args.segment no_segment).length))
    (omega (arith, ints, small.low, small.high, before, wide, c.width.ensures.range.0, c.width.ensures.range.1))
    (omega (arith, ints, long, small.lies.length.least, small.lies.length.most))
