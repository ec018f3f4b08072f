use Rattle.std.proofs.Common.{◌≡◌, pos, [], ◌∷◌, ◌++◌, get_or, set, ap, subst, ◌∙◌, arith}
use Rattle.std.proofs.lemmas.List.{get_or_read}
use Rattle.std.proofs.lemmas.Int.{ints}
use Rattle.fp_tech.specs.Plan.{IsPlan, segments}
use Rattle.fp_netlist.specs.Points.{width}
use Rattle.fp_score.specs.FirstFit.{no_segment, segment_at}
use Rattle.fp_seed.proofs.FilledSegmentLemmas.{IsRoom, room_at, ready_taken}
use Rattle.fp_seed.proofs.filled_segments.FilledSegments.take.Goals as goal
use Rattle.fp_seed.proofs.filled_segments.FilledSegments.take.Goals.{After-self-1}
use Rattle.fp_seed.proofs.filled_segments.FilledSegments.take.Given as given

room : (g : given.Over) (c : After-self-1 g) → IsRoom c.args.problem.now g.S.Side.DIE c.args.self.now.used.items c.args.cell.0 c.args.segment
room g c =
    room_at c.args.problem.now g.S.Side.DIE c.args.self.now.used.items c.args.self.now.first.items c.args.self.now.lanes c.args.cell.0 c.args.segment
    (subst IsPlan c.dies.ensures c.segments.ensures.plan) c.requires.ready c.requires.within c.requires.room

before_is : (g : given.Over) (c : After-self-1 g) → c.index-before.result.now ≡ get_or c.args.self.now.used.items c.args.segment (pos 0)
before_is g c =
    get_or_read c.args.self.now.used.items c.args.segment c.index-before.result.now (omega (arith, c.requires.within, c.requires.ready.many)) c.index-before.ensures (pos 0)

segment_is : (g : given.Over) (c : After-self-1 g) → get_or c.segments.result.now c.args.segment no_segment ≡ segment_at c.args.problem.now.plan g.S.Side.DIE c.args.segment
segment_is g c =
    ap (λ rows. get_or rows c.args.segment no_segment) (c.segments.ensures.segments ∙ ap (λ plan. segments plan g.S.Side.DIE) c.dies.ensures)

width_is : (g : given.Over) (c : After-self-1 g) → c.width.result ≡ pos (width c.args.problem.now c.args.cell.0 g.S.Side.DIE)
width_is g c = c.width.ensures.width ∙ ap (λ die. pos (width c.args.problem.now c.args.cell.0 die)) c.DIE.ensures

pub overflow_add-result : goal.overflow_add-result
overflow_add-result g c =
    let r = room g c in
    let start = ap (λ s. s.start) (segment_is g c) in
    omega (arith, ints, r.low, r.lies.start.least, r.lies.start.most, r.lies.end.most, r.ends, before_is g c, start)

pub returns-clause-x : goal.returns-clause-x
returns-clause-x g c =
    let r = room g c in
    let start = ap (λ s. s.start) (segment_is g c) in
    omega (arith, ints, r.low, r.lies.start.least, r.lies.start.most, r.lies.end.most, r.ends, before_is g c, start)

pub returns-clause-ready : goal.returns-clause-ready
returns-clause-ready g c =
    let r = room g c in
    ready_taken c.args.problem.now g.S.Side.DIE c.args.self.now.used.items c.args.self.now.first.items c.args.self.now.lanes c.push.new.self c.args.segment c.args.cell _
    (subst IsPlan c.dies.ensures c.segments.ensures.plan) c.requires.ready c.requires.within c.requires.room
    (omega (arith, ints, r.low, r.lies.start.least, r.lies.start.most, r.lies.end.most, r.ends, before_is g c, width_is g c))
    (c.in_ok-push.ensures ∙ ap (λ seg. set c.args.self.now.lanes seg (get_or c.args.self.now.lanes seg [] ++ c.args.cell ∷ [])) c.new.ensures)
