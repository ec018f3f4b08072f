use Rattle.std.proofs.Common.{◌≡◌, [], length, replicate, pos, ap, sym, subst, arith, rules}
use Rattle.fp_tech.specs.PlanLaws.{few_segments}
use Rattle.fp_seed.specs.FilledSegments.{HoldsSeats}
use Rattle.fp_seed.proofs.FilledSegmentLemmas.{holds_none}
use Rattle.fp_seed.proofs.filled_segments.FilledSegments.new.Goals as goal

pub overflow_cast-segments : goal.overflow_cast-segments
overflow_cast-segments g c =
    let few = few_segments c.dies.result.now c.segments-segments.ensures.plan g.S.Side.DIE in
    let many = ap length c.segments-segments.ensures.segments in
    omega arith

pub returns-clause-empty : goal.returns-clause-empty
returns-clause-empty g c =
    let used : c.in_ok-used.used.items ≡ replicate (length c.segments-segments.result.now) (pos 0) = search rules in
    subst (λ used. HoldsSeats c.args.problem.now g.S.Side.DIE [] used c.in_ok-lanes.lanes) (sym used)
    (subst (λ lanes. HoldsSeats c.args.problem.now g.S.Side.DIE [] (replicate (length c.segments-segments.result.now) (pos 0)) lanes) (sym c.in_ok-lanes.ensures)
    (holds_none c.args.problem.now g.S.Side.DIE (length c.segments-segments.result.now)))
