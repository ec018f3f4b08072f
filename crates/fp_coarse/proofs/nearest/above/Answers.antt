use Rattle.std.proofs.Common.{ℕ, ◌+◌, Bool, Some, length, IsTrue, sym, ap, subst, ◌∙◌, arith}
use Rattle.fp_coarse.specs.Nearest.{IsFound, IsNearestOf, earlier, cost_of}
use Rattle.fp_coarse.specs.Rooms.{has_free, AreShut}
use Rattle.fp_coarse.proofs.Bests.{best_further, best_above, stops_above, far_above}
use Rattle.fp_coarse.proofs.Hulls.{width_same}
use Rattle.fp_coarse.proofs.nearest.above.Goals as goal

pub loop-number-init : goal.loop-number-init
loop-number-init c =
    let many = c.requires.search.many in
    let same = width_same c.args.aim.width c.requires.search.aim_is.some c.requires.search.aim_is.small in
    record {
      from = c.next_open-number.ensures.from;
      within = omega (arith, c.next_open-number.ensures.within, many);
      best = subst (λ w. AreShut c.args.rooms.now.free.items w c.args.from c.next_open-number.result) same c.next_open-number.ensures.shut;
      open_is = λ less. subst (λ w. IsTrue (has_free c.args.rooms.now.free.items w c.next_open-number.result)) same (c.next_open-number.ensures.open (omega (arith, less, many)));
    }

pub rise-requires-clause-segment : goal.rise-requires-clause-segment
rise-requires-clause-segment c = c.requires.search.segments_are.each c.loop-number.number c.loop-number-test.true

pub returns-then-is_beaten : goal.returns-then-is_beaten
returns-then-is_beaten c =
    let segments = c.args.segments.now in
    let rooms = c.args.rooms.now in
    let aim = c.args.aim in
    let number = c.loop-number.number in
    stops_above (has_free rooms.free.items aim.width) (cost_of segments aim) c.args.from number (length segments) (c.rise.result + aim.side) c.loop-number.best
    c.loop-number.invariant.best c.loop-number.invariant.within (sym c.is_beaten.ensures ∙ c.if-is_beaten.true)
    (λ n behind below pass. omega (
      arith,
      far_above segments rooms.free.items rooms.most.items aim number n c.requires.search (c.requires.above number c.loop-number.invariant.from c.loop-number-test.true) behind below pass,
      c.rise.ensures.value,
    ))

pub found_at-requires-clause-within : goal.found_at-requires-clause-within
found_at-requires-clause-within c = omega (arith, c.stretch_up-stretch.ensures.nearest.below, c.stretch_up-stretch.ensures.within)

pub loop-number-preserved : goal.loop-number-preserved
loop-number-preserved c =
    let segments = c.args.segments.now in
    let rooms = c.args.rooms.now in
    let aim = c.args.aim in
    let end = c.stretch_up-stretch.result.end in
    let many = c.requires.search.many in
    let same = width_same aim.width c.requires.search.aim_is.some c.requires.search.aim_is.small in
    let other = c.found_at.result in
    let passes : ℕ → Bool = has_free rooms.free.items aim.width in
    let least = subst (λ n. IsNearestOf segments rooms.free.items aim c.loop-number.number end n) (sym c.found_at.ensures.segment) c.stretch_up-stretch.ensures.nearest in
    let stepped = best_above passes (cost_of segments aim) c.args.from c.loop-number.number end c.loop-number.best other c.loop-number.invariant.best
    c.loop-number.invariant.from least (c.found_at.ensures.cost ∙ ap (cost_of segments aim) (sym c.found_at.ensures.segment)) in
    record {
      from = omega (arith, c.next_open-number-in-loop-number.ensures.from, c.loop-number.invariant.from, least.from, least.below);
      within = omega (arith, c.next_open-number-in-loop-number.ensures.within, many);
      best = subst (IsFound passes (cost_of segments aim) c.args.from c.next_open-number-in-loop-number.result) (sym c.earlier.ensures)
          (best_further passes (cost_of segments aim) c.args.from end c.next_open-number-in-loop-number.result (Some (earlier c.loop-number.best other)) stepped
          c.next_open-number-in-loop-number.ensures.from
          (subst (λ w. AreShut rooms.free.items w end c.next_open-number-in-loop-number.result) same c.next_open-number-in-loop-number.ensures.shut));
      open_is = λ less. subst (λ w. IsTrue (has_free rooms.free.items w c.next_open-number-in-loop-number.result)) same
          (c.next_open-number-in-loop-number.ensures.open (omega (arith, less, many)));
    }

pub returns : goal.returns
returns c =
    best_further (has_free c.args.rooms.now.free.items c.args.aim.width) (cost_of c.args.segments.now c.args.aim) c.args.from c.loop-number.number (length c.args.segments.now)
    c.loop-number.best c.loop-number.invariant.best c.loop-number.invariant.within (λ n behind below. absurd (omega (arith, behind, below, c.loop-number-test.false)))
