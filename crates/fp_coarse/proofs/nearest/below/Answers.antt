use Rattle.std.proofs.Common.{◌≡◌, ℕ, ◌+◌, ◌-◌, ◌<◌, Bool, Some, length, IsTrue, sym, ap, subst, ◌∙◌, arith}
use Rattle.fp_coarse.specs.Nearest.{IsFound, IsNearestOf, later, cost_of}
use Rattle.fp_coarse.specs.Rooms.{has_free, AreShut}
use Rattle.fp_coarse.proofs.Bests.{best_lower, best_below, stops_below, far_below}
use Rattle.fp_coarse.proofs.Hulls.{width_same}
use Rattle.fp_coarse.proofs.nearest.below.Goals as goal

pub loop-low-init : goal.loop-low-init
loop-low-init c = let same = width_same c.args.aim.width c.requires.search.aim_is.some c.requires.search.aim_is.small in record {
  within = c.last_open-low.ensures.below;
  best = best_lower (has_free c.args.rooms.now.free.items c.args.aim.width) (cost_of c.args.segments.now c.args.aim) c.last_open-low.result c.args.from
      (length c.args.segments.now) c.args.above c.requires.best c.last_open-low.ensures.below
      (subst (λ w. AreShut c.args.rooms.now.free.items w c.last_open-low.result c.args.from) same c.last_open-low.ensures.shut);
  open_is = λ some. subst (λ w. IsTrue (has_free c.args.rooms.now.free.items w (c.last_open-low.result - 1))) same (c.last_open-low.ensures.open some);
}

pub rise-requires-clause-segment : goal.rise-requires-clause-segment
rise-requires-clause-segment c =
    c.requires.search.segments_are.each (c.loop-low.low - 1) (omega (arith, c.loop-low.invariant.within, c.requires.within, c.loop-low-test.true))

pub returns-then-is_passed : goal.returns-then-is_passed
returns-then-is_passed c =
    let segments = c.args.segments.now in
    let rooms = c.args.rooms.now in
    let aim = c.args.aim in
    let number = c.loop-low.low - 1 in
    let within : number < length segments = omega (arith, c.loop-low.invariant.within, c.requires.within, c.loop-low-test.true) in
    stops_below (has_free rooms.free.items aim.width) (cost_of segments aim) c.loop-low.low (length segments) (c.rise.result + aim.side) c.loop-low.best
    c.loop-low.invariant.best (sym c.is_passed.ensures ∙ c.if-is_passed.true)
    (λ n before pass. omega (
      arith,
      far_below segments rooms.free.items rooms.most.items aim number n c.requires.search
          (c.requires.below number (omega (arith, c.loop-low.invariant.within, c.loop-low-test.true))) (omega (arith, before)) within pass,
      c.rise.ensures.value,
    ))

pub found_at-requires-clause-within : goal.found_at-requires-clause-within
found_at-requires-clause-within c =
    omega (arith, c.stretch_down-stretch.ensures.below, c.loop-low.invariant.within, c.requires.within, c.loop-low-test.true)

pub loop-low-preserved : goal.loop-low-preserved
loop-low-preserved c =
    let segments = c.args.segments.now in
    let rooms = c.args.rooms.now in
    let aim = c.args.aim in
    let end = c.stretch_down-stretch.result.end in
    let next : (c.loop-low.low - 1) + 1 ≡ c.loop-low.low = omega (arith, c.loop-low-test.true) in
    let same = width_same aim.width c.requires.search.aim_is.some c.requires.search.aim_is.small in
    let other = c.found_at.result in
    let passes : ℕ → Bool = has_free rooms.free.items aim.width in
    let nearest = subst (λ n. IsNearestOf segments rooms.free.items aim end n c.stretch_down-stretch.result.nearest) next c.stretch_down-stretch.ensures in
    let least = subst (λ n. IsNearestOf segments rooms.free.items aim end c.loop-low.low n) (sym c.found_at.ensures.segment) nearest in
    let stepped = best_below passes (cost_of segments aim) end c.loop-low.low (length segments) c.loop-low.best other c.loop-low.invariant.best
    (omega (arith, c.loop-low.invariant.within, c.requires.within)) least (c.found_at.ensures.cost ∙ ap (cost_of segments aim) (sym c.found_at.ensures.segment)) in
    record {
      within = omega (arith, c.last_open-low-in-loop-low.ensures.below, c.loop-low.invariant.within, least.from, least.below);
      best = subst (IsFound passes (cost_of segments aim) c.last_open-low-in-loop-low.result (length segments)) (sym c.later.ensures)
          (best_lower passes (cost_of segments aim) c.last_open-low-in-loop-low.result end (length segments) (Some (later c.loop-low.best other)) stepped
          c.last_open-low-in-loop-low.ensures.below
          (subst (λ w. AreShut rooms.free.items w c.last_open-low-in-loop-low.result end) same c.last_open-low-in-loop-low.ensures.shut));
      open_is = λ some. subst (λ w. IsTrue (has_free rooms.free.items w (c.last_open-low-in-loop-low.result - 1))) same (c.last_open-low-in-loop-low.ensures.open some);
    }

pub returns : goal.returns
returns c =
    best_lower (has_free c.args.rooms.now.free.items c.args.aim.width) (cost_of c.args.segments.now c.args.aim) 0 c.loop-low.low (length c.args.segments.now)
    c.loop-low.best c.loop-low.invariant.best (omega arith) (λ n behind below. absurd (omega (arith, below, c.loop-low-test.false)))
