use Rattle.std.proofs.Common.{◌≡◌, ◌+◌, ℤ, pos, ◌+ℤ◌, ◌≤ℤ◌, to_z, of_z, w64, drop, get_or, sym, subst, arith}
use Rattle.std.proofs.lemmas.Int.{ints}
use Rattle.fp_base.specs.declared.ids.CellId.{CellId}
use Rattle.fp_netlist.specs.Points.{width}
use Rattle.fp_place.specs.Places.{place_at}
use Rattle.fp_place.specs.Placed.{places_of, StandBetween}
use Rattle.fp_check.proofs.Startings.{stands_next, stands_last, at_most_told, not_below_told}
use Rattle.fp_check.proofs.start.stand_between.Goals as goal

pub loop-cell-preserved : goal.loop-cell-preserved
loop-cell-preserved c =
    let p = c.args.problem.now in
    let die = c.args.die in
    let places = places_of c.args.placement.now in
    let lane = c.args.lane.now in
    let i = c.loop-cell.cell-index in
    let cell : CellId = get_or lane i (record { 0 = 0 }) in
    let to = c.args.segment.now.start +ℤ c.args.segment.now.length in
    let least = c.x_of-x.ensures.range.least in
    let most = c.x_of-x.ensures.range.most in
    let x_is : c.x_of-x.result ≡ (place_at places cell.0).x = c.x_of-x.ensures.x in
    let wide : c.width.result ≡ pos (width p cell.0 die) = c.width.ensures.width in
    let some = c.width.ensures.range.0 in
    let few = c.width.ensures.range.1 in
    let next : to_z w64 (of_z w64 (to_z w64 (of_z w64 c.x_of-x.result) +ℤ to_z w64 (of_z w64 c.width.result))) ≡ (place_at places cell.0).x +ℤ pos (width p cell.0 die) =
    omega (arith, ints, x_is, least, most, wide, some, few) in
    let behind = not_below_told (to_z w64 (of_z w64 c.x_of-x.result)) (to_z w64 c.loop-cell.from-bits) c.if-x-from.false in
    let starts : to_z w64 c.loop-cell.from-bits ≤ℤ (place_at places cell.0).x = omega (arith, ints, x_is, least, most, behind) in
    let step = stands_next p die places lane i (record { 0 = 0 }) (to_z w64 c.loop-cell.from-bits) to c.loop-cell-test.true starts in
    record {
      low = omega (arith, ints, next, x_is, least, most, wide, some, few);
      high = omega (arith, ints, next, x_is, least, most, wide, some, few);
      rest = (
        λ all. subst (λ (from : ℤ). StandBetween p die places from to (drop (i + 1) lane)) (sym next) (step.0 (c.loop-cell.invariant.rest.0 all)),
        λ more. c.loop-cell.invariant.rest.1 (step.1 (subst (λ (from : ℤ). StandBetween p die places from to (drop (i + 1) lane)) next more)),
      );
    }

pub returns : goal.returns
returns c =
    let to = c.args.segment.now.start +ℤ c.args.segment.now.length in
    let from = to_z w64 c.loop-cell.from-bits in
    let end = to_z w64 (of_z w64 (to_z w64 (of_z w64 c.args.segment.now.start) +ℤ to_z w64 (of_z w64 c.args.segment.now.length))) in
    let lies = c.requires.segment in
    let end_is : end ≡ to = omega (arith, ints, lies.start.least, lies.start.most, lies.length.least, lies.length.most, lies.end.least, lies.end.most) in
    let last = stands_last c.args.problem.now c.args.die (places_of c.args.placement.now) c.args.lane.now c.loop-cell.cell-index from to c.loop-cell-test.false in
    let told = at_most_told from end in (
      λ yes. c.loop-cell.invariant.rest.1 (last.1 (subst (λ (x : ℤ). from ≤ℤ x) end_is (told.0 yes))),
      λ all. told.1 (subst (λ (x : ℤ). from ≤ℤ x) (sym end_is) (last.0 (c.loop-cell.invariant.rest.0 all))),
    )
