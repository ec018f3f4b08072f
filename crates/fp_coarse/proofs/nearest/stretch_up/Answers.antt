use Rattle.std.proofs.Common.{pos, ◌^◌, ◌-◌, IsTrue, subst, arith}
use Rattle.std.proofs.lemmas.Int.{ints}
use Rattle.fp_coarse.specs.Rooms.{has_free, AreShut}
use Rattle.fp_coarse.proofs.Hulls.{width_same}
use Rattle.fp_coarse.proofs.Stretches.{row_same, place_same, alone, up_some, up_before, up_behind}
use Rattle.fp_coarse.proofs.nearest.stretch_up.Goals as goal

pub overflow_sub-result : goal.overflow_sub-result
overflow_sub-result c =
    let free = c.args.rooms.now.free.items in
    let same = width_same c.args.aim.width c.requires.search.aim_is.some c.requires.search.aim_is.small in
    let cut = c.first_behind-end-else-start-aim.result in
    let first = place_same c.args.segments.now c.args.number cut c.args.aim.target.x c.requires.search.segments_are c.requires.within
    c.requires.search.aim_is.target.x c.first_behind-end-else-start-aim.ensures in
    omega (
      arith,
      up_some c.args.segments.now free c.args.rooms.now.most.items c.args.aim c.args.number c.requires.search c.requires.within c.requires.open cut c.last_open.result
          (omega (arith, ints, c.if-start-aim.false)) first
          (subst (λ w. AreShut free w c.last_open.result cut) same c.last_open.ensures.shut),
    )

pub returns-then-not-goes_on-clause-nearest : goal.returns-then-not-goes_on-clause-nearest
returns-then-not-goes_on-clause-nearest c = alone c.args.segments.now c.args.rooms.now.free.items c.args.aim c.args.number c.requires.open

pub returns-then-start-aim-clause-nearest : goal.returns-then-start-aim-clause-nearest
returns-then-start-aim-clause-nearest c =
    let cut = c.first_behind-end.result in
    let first = row_same c.args.segments.now c.args.number cut (pos (2 ^ 30)) c.requires.search.segments_are c.requires.within c.first_behind-end.ensures in
    up_behind c.args.segments.now c.args.rooms.now.free.items c.args.rooms.now.most.items c.args.aim c.args.number c.requires.search c.requires.within c.requires.open
    cut (omega (arith, ints, c.if-start-aim.true)) first

pub returns-else-start-aim-clause-nearest : goal.returns-else-start-aim-clause-nearest
returns-else-start-aim-clause-nearest c =
    let free = c.args.rooms.now.free.items in
    let same = width_same c.args.aim.width c.requires.search.aim_is.some c.requires.search.aim_is.small in
    let cut = c.first_behind-end-else-start-aim.result in
    let first = place_same c.args.segments.now c.args.number cut c.args.aim.target.x c.requires.search.segments_are c.requires.within
    c.requires.search.aim_is.target.x c.first_behind-end-else-start-aim.ensures in
    up_before c.args.segments.now free c.args.rooms.now.most.items c.args.aim c.args.number c.requires.search c.requires.within c.requires.open cut c.last_open.result
    (omega (arith, ints, c.if-start-aim.false)) first c.last_open.ensures.below
    (subst (λ w. AreShut free w c.last_open.result cut) same c.last_open.ensures.shut)
    (λ some. subst (λ w. IsTrue (has_free free w (c.last_open.result - 1))) same (c.last_open.ensures.open some))
