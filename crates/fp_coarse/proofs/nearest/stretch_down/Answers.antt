use Rattle.std.proofs.Common.{negsuc, IsTrue, subst, arith}
use Rattle.std.proofs.lemmas.Int.{ints}
use Rattle.fp_coarse.specs.Rooms.{has_free, AreShut}
use Rattle.fp_coarse.proofs.Hulls.{width_same}
use Rattle.fp_coarse.proofs.Stretches.{row_same, place_same, down_before, down_behind}
use Rattle.fp_coarse.proofs.nearest.stretch_down.Goals as goal

pub returns-then-start-aim : goal.returns-then-start-aim
returns-then-start-aim c =
    let free = c.args.rooms.now.free.items in
    let same = width_same c.args.aim.width c.requires.search.aim_is.some c.requires.search.aim_is.small in
    let cut = c.first_behind-end.result in
    let first = place_same c.args.segments.now c.args.number cut c.args.aim.target.x c.requires.search.segments_are c.requires.within
    c.requires.search.aim_is.target.x c.first_behind-end.ensures in
    down_behind c.args.segments.now free c.args.rooms.now.most.items c.args.aim c.args.number c.requires.search c.requires.within c.requires.open cut c.next_open.result
    (omega (arith, ints, c.if-start-aim.true)) first c.next_open.ensures.from
    (subst (λ w. AreShut free w cut c.next_open.result) same c.next_open.ensures.shut)
    (λ less. subst (λ w. IsTrue (has_free free w c.next_open.result)) same (c.next_open.ensures.open (omega (arith, less, c.requires.search.many))))

pub returns-else-start-aim : goal.returns-else-start-aim
returns-else-start-aim c =
    let cut = c.first_behind-end-else-start-aim.result in
    let first = row_same c.args.segments.now c.args.number cut (negsuc 0) c.requires.search.segments_are c.requires.within c.first_behind-end-else-start-aim.ensures in
    down_before c.args.segments.now c.args.rooms.now.free.items c.args.rooms.now.most.items c.args.aim c.args.number c.requires.search c.requires.within c.requires.open
    cut (omega (arith, ints, c.if-start-aim.false)) first
