use Rattle.std.proofs.Common.{arith}
use Rattle.std.proofs.lemmas.Int.{ints}
use Rattle.fp_tech.proofs.GridLemmas.{slot_placed, same_point}
use Rattle.fp_tech.proofs.grid.Grid.centre.Goals as goal

pub place-x-requires : goal.place-x-requires
place-x-requires c =
    let at = slot_placed c.self.inside c.args.self.now c.self.invariant c.self.view_is c.args.slot.0 c.requires in
    omega (arith, at.x, at.right)

pub place-y-requires : goal.place-y-requires
place-y-requires c =
    let at = slot_placed c.self.inside c.args.self.now c.self.invariant c.self.view_is c.args.slot.0 c.requires in
    omega (arith, at.y, at.high)

pub returns : goal.returns
returns c =
    let at = slot_placed c.self.inside c.args.self.now c.self.invariant c.self.view_is c.args.slot.0 c.requires in
    same_point (omega (arith, ints, c.place-x.ensures, at.x, at.right)) (omega (arith, ints, c.place-y.ensures, at.y, at.high))
