use Rattle.std.proofs.Common.{◌≡◌, ◌+◌, length, refl, sym, subst, arith}
use Rattle.fp_gains.specs.OrderParts.{AreSlots}
use Rattle.fp_gains.proofs.SortLemmas.{slots_more}
use Rattle.fp_gains.proofs.order.slots_of.Goals as goal

pub loop-slot-preserved : goal.loop-slot-preserved
loop-slot-preserved c =
    subst (λ slots. AreSlots c.args.count slots c.args.cells.now (c.loop-slot.slot + 1)) (sym c.put.ensures)
    (slots_more c.args.count c.loop-slot.slots c.args.cells.now c.loop-slot.slot _ c.loop-slot.invariant c.loop-slot-test.true c.requires.within c.requires.apart refl)

pub returns : goal.returns
returns c =
    let all : c.loop-slot.slot ≡ length c.args.cells.now = omega (arith, c.loop-slot-test.false, c.loop-slot.auto.slot-end) in
    subst (AreSlots c.args.count c.loop-slot.slots c.args.cells.now) all c.loop-slot.invariant
