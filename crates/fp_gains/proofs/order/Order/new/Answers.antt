use Rattle.std.proofs.Common.{◌≡◌, ◌<◌, ◌∙◌, length, map, get_or, sym, ap, subst, arith}
use Rattle.std.specs.List.{All}
use Rattle.fp_base.specs.declared.ids.CellId.{CellId}
use Rattle.fp_gains.specs.Contests.{unkeyed}
use Rattle.fp_gains.specs.Ordered.{IsNewOrder}
use Rattle.fp_gains.specs.OrderParts.{number_of, HoldPlaces, AreSlots, order_as}
use Rattle.fp_gains.proofs.OrderLemmas.{places_new, new_order}
use Rattle.fp_gains.proofs.order.Order.new.Goals as goal
use Rattle.fp_gains.proofs.order.Order.new.Goals.{In_ok-tournament}

pub slots_of-requires-clause-few : goal.slots_of-requires-clause-few
slots_of-requires-clause-few c = omega (arith, c.in_ok-cells.ensures.few, ap length c.deref.ensures.value, c.cells.ensures.sound.few_cells)

pub new-requires-clause-few : goal.new-requires-clause-few
new-requires-clause-few c = omega (arith, c.in_ok-cells.ensures.few, ap length c.deref-2.ensures.value, c.cells.ensures.sound.few_cells)

pub new-requires-clause-small : goal.new-requires-clause-small
new-requires-clause-small c =
    subst (All (λ (cell : CellId). cell.0 < 262144)) (sym c.deref-2.ensures.value)
    (λ i default below. let less : (get_or c.in_ok-cells.cells.items i default).0 < length c.args.problem.now.cells = c.in_ok-cells.ensures.within i default below in omega (arith, less, c.cells.ensures.sound.few_cells))

slots : (c : In_ok-tournament) → AreSlots (length c.args.problem.now.cells) c.in_ok-slots.slots c.in_ok-cells.cells.items (length c.in_ok-cells.cells.items)
slots c =
    subst (λ many. AreSlots many c.in_ok-slots.slots c.in_ok-cells.cells.items (length c.in_ok-cells.cells.items)) c.cells.ensures.count
    (subst (λ cells. AreSlots c.cells.result c.in_ok-slots.slots cells (length cells)) c.deref.ensures.value c.in_ok-slots.ensures)

leaves : (c : In_ok-tournament) → c.in_ok-tournament.tournament ≡ map unkeyed c.in_ok-cells.cells.items
leaves c = c.in_ok-tournament.ensures ∙ ap (map unkeyed) c.deref-2.ensures.value

pub invariant_of-result : goal.invariant_of-result
invariant_of-result c =
    subst (λ tournament. HoldPlaces c.in_ok-slots.slots (map number_of tournament) (length tournament)) (sym (leaves c))
    (places_new (length c.args.problem.now.cells) c.in_ok-slots.slots c.in_ok-cells.cells.items (slots c))

pub returns : goal.returns
returns c =
    let d = (goal.at.returns c).In_ok-tournament in
    subst (λ tournament. IsNewOrder c.args.problem.now c.args.die (order_as c.args.die c.in_ok-slots.slots tournament)) (sym (leaves d))
    (new_order c.args.problem.now c.args.die c.in_ok-cells.cells.items c.in_ok-slots.slots c.in_ok-cells.ensures (slots d))
