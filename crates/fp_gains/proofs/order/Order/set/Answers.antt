use Rattle.std.proofs.Common.{◌≡◌, ◌∙◌, ◌<◌, map, get_or, Some, None, sym, ap, subst, length}
use Rattle.fp_gains.specs.Ordered.{with_key}
use Rattle.fp_gains.specs.OrderParts.{number_of, HoldPlaces, order_as}
use Rattle.fp_gains.proofs.OrderLemmas.{places_kept, key_set, keys_long}
use Rattle.fp_gains.proofs.order.Order.set.Goals as goal
use Rattle.fp_gains.proofs.order.Order.set.Goals.{In-Some}

inside : (c : In-Some) → c.args.cell.0 < length c.self.inside.slots
inside c = keys_long c.self.inside.die c.self.inside.slots c.self.inside.tournament c.args.self.now c.args.cell.0 c.self.view_is c.requires

there : (c : In-Some) → get_or c.self.inside.slots c.args.cell.0 None ≡ Some c.in-Some.slot
there c = sym c.get.ensures ∙ c.in-Some.is

pub set-requires : goal.set-requires
set-requires c = (c.self.invariant.named c.args.cell.0 c.in-Some.slot (there (goal.at.set-requires c).In-Some)).0

pub invariant_of-self : goal.invariant_of-self
invariant_of-self c =
    subst (λ leaves. HoldPlaces c.self.inside.slots (map number_of leaves) (length leaves)) (sym c.set.ensures)
    (places_kept c.self.inside.slots c.self.inside.tournament c.in-Some.slot c.args.key c.self.invariant)

pub returns-in-Some : goal.returns-in-Some
returns-in-Some c =
    let places = c.self.inside.slots in
    let d = (goal.at.returns-in-Some c).In-Some in
    ap (order_as c.self.inside.die places) c.set.ensures
    ∙ key_set c.self.inside.die places c.self.inside.tournament c.args.cell.0 c.in-Some.slot c.args.key c.self.invariant (there d) (inside d)
    ∙ ap (λ o. with_key o c.args.cell.0 c.args.key) c.self.view_is
