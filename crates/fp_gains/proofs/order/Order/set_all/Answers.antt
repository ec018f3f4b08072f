use Rattle.std.proofs.Common.{◌∙◌, length, map, sym, ap, subst}
use Rattle.std.proofs.lemmas.List.{length-map}
use Rattle.fp_gains.specs.Ordered.{IsDealt}
use Rattle.fp_gains.specs.OrderParts.{number_of, key_in, HoldPlaces, order_as}
use Rattle.fp_gains.proofs.OrderLemmas.{leaves_named, dealt_places, order_dealt}
use Rattle.fp_gains.proofs.order.Order.set_all.Goals as goal

pub deal-requires : goal.deal-requires
deal-requires c =
    leaves_named c.self.inside.slots c.self.inside.tournament (length c.args.keys.now) c.self.invariant
    (sym (length-map c.self.inside.slots (key_in c.self.inside.tournament)) ∙ ap (λ o. length o.keys) c.self.view_is ∙ sym c.requires)

pub invariant_of-self : goal.invariant_of-self
invariant_of-self c =
    subst (λ leaves. HoldPlaces c.self.inside.slots (map number_of leaves) (length leaves)) (sym c.deal.ensures)
    (dealt_places c.self.inside.slots c.args.keys.now c.self.inside.tournament c.self.invariant)

pub returns : goal.returns
returns c =
    subst (λ old. IsDealt c.args.keys.now old (order_as c.self.inside.die c.self.inside.slots c.deal.new.self)) c.self.view_is
    (subst (λ leaves. IsDealt c.args.keys.now (order_as c.self.inside.die c.self.inside.slots c.self.inside.tournament) (order_as c.self.inside.die c.self.inside.slots leaves)) (sym c.deal.ensures)
    (order_dealt c.self.inside.die c.self.inside.slots c.args.keys.now c.self.inside.tournament c.self.invariant))
