use Rattle.std.proofs.Common.{◌<◌, ◌*◌, sym, subst, arith}
use Rattle.fp_tech.specs.Slots.{slot_count, stripe_of, up}
use Rattle.fp_slots.specs.Table.{SlotTable}
use Rattle.fp_slots.proofs.SlotLemmas.{stripe_there}
use Rattle.fp_slots.proofs.slot_costs.SlotCostsCosts.first_stripe.Goals as goal

pub returns : goal.returns
returns c =
    let some : 0 < slot_count c.self.inside.grid = subst (λ (t : SlotTable). 0 < slot_count t.grid) (sym c.self.view_is) c.requires.some in
    let below : c.min.result < up c.self.inside.grid = omega (arith, c.min.ensures, c.stripes_of-stripes.ensures.count, c.stripes_of-stripes.ensures.some) in
    subst (λ (t : SlotTable). c.min.result * stripe_of t.grid < slot_count t.grid) c.self.view_is (stripe_there c.self.inside.grid c.min.result some below)
