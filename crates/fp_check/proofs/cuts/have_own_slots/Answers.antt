use Rattle.std.proofs.Common.{◌∙◌}
use Rattle.fp_tech.specs.Slots.{slot_count}
use Rattle.fp_check.proofs.Priced.{slots_within}
use Rattle.fp_check.proofs.cuts.have_own_slots.Goals as goal

pub are_distinct-requires : goal.are_distinct-requires
are_distinct-requires c =
    slots_within (slot_count c.args.grid.now) c.slots.result c.args.cuts.now c.deref.result.now c.slots.ensures.count (c.deref.ensures.value ∙ c.in_ok-slots.ensures) c.requires
