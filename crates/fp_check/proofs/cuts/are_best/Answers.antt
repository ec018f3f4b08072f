use Rattle.std.proofs.Common.{◌∙◌}
use Rattle.fp_tech.specs.Slots.{slot_count}
use Rattle.fp_check.proofs.Priced.{slots_within}
use Rattle.fp_check.proofs.cuts.are_best.Goals as goal

pub new-requires : goal.new-requires
new-requires c =
    slots_within (slot_count c.args.costs.now.grid) c.columns.result c.args.cuts.now c.deref.result.now c.columns.ensures (c.deref.ensures.value ∙ c.in_ok-slots.ensures) c.requires.slots
