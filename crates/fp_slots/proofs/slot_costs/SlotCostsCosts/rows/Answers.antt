use Rattle.fp_slots.proofs.Tables.{within_limits}
use Rattle.fp_slots.proofs.slot_costs.SlotCostsCosts.rows.Goals as goal

pub returns-clause-limits : goal.returns-clause-limits
returns-clause-limits c = rw (← c.self.view_is) (within_limits _ c.self.invariant.few_rows c.self.invariant.few_slots c.self.invariant.near_rows c.self.invariant.near_slots)
