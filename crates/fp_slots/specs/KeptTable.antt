-- What the costs of slots keep beside their value.
use Rattle.std.specs.Prelude.{ℕ, ◌*◌, ◌<◌, ◌≤◌, ◌^◌, length, All}
use Rattle.fp_tech.specs.Slots.{slot_count, slot_limit, centre_of, pitch_x, pitch_y}
use Rattle.fp_score.specs.Reaches.{IsNear}
use Rattle.fp_slots.specs.declared.slot_costs.SlotCosts.TheInside.{Inside}
use Rattle.fp_slots.specs.CutNets.{IsNearNet}
use Rattle.fp_slots.specs.Table.{SlotTable}

abbrev pub table_of : Inside → SlotTable
table_of costs = record { rows = costs.rows.items; grid = costs.grid }

-- rows and slots are few enough, and in range
pub record IsKept (costs : Inside) : Type 0 where
  pub few_rows : length costs.rows.items ≤ 2 ^ 18
  pub near_rows : All IsNearNet costs.rows.items
  pub few_slots : slot_count costs.grid ≤ slot_limit
  pub near_slots : (slot : ℕ) → slot < slot_count costs.grid → IsNear (centre_of costs.grid slot)
  pub some_step : 0 < costs.grid.stride * pitch_x costs.grid.terminal
  pub some_rise : 0 < costs.grid.stride * pitch_y costs.grid.terminal
