-- Room for the trials of a problem.
use Rattle.std.specs.Prelude.{◌≤◌, List}
use Rattle.fp_base.specs.declared.ids.Die.{Die}
use Rattle.fp_tech.specs.Slots.{Slots, slot_count}
use Rattle.fp_netlist.specs.Netlist.{Netlist}
use Rattle.fp_place.specs.Cut.{cut}
use Rattle.fp_flow.specs.declared.buffers.Buffers.{Buffers}

-- the buffers have room for the cut nets of dies and for all slots
pub record HaveRoom (p : Netlist) (grid : Slots) (dies : List Die) (buffers : Buffers) : Type 0 where
  pub rows : cut p dies ≤ buffers.matcher.row_room
  pub columns : slot_count grid ≤ buffers.matcher.column_room
