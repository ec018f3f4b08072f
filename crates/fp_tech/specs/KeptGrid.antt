-- What a grid keeps beside its value.
use Rattle.std.specs.Prelude.{◌≡◌, ◌+◌, ◌*◌, ◌≤◌, ◌^◌}
use Rattle.fp_tech.specs.Plan.{IsFrame, IsTermSpec}
use Rattle.fp_tech.specs.Slots.{Slots, margin, pitch_x, pitch_y, across, up, slot_count, slot_limit}
use Rattle.fp_tech.specs.declared.grid.Grid.TheInside.{Inside}

abbrev pub slots_of : Inside → Slots
slots_of g = record { frame = g.frame; terminal = g.terminal; stride = g.stride }

abbrev pub fields_of : Slots → Inside
fields_of s = record {
  frame = s.frame;
  terminal = s.terminal;
  stride = s.stride;
  across = across s;
  up = up s;
  first_x = s.frame.llx + margin s.terminal.size_x s.terminal.spacing;
  first_y = s.frame.lly + margin s.terminal.size_y s.terminal.spacing;
  step_x = s.stride * pitch_x s.terminal;
  step_y = s.stride * pitch_y s.terminal;
}

-- the numbers that a grid keeps are those of its value, which is within the input's ranges
pub record IsKept (g : Inside) : Type 0 where
  pub is_frame : IsFrame g.frame
  pub is_terminal : IsTermSpec g.terminal
  pub some_stride : 1 ≤ g.stride
  pub small_stride : g.stride ≤ 2 ^ 21
  pub few : slot_count (slots_of g) ≤ slot_limit
  pub same : fields_of (slots_of g) ≡ g

pub fields_again : (g : Inside) → IsKept g → fields_of (slots_of g) ≡ g
fields_again g kept = kept.same
