-- The area that each die's cells take.
use Rattle.std.specs.Prelude.{ℕ, ◌+◌, ◌-◌, Bool, List}
use Rattle.fp_base.specs.declared.ids.Die.{Die}
use Rattle.fp_base.specs.declared.ids.Die.TheVariants.{Top, Bottom}
use Rattle.fp_netlist.specs.Netlist.{Netlist}
use Rattle.fp_netlist.specs.Points.{area}
use Rattle.fp_place.specs.Areas.{keeps, area_on}

pub record Held : Type 0 where
  pub top : ℕ
  pub bottom : ℕ

abbrev pub none_held : Held
none_held = record { top = 0; bottom = 0 }

abbrev pub held_on : Held → Die → ℕ
held_on held Top = held.top
held_on held Bottom = held.bottom

-- the areas that the cells of these dies take
abbrev pub held_by : Netlist → List Die → Held
held_by p dies = record { top = area_on p Top dies; bottom = area_on p Bottom dies }

abbrev pub with_area : Held → Die → ℕ → Held
with_area held Top area = record held { top = held.top + area }
with_area held Bottom area = record held { bottom = held.bottom + area }

abbrev pub without_area : Held → Die → ℕ → Held
without_area held Top area = record held { top = held.top - area }
without_area held Bottom area = record held { bottom = held.bottom - area }

-- the die's percent holds with the cell added
abbrev pub has_room : Netlist → Held → ℕ → Die → Bool
has_room p held cell die = keeps p.plan die (held_on held die + area p cell die)
