-- Which die a cell fits, and how much of a die its cells may take.
use Rattle.std.specs.Prelude.{ℕ, ◌+◌, ◌-◌, ◌*◌, Bool, nat_le, if◌then◌else◌, List, [], ◌∷◌}
use Rattle.fp_base.specs.declared.ids.Die.{Die}
use Rattle.fp_tech.specs.Plan.{Plan, spec_of}
use Rattle.fp_netlist.specs.Netlist.{Netlist}
use Rattle.fp_netlist.specs.Points.{height, area}
use Rattle.fp_place.specs.Places.{same_die}

-- a cell fits a die where it is at most as high as the die's rows
abbrev pub fits : Netlist → ℕ → Die → Bool
fits p cell die = nat_le (height p cell die) (spec_of p.plan die).height

-- the area of a die
abbrev pub frame_area : Plan → ℕ
frame_area plan = (plan.frame.urx - plan.frame.llx) * (plan.frame.ury - plan.frame.lly)

-- cells of this area keep a die's percent
abbrev pub keeps : Plan → Die → ℕ → Bool
keeps plan die taken = nat_le (100 * taken) ((spec_of plan die).percent * frame_area plan)

-- the area that a die's cells take, where the cells from a number on stand on these dies
unfoldable pub area_from : Netlist → Die → ℕ → List Die → ℕ
area_from p die cell [] = 0
area_from p die cell (first ∷ others) = (if same_die first die then area p cell die else 0) + area_from p die (cell + 1) others

abbrev pub area_on : Netlist → Die → List Die → ℕ
area_on p die dies = area_from p die 0 dies
