-- A placement whose drawings are legal, and drawings of a problem's nets.
use Rattle.std.specs.Prelude.{◌<◌, All, length}
use Rattle.fp_tech.specs.Slots.{Slots}
use Rattle.fp_netlist.specs.Netlist.{Netlist}
use Rattle.fp_place.specs.Drawing.{Drawing}
use Rattle.fp_place.specs.OnSlots.{AreOnCuts, AreOnSlots}
use Rattle.fp_place.specs.Places.{dies_of}
use Rattle.fp_place.specs.Placed.{Placed, places_of, DoAgree, IsPlacementOf, IsInOrder}
use Rattle.fp_place.specs.Settled.{KeepRules}

-- a placement of a problem in order, whose dies keep the rules and whose cut nets, and no others, have terminals on slots of their own
pub record IsRightAnswer (p : Netlist) (grid : Slots) (placed : Placed) : Type 0 where
  pub of_problem : IsPlacementOf p placed
  pub agree : DoAgree placed
  pub in_order : IsInOrder p placed
  pub rules : KeepRules p (dies_of (places_of placed))
  pub on_cuts : AreOnCuts p (dies_of (places_of placed)) placed.terminals
  pub on_slots : AreOnSlots grid placed.terminals

-- each terminal that is drawn is one of the problem's nets
abbrev pub AreNetsOf : Netlist → Drawing → Type 0
AreNetsOf p drawing = All (λ line. line.net.0 < length p.nets) drawing.terminals
