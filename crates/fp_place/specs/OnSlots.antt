-- Terminals where they belong: one for each cut net, each on a slot of its own.
use Rattle.std.specs.Prelude.{◌≡◌, ℕ, ◌<◌, List, length, get_or, Option, Some, None, is_some}
use Rattle.fp_base.specs.declared.ids.Die.{Die}
use Rattle.fp_base.specs.declared.ids.Point.{Point}
use Rattle.fp_tech.specs.Slots.{Slots, slot_count, centre_of}
use Rattle.fp_netlist.specs.Netlist.{Netlist}
use Rattle.fp_place.specs.Cut.{is_cut}

-- exactly the cut nets have a terminal
abbrev pub AreOnCuts : Netlist → List Die → List (Option Point) → Type 0
AreOnCuts p dies terminals = (net : ℕ) → net < length p.nets → is_some (get_or terminals net None) ≡ is_cut p dies net

-- a centre is that of a slot
pub record IsOnSlot (grid : Slots) (centre : Point) : Type 0 where
  pub slot : ℕ
  pub within : slot < slot_count grid
  pub at : centre ≡ centre_of grid slot

-- each net's terminal, if it has one, is on a slot, and two nets with the same centre are one net
pub record AreOnSlots (grid : Slots) (terminals : List (Option Point)) : Type 0 where
  pub on_slot : (net : ℕ) (centre : Point) → net < length terminals → get_or terminals net None ≡ Some centre → IsOnSlot grid centre
  pub apart : (a b : ℕ) (centre : Point) → a < length terminals → b < length terminals
      → get_or terminals a None ≡ Some centre → get_or terminals b None ≡ Some centre → a ≡ b
