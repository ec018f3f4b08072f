-- Cut nets and slots, and what each slot costs each net.
use Rattle.std.specs.Prelude.{◌≡◌, ℕ, ◌+◌, ◌*◌, ◌<◌, ◌≤◌, true, List, length, get_or, set, Some, pos, unsigned_abs}
use Rattle.fp_base.specs.declared.ids.Point.{Point}
use Rattle.fp_tech.specs.Slots.{Slots, slot_count, stripe_of, centre_of}
use Rattle.fp_netlist.specs.Netlist.{Netlist}
use Rattle.fp_place.specs.Cut.{is_cut, cut_below, cut}
use Rattle.fp_place.specs.Places.{Place, dies_of}
use Rattle.fp_place.specs.Placed.{Placed, places_of}
use Rattle.fp_score.specs.Reaches.{pins_reached}
use Rattle.fp_score.specs.Score.{net_length}
use Rattle.fp_slots.specs.declared.cut_net.CutNet.{CutNet}
use Rattle.fp_slots.specs.CutNets.{length_with, IsShortOnEach}

pub record SlotTable : Type 0 where
  pub rows : List CutNet
  pub grid : Slots

-- the net that stands for one that is not there
abbrev pub no_net : CutNet
no_net = record {
  net = record { 0 = 0 };
  top = record { left = pos 0; right = pos 0; low = pos 0; high = pos 0 };
  bottom = record { left = pos 0; right = pos 0; low = pos 0; high = pos 0 };
}

abbrev pub row_at : SlotTable → ℕ → CutNet
row_at table row = get_or table.rows row no_net

-- the net of a row
abbrev pub net_of : SlotTable → ℕ → ℕ
net_of table row = (row_at table row).net.0

-- the row's net is so long with its terminal in the slot; it is never less than 0
abbrev pub cost_of : SlotTable → ℕ → ℕ → ℕ
cost_of table row slot = unsigned_abs (length_with (row_at table row) (centre_of table.grid slot))

-- the slots of a range are of the stripe, which is all slots of one y, and the row's net is shorter than the limit with what each adds on either die alone
pub record AreShort (table : SlotTable) (row stripe limit start end : ℕ) : Type 0 where
  pub from : (slot : ℕ) → start ≤ slot → slot < end → stripe * stripe_of table.grid ≤ slot
  pub to : (slot : ℕ) → start ≤ slot → slot < end → slot < stripe * stripe_of table.grid + stripe_of table.grid
  pub short : (slot : ℕ) → start ≤ slot → slot < end → IsShortOnEach (row_at table row) (centre_of table.grid slot) limit

-- a row is a cut net: of the nets before it so many are cut as there are rows before it
pub record IsRowOf (p : Netlist) (places : List Place) (row : ℕ) (it : CutNet) : Type 0 where
  pub is_cut_net : is_cut p (dies_of places) it.net.0 ≡ true
  pub in_order : cut_below p (dies_of places) it.net.0 ≡ row
  pub within : it.net.0 < length p.nets
  pub reaches : pins_reached p places it.net.0 ≡ record { top = Some it.top; bottom = Some it.bottom }

-- a placement's cut nets, in file order, over a grid: a cost is the length of the row's net with its terminal set to the slot
pub record IsCostsOf (p : Netlist) (placed : Placed) (grid : Slots) (table : SlotTable) : Type 0 where
  pub slots : table.grid ≡ grid
  pub all_cut : length table.rows ≡ cut p (dies_of (places_of placed))
  pub rows : (row : ℕ) → row < length table.rows → IsRowOf p (places_of placed) row (row_at table row)
  pub lengths : (row : ℕ) (centre : Point) → row < length table.rows
      → length_with (row_at table row) centre ≡ net_length p (places_of placed) (set placed.terminals (net_of table row) (Some centre)) (net_of table row)
  pub costs : (row slot : ℕ) → row < length table.rows → slot < slot_count grid
      → pos (cost_of table row slot) ≡ net_length p (places_of placed) (set placed.terminals (net_of table row) (Some (centre_of grid slot))) (net_of table row)
