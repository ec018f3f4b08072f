-- Laws of the costs of slots: each cut net has a row of its own.
use Rattle.std.specs.Prelude.{◌≡◌, ℕ, ◌<◌, true, List, length}
use Rattle.std.proofs.Common.{arith}
use Rattle.fp_base.specs.declared.ids.Die.{Die}
use Rattle.fp_tech.specs.Slots.{Slots}
use Rattle.fp_netlist.specs.Netlist.{Netlist}
use Rattle.fp_place.specs.Cut.{is_cut, cut_below}
use Rattle.fp_place.specs.CutLaws.{cut_rises, cut_once}
use Rattle.fp_place.specs.Places.{dies_of}
use Rattle.fp_place.specs.Placed.{Placed, places_of}
use Rattle.fp_slots.specs.Table.{SlotTable, row_at, net_of, IsRowOf, IsCostsOf}

-- a cut net has the row of the number of cut nets before it
pub record HasRow (p : Netlist) (placed : Placed) (table : SlotTable) (net : ℕ) : Type 0 where
  pub there : cut_below p (dies_of (places_of placed)) net < length table.rows
  pub net_is : net_of table (cut_below p (dies_of (places_of placed)) net) ≡ net

pub row_of_cut_net : (p : Netlist) (placed : Placed) (grid : Slots) (table : SlotTable) (net : ℕ) → IsCostsOf p placed grid table → net < length p.nets
    → is_cut p (dies_of (places_of placed)) net ≡ true → HasRow p placed table net
row_of_cut_net p placed grid table net is below is_cut_net = record { there = within; net_is = cut_once p dies (net_of table row) net at.is_cut_net is_cut_net at.in_order }
  where
    dies : List Die
    dies = dies_of (places_of placed)

    row : ℕ
    row = cut_below p dies net

    within : row < length table.rows
    within = omega (arith, cut_rises p dies net (length p.nets) is_cut_net below, is.all_cut)

    at : IsRowOf p (places_of placed) row (row_at table row)
    at = is.rows row within
