-- A placement whose cut nets have the best slots, and a trial that lists them.
use Rattle.std.specs.Prelude.{◌≡◌, ℕ, ◌≤◌, ◌^◌, zero, suc, List, All, length, map, set, slice_index, Option, Some}
use Rattle.std.specs.List.{range_with_len}
use Rattle.fp_base.specs.declared.ids.Point.{Point}
use Rattle.fp_tech.specs.Slots.{Slots, slot_count, centre_of}
use Rattle.fp_netlist.specs.Netlist.{Netlist}
use Rattle.fp_place.specs.Places.{dies_of}
use Rattle.fp_place.specs.Placed.{Placed, places_of}
use Rattle.fp_match.specs.Prices.{Solution, IsChoice, ArePrices}
use Rattle.fp_score.specs.SlotBest.{chosen_terminals, IsSlotBest}
use Rattle.fp_slots.specs.Table.{SlotTable, net_of, cost_of, IsCostsOf}
use Rattle.fp_cert.specs.declared.shown.CutShown.{CutShown}
use Rattle.fp_cert.specs.Shown.{ShownTrial}
use Rattle.fp_cert.specs.Trials.{cut_nets}

-- terminals with those of the first rows' nets set to the rows' slots
unfoldable pub with_slots : Slots → SlotTable → List ℕ → ℕ → List (Option Point) → List (Option Point)
with_slots grid table chosen zero terminals = terminals
with_slots grid table chosen (suc row) terminals = set (with_slots grid table chosen row terminals) (net_of table row) (Some (centre_of grid (slice_index chosen row)))

-- the line of a row: its net, its slot and the slot's price
abbrev pub slotted_line : SlotTable → Solution → ℕ → CutShown
slotted_line table solution row = record {
  net = record { 0 = net_of table row };
  slot = record { 0 = slice_index solution.chosen row };
  price = slice_index solution.prices (slice_index solution.chosen row);
}

abbrev pub slotted_lines : SlotTable → Solution → ℕ → List CutShown
slotted_lines table solution rows = map (slotted_line table solution) (range_with_len 0 rows)

-- the placement has the slots of a solution as its terminals, and all else as before; the trial lists them, and has all else as before
pub record IsSlotted (p : Netlist) (grid : Slots) (placed slotted : Placed) (before after : ShownTrial) : Type 0 where
  pub table : SlotTable
  pub solution : Solution
  pub costs : IsCostsOf p placed grid table
  pub slotted_is : slotted ≡ record placed { terminals = chosen_terminals p grid (dies_of (places_of placed)) solution.chosen }
  pub best : IsSlotBest p (places_of placed) grid slotted.terminals
  pub choice : IsChoice (length table.rows) (slot_count grid) solution.chosen
  pub prices : ArePrices (cost_of table) (slot_count grid) solution.chosen solution.prices
  pub capped : All (λ price. price ≤ 2 ^ 36) solution.prices
  pub many_prices : length solution.prices ≡ slot_count grid
  pub after_is : after ≡ record before { cuts = slotted_lines table solution (length table.rows) }
  pub nets_are : map (λ cut. cut.net.0) after.cuts ≡ cut_nets p (dies_of (places_of placed))
  pub slots_are : map (λ cut. cut.slot.0) after.cuts ≡ solution.chosen
