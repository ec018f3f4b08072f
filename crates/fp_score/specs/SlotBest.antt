-- The best choice of slots: the cells stand, and of all choices of a slot of its own for each cut net none makes the cut nets shorter
-- together.
use Rattle.std.specs.Prelude.{◌≡◌, ◌≢◌, ℕ, zero, suc, ◌<◌, List, length, map, get_or, Option, Some, None, ℤ, pos, ◌+ℤ◌, ◌≤ℤ◌, if◌then◌else◌}
use Rattle.std.specs.List.{range_with_len}
use Rattle.fp_base.specs.declared.ids.Die.{Die}
use Rattle.fp_base.specs.declared.ids.Die.TheVariants.{Top, Bottom}
use Rattle.fp_base.specs.declared.ids.Point.{Point}
use Rattle.fp_tech.specs.Slots.{Slots, slot_count, centre_of}
use Rattle.fp_netlist.specs.Netlist.{Netlist}
use Rattle.fp_place.specs.Places.{Place, dies_of}
use Rattle.fp_place.specs.Cut.{is_cut, cut_below, cut}
use Rattle.fp_score.specs.Score.{pins_on, length_of, net_length}

-- a list of so many slots of the grid, no two of which are one
pub record AreSlots (grid : Slots) (count : ℕ) (chosen : List ℕ) : Type 0 where
  pub many : length chosen ≡ count
  pub within : (k : ℕ) → k < length chosen → get_or chosen k 0 < slot_count grid
  pub distinct : (i j : ℕ) → i < j → j < length chosen → get_or chosen i 0 ≢ get_or chosen j 0

-- the terminal of a net where the cut nets in file order have the slots of a list: the k-th of them, counted from 0, has that at place k
abbrev pub terminal_in : Netlist → Slots → List Die → List ℕ → ℕ → Option Point
terminal_in p grid dies chosen net = if is_cut p dies net then Some (centre_of grid (get_or chosen (cut_below p dies net) 0)) else None

unfoldable pub chosen_terminals : Netlist → Slots → List Die → List ℕ → List (Option Point)
chosen_terminals p grid dies chosen = map (terminal_in p grid dies chosen) (range_with_len 0 (length p.nets))

-- the lengths of the cut ones of the first nets, and of all
unfoldable pub cut_length_below : Netlist → List Place → List (Option Point) → ℕ → ℤ
cut_length_below p places terminals zero = pos 0
cut_length_below p places terminals (suc net) =
    cut_length_below p places terminals net +ℤ (if is_cut p (dies_of places) net then net_length p places terminals net else pos 0)

abbrev pub cut_length : Netlist → List Place → List (Option Point) → ℤ
cut_length p places terminals = cut_length_below p places terminals (length p.nets)

-- the half-perimeter wirelength of a net's pins on both dies, without a terminal
abbrev pub pins_length : Netlist → List Place → ℕ → ℤ
pins_length p places net = length_of (pins_on p places Top net) +ℤ length_of (pins_on p places Bottom net)

-- the lengths of those of the first nets that are not cut, and of all: no terminal counts in them
unfoldable pub uncut_length_below : Netlist → List Place → ℕ → ℤ
uncut_length_below p places zero = pos 0
uncut_length_below p places (suc net) = uncut_length_below p places net +ℤ (if is_cut p (dies_of places) net then pos 0 else pins_length p places net)

abbrev pub uncut_length : Netlist → List Place → ℤ
uncut_length p places = uncut_length_below p places (length p.nets)

-- the cut nets have slots of their own, no other net has a terminal, and no other such choice makes the cut nets shorter together
pub record IsSlotBest (p : Netlist) (places : List Place) (grid : Slots) (terminals : List (Option Point)) : Type 0 where
  pub chosen : List ℕ
  pub are_slots : AreSlots grid (cut p (dies_of places)) chosen
  pub terminals_are : terminals ≡ chosen_terminals p grid (dies_of places) chosen
  pub least : (other : List ℕ) → AreSlots grid (cut p (dies_of places)) other
      → cut_length p places terminals ≤ℤ cut_length p places (chosen_terminals p grid (dies_of places) other)
