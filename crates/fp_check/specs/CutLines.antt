-- A trial's lines of cut nets beside the rows of a table of slots' costs: their nets, their slots and their prices.
use Rattle.std.specs.Prelude.{ℕ, ◌==◌, List, [], ◌∷◌, map, find, set, Option}
use Rattle.std.specs.List.{range_with_len}
use Rattle.fp_tech.specs.Slots.{slot_count}
use Rattle.fp_match.specs.Prices.{ArePrices}
use Rattle.fp_slots.specs.declared.cut_net.CutNet.{CutNet}
use Rattle.fp_slots.specs.Table.{SlotTable, cost_of}
use Rattle.fp_cert.specs.declared.shown.CutShown.{CutShown}
use Rattle.fp_cert.specs.Certified.{price_by}

abbrev pub slots_of : List CutShown → List ℕ
slots_of cuts = map (λ cut. cut.slot.0) cuts

-- the nets of a table's rows
abbrev pub nets_in : SlotTable → List ℕ
nets_in table = map (λ (row : CutNet). row.net.0) table.rows

-- the first line of a slot
abbrev pub find_slot : ℕ → List CutShown → Option CutShown
find_slot slot cuts = find (λ cut. cut.slot.0 == slot) cuts

-- the prices of so many slots: each that of its first line
unfoldable pub prices_by : ℕ → List CutShown → List ℕ
prices_by slots cuts = map (λ slot. price_by (find_slot slot cuts)) (range_with_len 0 slots)

-- prices with those of the lines' slots set to the lines', of a slot with several lines to that of the first
unfoldable pub with_prices : List CutShown → List ℕ → List ℕ
with_prices [] prices = prices
with_prices (cut ∷ cuts) prices = set (with_prices cuts prices) cut.slot.0 cut.price

-- the prices of lines show that the lines' slots are the best
abbrev pub AreBest : SlotTable → List CutShown → Type 0
AreBest table cuts = ArePrices (cost_of table) (slot_count table.grid) (slots_of cuts) (prices_by (slot_count table.grid) cuts)
