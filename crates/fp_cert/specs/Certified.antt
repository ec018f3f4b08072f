-- What a trial's duals and prices show: that each row and the choice of slots are the best.
use Rattle.std.specs.Prelude.{◌≡◌, true, ℕ, ◌+◌, ◌<◌, ◌≤◌, ◌^◌, ◌==◌, List, ◌∷◌, All, map, find, set, slice_get, Option, Some, None, unsigned_abs, ◌+ℤ◌}
use Rattle.fp_base.specs.declared.ids.Die.{Die}
use Rattle.fp_tech.specs.declared.dies.Segment.{Segment}
use Rattle.fp_tech.specs.Plan.{segments}
use Rattle.fp_tech.specs.Slots.{Slots, slot_count, centre_of}
use Rattle.fp_netlist.specs.Netlist.{Netlist}
use Rattle.fp_rows.specs.Squares.{AreDuals}
use Rattle.fp_score.specs.Score.{net_length}
use Rattle.fp_cert.specs.declared.shown.CutShown.{CutShown}
use Rattle.fp_cert.specs.Endings.{has_rows}
use Rattle.fp_cert.specs.Shown.{ShownRow, ShownTrial, ShownRun, rows_of}
use Rattle.fp_cert.specs.Standing.{places_shown, terminals_shown}
use Rattle.fp_cert.specs.Trials.{row_cells, row_xs}

-- the first dual of a row, and one behind each of its cells
abbrev pub row_duals : ShownRow → List ℕ
row_duals row = row.first ∷ map (λ cell. cell.dual) row.cells

-- each segment's duals show its positions to be the best
abbrev pub AreDualsShown : Netlist → ShownTrial → Type 0
AreDualsShown p trial = (die : Die) (number : ℕ) (segment : Segment) (row : ShownRow)
    → slice_get (segments p.plan die) number ≡ Some segment → slice_get (rows_of trial die) number ≡ Some row
    → AreDuals (row_cells p die row) segment.start (segment.start +ℤ segment.length) (row_xs row) (row_duals row)

-- a slot's price: that of its line; of a slot without a line it is 0
abbrev pub price_by : Option CutShown → ℕ
price_by None = 0
price_by (Some cut) = cut.price

abbrev pub price_shown : ShownTrial → ℕ → ℕ
price_shown trial slot = price_by (find (λ cut. cut.slot.0 == slot) trial.cuts)

-- how long a net is with its terminal in a slot, and all cells as they are shown
abbrev pub slot_cost : Netlist → Slots → ShownTrial → ℕ → ℕ → ℕ
slot_cost p grid trial net slot = unsigned_abs (net_length p (places_shown p trial) (set (terminals_shown p grid trial) net (Some (centre_of grid slot))) net)

-- with the prices added, no slot costs a cut net less than its own
abbrev pub ArePricesShown : Netlist → Slots → ShownTrial → Type 0
ArePricesShown p grid trial = (row : ℕ) (cut : CutShown) (slot : ℕ) → slice_get trial.cuts row ≡ Some cut → slot < slot_count grid
    → slot_cost p grid trial cut.net.0 cut.slot.0 + cut.price ≤ slot_cost p grid trial cut.net.0 slot + price_shown trial slot

-- a trial's duals and prices show that its rows and its slots are the best, and are small
pub record IsCertified (p : Netlist) (grid : Slots) (trial : ShownTrial) : Type 0 where
  pub duals : AreDualsShown p trial
  pub prices : ArePricesShown p grid trial
  pub small_duals : (die : Die) → All (λ row. All (λ dual. dual ≤ 2 ^ 57) (row_duals row)) (rows_of trial die)
  pub small_prices : All (λ cut. cut.price ≤ 2 ^ 36) trial.cuts

-- each trial that placed its cells has duals and prices that show it
abbrev pub AreCertified : Netlist → Slots → ShownRun → Type 0
AreCertified p grid run = (number : ℕ) (trial : ShownTrial) → slice_get run.trials number ≡ Some trial → has_rows trial.ending ≡ true → IsCertified p grid trial
