-- Rows with room for their cells, and what is asked of them.
use Rattle.std.specs.Prelude.{◌≡◌, ℕ, ◌<◌, true, List, All, length, slice_get, Some, ℤ, ◌+ℤ◌}
use Rattle.fp_base.specs.declared.ids.Die.{Die}
use Rattle.fp_tech.specs.declared.dies.Segment.{Segment}
use Rattle.fp_tech.specs.Plan.{segments}
use Rattle.fp_netlist.specs.Netlist.{Netlist}
use Rattle.fp_rows.specs.declared.RowCell.{RowCell}
use Rattle.fp_rows.specs.Squares.{Feasible, AreDuals, IsRow, ArePlaces}
use Rattle.fp_cert.specs.Certified.{row_duals}
use Rattle.fp_cert.specs.Endings.{has_rows}
use Rattle.fp_cert.specs.Shown.{ShownRow, ShownTrial, ShownRun, rows_of}
use Rattle.fp_cert.specs.Trials.{row_cells, row_xs}
use Rattle.fp_check.specs.declared.rows.Asked.{Asked}
use Rattle.fp_check.specs.declared.rows.Asked.TheVariants.{Order, Duals}
use Rattle.fp_check.specs.Conditions.{OfPlaced}

-- each segment has room for its row, whose positions are in range
pub record HasRoom (p : Netlist) (trial : ShownTrial) : Type 0 where
  pub long : (die : Die) → length (rows_of trial die) ≡ length (segments p.plan die)
  pub rows : (die : Die) (number : ℕ) (segment : Segment) (row : ShownRow) → slice_get (segments p.plan die) number ≡ Some segment
      → slice_get (rows_of trial die) number ≡ Some row → IsRow (row_cells p die row) segment.start (segment.start +ℤ segment.length)
  pub places : (die : Die) (number : ℕ) (row : ShownRow) → slice_get (rows_of trial die) number ≡ Some row → ArePlaces (row_cells p die row) (row_xs row)
  pub within : (die : Die) → All (λ row. All (λ line. line.cell.0 < length p.cells) row.cells) (rows_of trial die)

abbrev pub HaveRoom : Netlist → ShownRun → Type 0
HaveRoom p run = OfPlaced run (HasRoom p)

-- the same, of trials
abbrev pub HaveRoomOn : Netlist → List ShownTrial → Type 0
HaveRoomOn p trials = (number : ℕ) (trial : ShownTrial) → slice_get trials number ≡ Some trial → has_rows trial.ending ≡ true → HasRoom p trial

-- ---- what is asked of a row

-- of cells, positions and duals between two ends
abbrev pub MeetsAt : Asked → List RowCell → ℤ → ℤ → List ℤ → List ℕ → Type 0
MeetsAt Order cells from to xs duals = Feasible cells from to xs
MeetsAt Duals cells from to xs duals = Feasible cells from to xs × AreDuals cells from to xs duals

-- of a row on a segment
abbrev pub Meets : Asked → Netlist → Die → Segment → ShownRow → Type 0
Meets asked p die segment row = MeetsAt asked (row_cells p die row) segment.start (segment.start +ℤ segment.length) (row_xs row) (row_duals row)

-- of the rows of a die, of a trial, and of each trial that placed its cells
abbrev pub MeetOn : Netlist → Asked → ShownTrial → Die → Type 0
MeetOn p asked trial die = (number : ℕ) (segment : Segment) (row : ShownRow)
    → slice_get (segments p.plan die) number ≡ Some segment → slice_get (rows_of trial die) number ≡ Some row → Meets asked p die segment row

abbrev pub MeetsAll : Netlist → Asked → ShownTrial → Type 0
MeetsAll p asked trial = (die : Die) → MeetOn p asked trial die

abbrev pub AllMeet : Netlist → Asked → List ShownTrial → Type 0
AllMeet p asked trials = (number : ℕ) (trial : ShownTrial) → slice_get trials number ≡ Some trial → has_rows trial.ending ≡ true → MeetsAll p asked trial
