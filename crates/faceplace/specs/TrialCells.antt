-- The cells that the trials of a run name as those without a row.
use Rattle.std.specs.Prelude.{◌≡◌, ℕ, ◌<◌, List, length, slice_get, Some}
use Rattle.fp_netlist.specs.Netlist.{Netlist}
use Rattle.fp_cert.specs.declared.shown.Ending.{Ending}
use Rattle.fp_cert.specs.declared.shown.Ending.TheVariants.{Start, Better, NotBetter, NoRow}
use Rattle.fp_cert.specs.Shown.{ShownTrial}

-- a cell without a row is one of the problem
abbrev pub IsEndingOf : Netlist → Ending → Type 0
IsEndingOf p Start = Unit {0}
IsEndingOf p Better = Unit {0}
IsEndingOf p NotBetter = Unit {0}
IsEndingOf p (NoRow cell) = cell.0 < length p.cells

abbrev pub AreTrialsOf : Netlist → List ShownTrial → Type 0
AreTrialsOf p trials = (number : ℕ) (trial : ShownTrial) → slice_get trials number ≡ Some trial → IsEndingOf p trial.ending
