-- Cells in order of a key, and by number among equal keys.
use Rattle.std.specs.Prelude.{ℕ, List, map, ℤ, pos, ◌-ℤ◌}
use Rattle.std.specs.List.Sorted.{IsPermutation, IsSorted}
use Rattle.std.specs.Ordering.{nat_cmp, int_cmp, ordering_then}
use Rattle.std.specs.declared.cmp.Ordering.{Ordering}
use Rattle.fp_base.specs.declared.ids.CellId.{CellId}
use Rattle.fp_base.specs.declared.ids.Die.{Die}
use Rattle.fp_base.specs.declared.ids.Point.{Point}
use Rattle.fp_netlist.specs.Netlist.{Netlist}
use Rattle.fp_netlist.specs.Points.{width}
use Rattle.fp_score.specs.Pick.{Taken, point_at, cells_on}
use Rattle.fp_coarse.specs.declared.order.Choice.{Choice}

abbrev pub numbers_of : List CellId → List ℕ
numbers_of cells = map (λ cell. cell.0) cells

-- choices as the definition of the pick has them
abbrev pub taken_as : Choice → Taken
taken_as choice = record { cell = choice.cell.0; segment = choice.segment }

abbrev pub taken_of : List Choice → List Taken
taken_of choices = map taken_as choices

-- the cells of a die with the negatives of their widths
abbrev pub entry_on : Netlist → Die → ℕ → ℤ × ℕ
entry_on p die cell = (pos 0 -ℤ pos (width p cell die), cell)

abbrev pub entries_on : Netlist → List Die → Die → List (ℤ × ℕ)
entries_on p dies die = map (entry_on p die) (cells_on p dies die)

-- choices by target
abbrev pub entry_by : List Point → Choice → ℤ × ℕ × ℕ
entry_by targets choice = ((point_at targets choice.cell.0).x, choice.cell.0, choice.segment)

abbrev pub target_cmp : ℤ × ℕ × ℕ → ℤ × ℕ × ℕ → Ordering
target_cmp a b = ordering_then (int_cmp a.0 b.0) (ordering_then (nat_cmp a.1 b.1) (nat_cmp a.2 b.2))

pub record AreByTarget (targets : List Point) (choices : List Choice) (entries : List (ℤ × ℕ × ℕ)) : Type 0 where
  pub moved : IsPermutation (map (entry_by targets) choices) entries
  pub sorted : IsSorted target_cmp entries
