-- Cells that are marked one after the other.
use Rattle.std.specs.Prelude.{◌≡◌, ℕ, Bool, true, if◌then◌else◌, List, [], ◌∷◌, ◌++◌, map, flat_map, get_or, set, Option, Some, None}
use Rattle.fp_cert.specs.declared.shown.CellShown.{CellShown}
use Rattle.fp_cert.specs.Shown.{ShownRow, ShownTrial}

-- the marks with those of cells added; none where a cell has its mark already, or has no place for one
unfoldable pub marked : List Bool → List ℕ → Option (List Bool)
marked seen [] = Some seen
marked seen (cell ∷ cells) = if get_or seen cell true then None else marked (set seen cell true) cells

-- the cells of lines, of rows, and of both dies
abbrev pub cells_in : List CellShown → List ℕ
cells_in lines = map (λ line. line.cell.0) lines

abbrev pub cells_in_rows : List ShownRow → List ℕ
cells_in_rows rows = flat_map (λ (row : ShownRow). cells_in row.cells) rows

abbrev pub cells_listed : ShownTrial → List ℕ
cells_listed trial = cells_in_rows trial.top ++ cells_in_rows trial.bottom

-- what a marking answers: whether no cell was marked twice, and the marks then
abbrev pub Marks : Bool → List Bool → Option (List Bool) → Type 0
Marks new seen wanted = (if new then Some seen else None) ≡ wanted
