-- The lines of cells by their cells, written from the rows of a trial.
use Rattle.std.specs.Prelude.{List, fold, set}
use Rattle.fp_cert.specs.declared.shown.CellShown.{CellShown}
use Rattle.fp_cert.specs.Shown.{ShownRow}

-- lines by cell, with each of these lines written to its cell's place
abbrev pub with_lines : List CellShown → List CellShown → List CellShown
with_lines held cells = fold (λ held (line : CellShown). set held line.cell.0 line) held cells

-- the same with the lines of rows
abbrev pub with_row_lines : List CellShown → List ShownRow → List CellShown
with_row_lines held rows = fold (λ held (row : ShownRow). with_lines held row.cells) held rows
