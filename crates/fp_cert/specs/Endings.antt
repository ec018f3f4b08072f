-- Which trials placed their cells.
use Rattle.std.specs.Prelude.{Bool, true, false}
use Rattle.fp_cert.specs.declared.shown.Ending.{Ending}
use Rattle.fp_cert.specs.declared.shown.Ending.TheVariants.{Start, Better, NotBetter, NoRow}

-- a trial that ended so found a row for each cell
abbrev pub has_rows : Ending → Bool
has_rows Start = true
has_rows Better = true
has_rows NotBetter = true
has_rows (NoRow cell) = false
