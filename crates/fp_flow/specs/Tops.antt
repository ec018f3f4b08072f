-- The cells of the top die.
use Rattle.std.specs.Prelude.{ℕ, List, map, filter}
use Rattle.std.specs.List.{range_with_len}
use Rattle.fp_base.specs.declared.ids.CellId.{CellId}
use Rattle.fp_base.specs.declared.ids.Die.{Die}
use Rattle.fp_base.specs.declared.ids.Die.TheVariants.{Top}
use Rattle.fp_place.specs.Places.{same_die, die_at}

-- the cell of a number
abbrev pub cell_of : ℕ → CellId
cell_of number = record { 0 = number }

-- those of the first so many cells that are on the top die, by rising number
abbrev pub tops_of : List Die → ℕ → List CellId
tops_of dies count = filter (λ (cell : CellId). same_die (die_at dies cell.0) Top) (map cell_of (range_with_len 0 count))
