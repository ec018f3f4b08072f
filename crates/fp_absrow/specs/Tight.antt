-- Positions that the least duals show to be the best.
use Rattle.std.specs.Prelude.{ℤ, List}
use Rattle.fp_rows.specs.TightLaws.{Tight}
use Rattle.fp_absrow.specs.ConvexCells.{ConvexCell, width_of, rise_of}

abbrev pub AreTight : List ConvexCell → ℤ → ℤ → List ℤ → Type 0
AreTight cells lo hi xs = Tight width_of rise_of lo hi 0 cells xs
