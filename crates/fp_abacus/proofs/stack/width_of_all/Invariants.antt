use Rattle.fp_rows.specs.Squares.{width_of}
use Rattle.fp_rows.specs.RunsLaws.{IsWide}
use Rattle.fp_abacus.proofs.stack.width_of_all.Given as goal

abbrev pub invariant-loop-cell : goal.invariant-loop-cell
invariant-loop-cell l = IsWide width_of l.cells l.cell-index l.width
