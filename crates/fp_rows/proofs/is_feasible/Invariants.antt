use Rattle.fp_rows.specs.SeenLaws.{IsFrom}
use Rattle.fp_rows.specs.Squares.{width_of}
use Rattle.fp_rows.proofs.is_feasible.Given as goal

abbrev pub invariant-loop-i : goal.invariant-loop-i
invariant-loop-i l = IsFrom width_of l.cells l.lo l.hi l.xs l.i l.from
