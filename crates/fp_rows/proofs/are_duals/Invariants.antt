use Rattle.fp_rows.specs.SeenLaws.{IsShownFrom}
use Rattle.fp_rows.specs.Squares.{width_of, squared_rise}
use Rattle.fp_rows.proofs.are_duals.Given as goal

abbrev pub invariant-loop-i : goal.invariant-loop-i
invariant-loop-i l = IsShownFrom width_of squared_rise l.cells l.lo l.hi l.xs l.duals l.i l.from
