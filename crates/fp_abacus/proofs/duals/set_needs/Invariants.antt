use Rattle.fp_rows.specs.Squares.{squared_rise}
use Rattle.fp_rows.specs.NeedsLaws.{IsNeeded}
use Rattle.fp_abacus.proofs.duals.set_needs.Given as goal

abbrev pub invariant-loop-i : goal.invariant-loop-i
invariant-loop-i l = IsNeeded squared_rise l.cells l.xs l.duals l.i
