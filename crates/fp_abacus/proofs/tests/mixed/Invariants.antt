use Rattle.fp_abacus.proofs.Mixed.{AreMixed}
use Rattle.fp_abacus.proofs.tests.mixed.Given as goal

abbrev pub invariant-loop-i : goal.invariant-loop-i
invariant-loop-i l = AreMixed l.cells.items l.i
