use Rattle.fp_abacus.proofs.Adding.{IsStacking}
use Rattle.fp_abacus.proofs.stack.clusters_of.Given as goal

abbrev pub invariant-loop-i : goal.invariant-loop-i
invariant-loop-i l = IsStacking l.cells l.work l.i l.before l.first
