use Rattle.fp_check.specs.Finding.{HoldBelow}
use Rattle.fp_check.proofs.checking.check_views.Given as goal

abbrev pub invariant-loop-number : goal.invariant-loop-number
invariant-loop-number l = HoldBelow l.problem l.grid l.drawn l.run l.number
