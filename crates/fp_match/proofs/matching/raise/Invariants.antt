use Rattle.fp_match.specs.Search.{AreRaised}
use Rattle.fp_match.proofs.matching.raise.Given as goal

abbrev pub invariant-loop-place : goal.invariant-loop-place
invariant-loop-place l = AreRaised l.column_of l.fn.prices l.prices l.labels l.place
