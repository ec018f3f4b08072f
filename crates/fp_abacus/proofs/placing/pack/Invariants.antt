use Rattle.fp_rows.specs.Squares.{width_of}
use Rattle.fp_rows.specs.RunsLaws.{IsPacking}
use Rattle.fp_abacus.proofs.placing.pack.Given as goal

abbrev pub invariant-loop-i : goal.invariant-loop-i
invariant-loop-i l = IsPacking width_of l.run l.position l.initial.xs l.xs l.start l.i l.end
