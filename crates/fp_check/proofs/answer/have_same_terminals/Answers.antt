use Rattle.std.proofs.Common.{refl, arith}
use Rattle.fp_check.proofs.Drawing.{terminals_alike}
use Rattle.fp_check.proofs.answer.have_same_terminals.Goals as goal

pub returns : goal.returns
returns c = (
  λ _. terminals_alike c.args.problem.now c.args.first.now c.args.second.now c.requires.first c.requires.second
      (λ net below. c.loop-number.invariant net (omega (arith, below, c.loop-number-test.false, c.nets-number-end.ensures.count))),
  λ _. refl,
)
