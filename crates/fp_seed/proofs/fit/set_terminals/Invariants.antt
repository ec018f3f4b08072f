use Rattle.fp_seed.proofs.Setting.{AreSet}
use Rattle.fp_seed.proofs.fit.set_terminals.Given as goal

abbrev pub invariant-loop-number : goal.invariant-loop-number
invariant-loop-number l = AreSet l.problem l.grid l.dies l.initial.placement l.placement l.number l.slot
