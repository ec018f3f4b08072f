use Rattle.std.proofs.Common.{◌≡◌, drop}
use Rattle.fp_cert.specs.Trials.{last_better}
use Rattle.fp_check.proofs.going.last_better.Given as goal

abbrev pub invariant-loop-number : goal.invariant-loop-number
invariant-loop-number l = last_better l.number l.last (drop l.number l.trials) ≡ last_better 0 0 l.trials
