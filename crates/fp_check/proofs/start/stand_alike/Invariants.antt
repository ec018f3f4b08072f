use Rattle.std.proofs.Common.{ℕ, ◌<◌}
use Rattle.fp_check.specs.Seeds.{StandAlike}
use Rattle.fp_check.proofs.start.stand_alike.Given as goal

abbrev pub invariant-loop-number : goal.invariant-loop-number
invariant-loop-number l = (k : ℕ) → k < l.number → StandAlike l.seed l.placement k
