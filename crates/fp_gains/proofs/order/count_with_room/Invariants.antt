use Rattle.std.proofs.Common.{◌-◌}
use Rattle.fp_gains.proofs.OrderLemmas.{IsNarrowed}
use Rattle.fp_gains.proofs.order.count_with_room.Given as goal

abbrev pub decreases-loop-low : goal.decreases-loop-low
decreases-loop-low l = l.high - l.low

abbrev pub invariant-loop-low : goal.invariant-loop-low
invariant-loop-low l = IsNarrowed l.problem l.caps l.die l.tournament l.low l.high
