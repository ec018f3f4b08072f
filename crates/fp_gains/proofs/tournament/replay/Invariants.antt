use Rattle.std.proofs.Common.{◌≡◌, drop}
use Rattle.fp_gains.specs.Contests.{IsWaiting}
use Rattle.fp_gains.proofs.tournament.replay.Given as goal

abbrev pub invariant-loop-node : goal.invariant-loop-node
invariant-loop-node l = IsWaiting l.inner l.nodes l.node l.held × (drop l.inner l.nodes ≡ drop l.inner l.initial.nodes)

abbrev pub decreases-loop-node : goal.decreases-loop-node
decreases-loop-node l = l.node
