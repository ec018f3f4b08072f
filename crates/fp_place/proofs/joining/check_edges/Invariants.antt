use Rattle.std.proofs.Common.{◌<◌, ℕ}
use Rattle.fp_place.specs.Joining.{CentreKeepsEdges}
use Rattle.fp_place.proofs.joining.check_edges.Given as goal

abbrev pub invariant-loop-net : goal.invariant-loop-net
invariant-loop-net l = (before : ℕ) → before < l.net → CentreKeepsEdges l.problem.plan.frame l.problem.plan.terminal l.centres before
