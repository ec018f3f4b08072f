use Rattle.fp_check.proofs.Viewing.{AreFilled}
use Rattle.fp_check.proofs.views.fill_lanes.Given as goal

abbrev pub invariant-loop-number : goal.invariant-loop-number
invariant-loop-number g l = AreFilled l.rows l.number l.lanes
