use Rattle.fp_flow.specs.Lanes.{AddsBestRows}
use Rattle.fp_flow.proofs.lanes.place_lanes.Given as goal

abbrev pub invariant-loop-number : goal.invariant-loop-number
invariant-loop-number g l = AddsBestRows l.problem g.S.Side.DIE l.lanes l.number l.targets l.fn.trial l.trial
