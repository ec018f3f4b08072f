use Rattle.std.proofs.Common.{◌≡◌, ◌++◌}
use Rattle.fp_flow.specs.Slotted.{slotted_lines}
use Rattle.fp_flow.proofs.terminals.list_cuts.Given as goal

abbrev pub invariant-loop-row : goal.invariant-loop-row
invariant-loop-row l = l.trial ≡ record l.fn.trial { cuts = l.fn.trial.cuts ++ slotted_lines l.costs l.matcher l.row }
