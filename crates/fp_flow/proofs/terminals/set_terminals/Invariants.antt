use Rattle.std.proofs.Common.{◌≡◌}
use Rattle.fp_flow.specs.Slotted.{with_slots}
use Rattle.fp_flow.proofs.terminals.set_terminals.Given as goal

abbrev pub invariant-loop-row : goal.invariant-loop-row
invariant-loop-row l = l.placement ≡ record l.fn.placement { terminals = with_slots l.grid l.costs l.matcher.chosen l.row l.fn.placement.terminals }
