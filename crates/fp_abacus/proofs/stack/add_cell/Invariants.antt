use Rattle.std.proofs.Common.{length, ◌-◌}
use Rattle.fp_abacus.proofs.Adding.{IsAdding}
use Rattle.fp_abacus.proofs.stack.add_cell.Given as goal

abbrev pub invariant-loop-next : goal.invariant-loop-next
invariant-loop-next l = IsAdding l.cells l.i l.before l.added l.work l.next

abbrev pub decreases-loop-next : goal.decreases-loop-next
decreases-loop-next l = length l.work - l.next
