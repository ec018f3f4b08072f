use Rattle.fp_rows.proofs.Costs.{IsCosted}
use Rattle.fp_rows.proofs.row_cost.Given as goal

abbrev pub invariant-loop-i : goal.invariant-loop-i
invariant-loop-i l = IsCosted l.cells l.xs l.i l.total
