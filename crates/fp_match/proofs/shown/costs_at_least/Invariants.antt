use Rattle.std.proofs.Common.{ℕ, ◌<◌, ◌≤◌, ◌+◌, get_or}
use Rattle.fp_match.proofs.shown.costs_at_least.Given as goal

abbrev pub invariant-loop-column : goal.invariant-loop-column
invariant-loop-column g l = (t : ℕ) → l.fn.from ≤ t → t < l.column → l.paid ≤ g.C.Costs.cost_of l.costs l.row t + get_or l.prices t 0
