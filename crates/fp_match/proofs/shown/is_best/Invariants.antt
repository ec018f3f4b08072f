use Rattle.std.proofs.Common.{ℕ, ◌<◌, ◌≤◌, ◌+◌, ◌*◌, get_or}
use Rattle.fp_match.proofs.shown.is_best.Given as goal

abbrev pub invariant-loop-stripe : goal.invariant-loop-stripe
invariant-loop-stripe g l = (t : ℕ) → t < l.stripe * g.C.Costs.stripe_width l.costs → t < g.C.Costs.column_count l.costs → l.paid ≤ g.C.Costs.cost_of l.costs l.row t + get_or l.prices t 0
