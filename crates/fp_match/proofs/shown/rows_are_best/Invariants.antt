use Rattle.std.proofs.Common.{ℕ, ◌<◌, get_or}
use Rattle.fp_match.specs.Prices.{IsBest}
use Rattle.fp_match.proofs.shown.rows_are_best.Given as goal

abbrev pub invariant-loop-row : goal.invariant-loop-row
invariant-loop-row g l = (n : ℕ) → n < l.row → IsBest (g.C.Costs.cost_of l.costs) (g.C.Costs.column_count l.costs) l.prices n (get_or l.chosen n 0)
