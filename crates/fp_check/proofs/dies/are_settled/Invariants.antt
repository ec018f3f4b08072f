use Rattle.std.proofs.Common.{◌≡◌}
use Rattle.fp_check.proofs.Nexts.{OfViews}
use Rattle.fp_check.proofs.dies.are_settled.Given as goal

abbrev pub invariant-loop-number : goal.invariant-loop-number
invariant-loop-number l = OfViews l.views l.number (λ base view. view.dies.items ≡ l.settled.items)
