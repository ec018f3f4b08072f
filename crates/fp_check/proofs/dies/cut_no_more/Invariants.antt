use Rattle.std.proofs.Common.{◌≤◌}
use Rattle.fp_place.specs.Cut.{cut}
use Rattle.fp_check.proofs.Nexts.{OfViews}
use Rattle.fp_check.proofs.dies.cut_no_more.Given as goal

abbrev pub invariant-loop-number : goal.invariant-loop-number
invariant-loop-number l = OfViews l.views l.number (λ base view. cut l.problem view.dies.items ≤ cut l.problem base.dies.items)
