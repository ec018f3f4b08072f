use Rattle.std.proofs.Common.{◌≡◌, take}
use Rattle.fp_check.specs.Views.{with_tops}
use Rattle.fp_check.proofs.views.lift.Given as goal

abbrev pub invariant-loop-cell : goal.invariant-loop-cell
invariant-loop-cell l = l.dies.items ≡ with_tops l.fn.dies.items (take l.cell-index l.cells)
