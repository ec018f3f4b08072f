use Rattle.std.proofs.Common.{◌∙◌, ap, sym, arith}
use Rattle.std.proofs.lemmas.Int.{ints}
use Rattle.fp_coarse.proofs.Widest.{entries_more, entries_same}
use Rattle.fp_coarse.proofs.order.entries_on.Goals as goal
use Rattle.fp_coarse.proofs.order.entries_on.Goals.{then-is_on+in_ok-push, else-is_on}

pub loop-cell-preserved : goal.loop-cell-preserved
loop-cell-preserved c = elim c.if-is_on.branch [
  | then-is_on+in_ok-push w ↦
      ap (λ v. v.items) w.entries-is ∙ w.in_ok-push.ensures.items
      ∙ entries_more c.args.problem.now c.args.dies.now c.args.die c.loop-cell.cell c.loop-cell.entries.items _ c.loop-cell.invariant (sym c.is_on.ensures ∙ w.if-is_on.true)
      (omega (arith, ints, w.narrowness.ensures.value, w.narrowness.ensures.low, w.narrowness.ensures.high))
  | else-is_on w ↦
      ap (λ v. v.items) w.entries-is
      ∙ entries_same c.args.problem.now c.args.dies.now c.args.die c.loop-cell.cell c.loop-cell.entries.items c.loop-cell.invariant (sym c.is_on.ensures ∙ w.if-is_on.false)
]
