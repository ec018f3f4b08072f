use Rattle.std.proofs.Common.{◌+◌, ◌∙◌, sym, subst}
use Rattle.fp_gains.specs.OrderParts.{AreAreas}
use Rattle.fp_gains.proofs.SortLemmas.{areas_more, areas_same}
use Rattle.fp_gains.proofs.order.areas.Goals as goal
use Rattle.fp_gains.proofs.order.areas.Goals.{then-fits+in_ok-push, else-fits}

pub loop-cell-preserved : goal.loop-cell-preserved
loop-cell-preserved c =
    elim c.if-fits.branch [
      | then-fits+in_ok-push w ↦
          subst (λ entries. AreAreas c.args.problem.now c.args.die (c.loop-cell.cell + 1) entries.items) (sym w.entries-is)
          (subst (AreAreas c.args.problem.now c.args.die (c.loop-cell.cell + 1)) (sym w.in_ok-push.ensures.items)
          (areas_more c.args.problem.now c.args.die c.loop-cell.cell c.loop-cell.entries.items w.area.result c.loop-cell.invariant (sym c.fits.ensures ∙ w.if-fits.true) w.area.ensures.area))
      | else-fits w ↦
          subst (λ entries. AreAreas c.args.problem.now c.args.die (c.loop-cell.cell + 1) entries.items) (sym w.entries-is)
          (areas_same c.args.problem.now c.args.die c.loop-cell.cell c.loop-cell.entries.items c.loop-cell.invariant (sym c.fits.ensures ∙ w.if-fits.false))
    ]
