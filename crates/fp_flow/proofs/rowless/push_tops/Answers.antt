use Rattle.std.proofs.Common.{◌∙◌, sym, ap}
use Rattle.fp_cert.specs.Shown.{ShownTrial, with_top}
use Rattle.fp_flow.specs.Tops.{cell_of}
use Rattle.fp_flow.proofs.Tops.{tops_more, tops_same}
use Rattle.fp_flow.proofs.rowless.push_tops.Goals as goal
use Rattle.fp_flow.proofs.rowless.push_tops.Goals.{then-is_on_top+in_ok-push_top, else-is_on_top}

pub loop-cell-preserved : goal.loop-cell-preserved
loop-cell-preserved c = elim c.if-is_on_top.branch [
  | then-is_on_top+in_ok-push_top w ↦
      w.trial-is ∙ w.in_ok-push_top.ensures ∙ ap (λ (t : ShownTrial). with_top t (cell_of c.loop-cell.cell)) c.loop-cell.invariant
      ∙ ap (λ cells. record c.args.trial.now { top_cells = cells }) (tops_more c.args.dies.now c.loop-cell.cell (sym c.is_on_top.ensures ∙ w.if-is_on_top.true))
  | else-is_on_top w ↦
      w.trial-is ∙ c.loop-cell.invariant
      ∙ ap (λ cells. record c.args.trial.now { top_cells = cells }) (tops_same c.args.dies.now c.loop-cell.cell (sym c.is_on_top.ensures ∙ w.if-is_on_top.false))
]
