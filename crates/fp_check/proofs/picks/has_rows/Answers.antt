use Rattle.std.proofs.Common.{List, Option, sym, subst}
use Rattle.std.specs.Prelude.{IfOk, IsTrue, ◌↔◌}
use Rattle.fp_base.specs.declared.ids.Die.{Die}
use Rattle.fp_check.specs.declared.views.Layout.{Layout}
use Rattle.fp_check.specs.Picks.{StopsOver, HasRowsBy}
use Rattle.fp_check.proofs.picks.has_rows.Goals as goal

pub returns-in-None : goal.returns-in-None
returns-in-None c =
    let p = c.args.problem.now in
    let base = c.args.base.now.layout in
    subst (λ (o : Option Layout). IfOk c.stops_over.result (λ b. IsTrue b ↔ HasRowsBy p c.args.view.now.dies.items base c.args.ending o)) (sym c.in-None.is)
    (subst (λ (dies : List Die). IfOk c.stops_over.result (λ b. IsTrue b ↔ StopsOver p dies base c.args.ending)) c.deref-in-None.ensures.value c.stops_over.ensures)
