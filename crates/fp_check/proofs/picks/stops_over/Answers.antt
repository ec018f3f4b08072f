use Rattle.std.proofs.Common.{Option, Some, sym, subst}
use Rattle.std.specs.Prelude.{IfOk, IsTrue, ◌↔◌}
use Rattle.fp_cert.specs.declared.shown.Ending.{Ending}
use Rattle.fp_check.specs.declared.views.Layout.{Layout}
use Rattle.fp_check.specs.Picks.{StopsOver}
use Rattle.fp_check.proofs.picks.stops_over.Goals as goal

pub returns-in-Some-NoRow : goal.returns-in-Some-NoRow
returns-in-Some-NoRow c =
    let p = c.args.problem.now in
    let dies = c.args.dies.now in
    subst (λ (o : Option Layout). IfOk c.stops_at.result (λ b. IsTrue b ↔ StopsOver p dies o c.args.ending)) (sym c.in-Some-NoRow.is-0)
    (subst (λ (e : Ending). IfOk c.stops_at.result (λ b. IsTrue b ↔ StopsOver p dies (Some c.in-Some-NoRow.layout) e)) (sym c.in-Some-NoRow.is-1) c.stops_at.ensures)
