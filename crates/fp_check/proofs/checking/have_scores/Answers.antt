use Rattle.std.proofs.Common.{◌≡◌, sym, ap, ◌∙◌}
use Rattle.fp_tech.specs.declared.dies.TermSpec.{TermSpec}
use Rattle.fp_tech.specs.Plan.{Plan}
use Rattle.fp_check.proofs.checking.have_scores.Goals as goal

pub returns-then-cost-terminal : goal.returns-then-cost-terminal
returns-then-cost-terminal c = λ grid views.
    let scores = c.are_scores.ensures grid views in
    let cost : c.args.run.now.cost ≡ c.args.problem.now.plan.terminal.cost =
    sym c.cost.ensures.cost ∙ c.if-cost-terminal.true ∙ ap (λ (t : TermSpec). t.cost) c.terminal.ensures.terminal ∙ ap (λ (plan : Plan). plan.terminal.cost) c.dies.ensures in
    (λ yes. (cost, scores.0 yes), λ both. scores.1 both.1)
