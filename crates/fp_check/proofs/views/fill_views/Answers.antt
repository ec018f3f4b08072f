use Rattle.std.proofs.Common.{◌∙◌, List, length, get_or, refl, ap, arith}
use Rattle.std.proofs.lemmas.Option.{slice_get_read}
use Rattle.fp_cert.specs.Shown.{ShownTrial}
use Rattle.fp_check.proofs.Viewing.{views_more}
use Rattle.fp_check.proofs.views.fill_views.Goals as goal

pub loop-trial-preserved : goal.loop-trial-preserved
loop-trial-preserved c =
    let trials = c.trials-trial-items.ensures in
    let at = slice_get_read c.args.run.now.trials (length c.args.run.now.trials) c.loop-trial.trial-index c.trial-item.result refl
    (omega (arith, c.loop-trial-test.true, ap length trials))
    (c.trial-item.is ∙ ap (λ (list : List ShownTrial). get_or list c.loop-trial.trial-index c.trial-item.result) trials) in
    views_more c.args.problem.now c.args.grid.now c.args.run.now c.loop-trial.trial-index c.loop-trial.views.items c.push.new.self.items c.trial-item.result c.in_ok-view_of.field-0 c.loop-trial.invariant
    c.in_ok-push.ensures.items at c.in_ok-view_of.ensures
