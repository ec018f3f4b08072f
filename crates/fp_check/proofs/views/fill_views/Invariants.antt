use Rattle.fp_check.proofs.Viewing.{AreViewsTo}
use Rattle.fp_check.proofs.views.fill_views.Given as goal

abbrev pub invariant-loop-trial : goal.invariant-loop-trial
invariant-loop-trial l = AreViewsTo l.problem l.grid l.run l.trial-index l.views.items
