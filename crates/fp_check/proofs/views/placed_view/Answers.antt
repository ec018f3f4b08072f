use Rattle.std.proofs.Common.{refl}
use Rattle.fp_check.proofs.Placing.{view_is}
use Rattle.fp_check.proofs.views.placed_view.Goals as goal

pub returns-in-Ok : goal.returns-in-Ok
returns-in-Ok c = view_is c.args.problem.now c.args.grid.now c.args.trial.now c.in_ok-layout.layout _ c.in_ok-layout.ensures c.in-Ok.ensures refl
