use Rattle.std.proofs.Common.{sym, subst}
use Rattle.fp_place.specs.Placed.{places_of}
use Rattle.fp_score.specs.Target.{AreTargets}
use Rattle.fp_check.proofs.Pickings.{stops_told}
use Rattle.fp_check.proofs.picks.stops_at.Goals as goal

pub returns : goal.returns
returns c =
    let p = c.args.problem.now in
    let base = places_of c.args.base.now in
    stops_told p base c.args.dies.now c.args.cell.0 c.deref.result.now c.picks_none-found.result
    (subst (AreTargets p base c.args.dies.now) (sym c.deref.ensures.value) c.in_ok-over.ensures.targets) c.picks_none-found.ensures
