use Rattle.std.proofs.Common.{sym, subst}
use Rattle.fp_place.specs.Standing.{AreInOrder}
use Rattle.fp_place.proofs.StandingLemmas.{segments_in_order}
use Rattle.fp_place.proofs.standing.segments_at.Goals as goal

pub returns-clause-rise : goal.returns-clause-rise
returns-clause-rise c = subst AreInOrder (sym c.segments_of.ensures.segments) (segments_in_order c.dies.result.now c.segments_of.ensures.plan c.place.inside.die)
