use Rattle.std.proofs.Common.{subst, sym, IfSome}
use Rattle.fp_score.specs.Reaches.{IsNearReach}
use Rattle.fp_score.specs.ScoreLaws.{stretched_near}
use Rattle.fp_score.proofs.reaches.joined.Goals as goal

pub returns-in-Some-clause-near : goal.returns-in-Some-clause-near
returns-in-Some-clause-near c =
    let is : IsNearReach c.in-Some.reach = subst (λ reach. IfSome reach IsNearReach) c.in-Some.is c.requires.reach in
    subst IsNearReach (sym c.stretched.ensures) (stretched_near c.in-Some.reach c.args.point is c.requires.point)
