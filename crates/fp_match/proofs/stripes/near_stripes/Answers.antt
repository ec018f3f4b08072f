use Rattle.std.proofs.Common.{arith}
use Rattle.fp_match.proofs.Steps.{stripes_clipped}
use Rattle.fp_match.proofs.stripes.near_stripes.Goals as goal

pub returns-clause-near : goal.returns-clause-near
returns-clause-near g c =
    stripes_clipped _ _ _ _ _ _ _ _ _ c.near_stripes-near.ensures (omega (arith, c.min-start.ensures))
    (omega (arith, c.min.ensures, c.max-end.ensures)) c.stripe_count-count.ensures.all
