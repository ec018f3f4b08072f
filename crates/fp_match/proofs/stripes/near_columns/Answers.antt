use Rattle.std.proofs.Common.{◌≡◌, ◌*◌, ap, arith}
use Rattle.fp_match.proofs.Steps.{near_clipped}
use Rattle.fp_match.proofs.stripes.near_columns.Goals as goal

pub returns-clause-near : goal.returns-clause-near
returns-clause-near g c =
    let start : c.args.stripe * c.stripe.result ≡ c.args.stripe * g.C.Costs.stripe_width c.args.costs.now =
    ap (λ width. c.args.stripe * width) c.stripe.ensures.value in
    near_clipped _ _ _ _ _ _ _ _ _ c.near-near.ensures
    (omega (arith, start, c.max.ensures, c.min-start.ensures))
    (omega (arith, start, c.max-2.ensures, c.min-end.ensures, c.stripe_end-to.ensures))
