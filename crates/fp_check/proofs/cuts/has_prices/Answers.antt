use Rattle.std.proofs.Common.{◌≡◌, true}
use Rattle.fp_cert.specs.Certified.{ArePricesShown}
use Rattle.fp_cert.specs.Endings.{has_rows}
use Rattle.fp_check.proofs.Scored.{ok_as, layout_of}
use Rattle.fp_check.proofs.cuts.has_prices.Goals as goal

pub returns-in-Some : goal.returns-in-Some
returns-in-Some c =
    let p = c.args.problem.now in
    let grid = c.args.grid.now in
    let trial = c.args.trial.now in
    let layout = layout_of p grid trial c.args.view.now c.in-Some.layout c.requires.view c.in-Some.is in
    ok_as c.has_prices_of.result (ArePricesShown p grid trial) (has_rows trial.ending ≡ true → ArePricesShown p grid trial)
    (λ shown _. shown, λ shown. shown layout.has) c.has_prices_of.ensures
