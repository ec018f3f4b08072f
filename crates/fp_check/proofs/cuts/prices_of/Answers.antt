use Rattle.std.proofs.Common.{◌≡◌, ◌∙◌, ◌≤◌, ◌^◌, replicate, subst, sym, ap, rules}
use Rattle.std.specs.Prelude.{All}
use Rattle.fp_check.specs.CutLines.{with_prices}
use Rattle.fp_check.proofs.Priced.{prices_are, prices_small}
use Rattle.fp_check.proofs.cuts.prices_of.Goals as goal

pub returns-clause-prices : goal.returns-clause-prices
returns-clause-prices c =
    let items : c.in_ok-prices.prices.items ≡ replicate c.args.slots 0 = search rules in
    c.set_prices.ensures ∙ ap (with_prices c.args.cuts.now) items ∙ prices_are c.args.cuts.now c.args.slots

pub returns-clause-capped : goal.returns-clause-capped
returns-clause-capped c =
    let items : c.in_ok-prices.prices.items ≡ replicate c.args.slots 0 = search rules in
    subst (All (λ price. price ≤ 2 ^ 60)) (sym (c.set_prices.ensures ∙ ap (with_prices c.args.cuts.now) items ∙ prices_are c.args.cuts.now c.args.slots))
    (prices_small c.args.slots c.args.cuts.now c.requires.prices)
