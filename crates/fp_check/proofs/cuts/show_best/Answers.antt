use Rattle.std.proofs.Common.{◌∙◌, List, ℕ, length, ap}
use Rattle.fp_check.proofs.Priced.{length-prices_by}
use Rattle.fp_check.proofs.cuts.show_best.Goals as goal

pub prices_shown-requires-clause-prices : goal.prices_shown-requires-clause-prices
prices_shown-requires-clause-prices c =
    ap (λ (prices : List ℕ). length prices) (c.deref.ensures.value ∙ c.in_ok-prices.ensures.prices) ∙ length-prices_by c.columns.result c.args.cuts.now ∙ c.columns.ensures
