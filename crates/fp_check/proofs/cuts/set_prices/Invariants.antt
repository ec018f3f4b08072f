use Rattle.std.proofs.Common.{◌≡◌, drop}
use Rattle.fp_check.specs.CutLines.{with_prices}
use Rattle.fp_check.proofs.cuts.set_prices.Given as goal

abbrev pub invariant-loop-line : goal.invariant-loop-line
invariant-loop-line l = l.prices.items ≡ with_prices (drop l.line l.cuts) l.fn.prices.items
