use Rattle.std.proofs.Common.{◌≡◌, ℕ, ◌<◌, true, slice_get, Some}
use Rattle.fp_cert.specs.Endings.{has_rows}
use Rattle.fp_cert.specs.Shown.{ShownTrial}
use Rattle.fp_cert.specs.Certified.{ArePricesShown}
use Rattle.fp_check.proofs.cuts.have_prices.Given as goal

abbrev pub invariant-loop-number : goal.invariant-loop-number
invariant-loop-number l = (k : ℕ) (trial : ShownTrial) → k < l.number → slice_get l.run.trials k ≡ Some trial → has_rows trial.ending ≡ true → ArePricesShown l.problem l.grid trial
