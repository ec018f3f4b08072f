use Rattle.std.proofs.Common.{◌≡◌, ℕ, ◌<◌, true, slice_get, Some}
use Rattle.fp_cert.specs.Endings.{has_rows}
use Rattle.fp_cert.specs.Shown.{ShownTrial}
use Rattle.fp_check.specs.Conditions.{AreCutsListed}
use Rattle.fp_check.proofs.cuts.list_cuts.Given as goal

abbrev pub invariant-loop-number : goal.invariant-loop-number
invariant-loop-number l = (k : ℕ) (trial : ShownTrial) → k < l.number → slice_get l.run.trials k ≡ Some trial → has_rows trial.ending ≡ true → AreCutsListed l.problem trial
