use Rattle.std.proofs.Common.{◌≡◌, ◌<◌, ◌≤◌, ℕ, slice_get, Some}
use Rattle.fp_cert.specs.declared.shown.Ending.TheVariants as endings
use Rattle.fp_cert.specs.Shown.{ShownTrial}
use Rattle.fp_check.proofs.going.are_better_between.Given as goal

abbrev pub invariant-loop-number : goal.invariant-loop-number
invariant-loop-number l = (number : ℕ) (trial : ShownTrial) → 1 ≤ number → number < l.number → slice_get l.trials number ≡ Some trial → trial.ending ≡ endings.Better
