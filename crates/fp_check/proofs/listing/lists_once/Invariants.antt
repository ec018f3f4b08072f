use Rattle.std.proofs.Common.{◌≡◌, ◌<◌, ℕ, slice_get, Some}
use Rattle.fp_cert.specs.Shown.{ShownTrial}
use Rattle.fp_check.specs.Conditions.{ListsOnce}
use Rattle.fp_check.proofs.listing.lists_once.Given as goal

abbrev pub invariant-loop-trial : goal.invariant-loop-trial
invariant-loop-trial l = (number : ℕ) (trial : ShownTrial) → number < l.trial-index → slice_get l.run.trials number ≡ Some trial → ListsOnce l.problem trial trial.ending
