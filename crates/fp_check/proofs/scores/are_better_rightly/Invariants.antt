use Rattle.std.proofs.Common.{◌≡◌, ℕ, ◌+◌, ◌<◌, true, slice_get, Some}
use Rattle.fp_cert.specs.Endings.{has_rows}
use Rattle.fp_cert.specs.Shown.{ShownTrial}
use Rattle.fp_cert.specs.Trials.{compared}
use Rattle.fp_check.proofs.scores.are_better_rightly.Given as goal

abbrev pub invariant-loop-number : goal.invariant-loop-number
invariant-loop-number l = (k : ℕ) (base trial : ShownTrial) → k + 1 < l.number → slice_get l.run.trials k ≡ Some base → slice_get l.run.trials (k + 1) ≡ Some trial
    → has_rows trial.ending ≡ true → trial.ending ≡ compared trial.score base.score
