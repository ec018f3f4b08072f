use Rattle.std.proofs.Common.{◌≡◌, ℕ, ◌+◌, ◌<◌, slice_get, Some}
use Rattle.fp_cert.specs.Shown.{ShownTrial}
use Rattle.fp_check.specs.Conditions.{IsPick}
use Rattle.fp_check.proofs.picks.have_rows.Given as goal

abbrev pub invariant-loop-number : goal.invariant-loop-number
invariant-loop-number l = (k : ℕ) → k + 1 < l.number → (base trial : ShownTrial) → slice_get l.run.trials k ≡ Some base → slice_get l.run.trials (k + 1) ≡ Some trial
    → IsPick l.problem base trial trial.ending
