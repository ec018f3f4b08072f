use Rattle.std.proofs.Common.{◌≡◌, ℕ, ◌+◌, ◌<◌, true, slice_get, Some}
use Rattle.fp_score.specs.Target.{AreTargets}
use Rattle.fp_cert.specs.Endings.{has_rows}
use Rattle.fp_cert.specs.Shown.{ShownTrial}
use Rattle.fp_cert.specs.Standing.{dies_shown, places_shown, targets_shown}
use Rattle.fp_check.proofs.picks.have_targets.Given as goal

abbrev pub invariant-loop-number : goal.invariant-loop-number
invariant-loop-number l = (k : ℕ) → k + 1 < l.number → (base trial : ShownTrial) → slice_get l.run.trials k ≡ Some base → slice_get l.run.trials (k + 1) ≡ Some trial
    → has_rows trial.ending ≡ true → AreTargets l.problem (places_shown l.problem base) (dies_shown l.problem trial) (targets_shown l.problem trial)
