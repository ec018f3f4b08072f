use Rattle.std.proofs.Common.{◌≡◌, ℕ, ◌<◌, true, slice_get, Some}
use Rattle.fp_cert.specs.Endings.{has_rows}
use Rattle.fp_cert.specs.Shown.{ShownTrial}
use Rattle.fp_check.specs.Rooms.{MeetsAll}
use Rattle.fp_check.proofs.rows.trials_meet.Given as goal

abbrev pub invariant-loop-number : goal.invariant-loop-number
invariant-loop-number l = (k : ℕ) → k < l.number → (trial : ShownTrial) → slice_get l.trials k ≡ Some trial → has_rows trial.ending ≡ true → MeetsAll l.problem l.asked trial
