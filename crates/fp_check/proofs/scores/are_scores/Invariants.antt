use Rattle.std.proofs.Common.{◌≡◌, ℕ, ◌<◌, true, slice_get, Some}
use Rattle.fp_tech.specs.Slots.{Slots}
use Rattle.fp_cert.specs.Endings.{has_rows}
use Rattle.fp_cert.specs.Shown.{ShownTrial}
use Rattle.fp_check.specs.Conditions.{IsScoreOf}
use Rattle.fp_check.specs.Views.{AreViews}
use Rattle.fp_check.proofs.scores.are_scores.Given as goal

abbrev pub invariant-loop-number : goal.invariant-loop-number
invariant-loop-number l = (grid : Slots) → AreViews l.problem grid l.run l.views → (k : ℕ) (trial : ShownTrial) → k < l.number → slice_get l.run.trials k ≡ Some trial
    → has_rows trial.ending ≡ true → IsScoreOf l.problem grid trial
