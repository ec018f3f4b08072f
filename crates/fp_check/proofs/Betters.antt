-- The last trial that is better, trial by trial.
use Rattle.std.proofs.Common.{◌≡◌, ℕ, ◌+◌, ◌<◌, ◌≤◌, List, length, drop, get_or, sym, ap, ◌∙◌}
use Rattle.std.specs.Prelude.{if◌then◌else◌}
use Rattle.fp_cert.specs.Shown.{ShownTrial}
use Rattle.fp_cert.specs.Trials.{is_better, last_better}
use Rattle.fp_check.proofs.Viewing.{drop_here, drop_past}

pub better_more : (trials : List ShownTrial) (n last next : ℕ) (trial : ShownTrial) → n < length trials → trial ≡ get_or trials n trial
    → (if is_better trial.ending then n else last) ≡ next → last_better n last (drop n trials) ≡ last_better 0 0 trials
    → last_better (n + 1) next (drop (n + 1) trials) ≡ last_better 0 0 trials
unfolding last_better
better_more trials n last next trial below there is before =
    ap (λ best. last_better (n + 1) best (drop (n + 1) trials)) (sym is)
    ∙ ap (λ (t : ShownTrial). last_better (n + 1) (if is_better t.ending then n else last) (drop (n + 1) trials)) there
    ∙ ap (last_better n last) (sym (drop_here trials n trial below))
    ∙ before

pub better_all : (trials : List ShownTrial) (n last : ℕ) → length trials ≤ n → last_better n last (drop n trials) ≡ last_better 0 0 trials → last ≡ last_better 0 0 trials
unfolding last_better
better_all trials n last past before = ap (last_better n last) (sym (drop_past trials n past)) ∙ before
