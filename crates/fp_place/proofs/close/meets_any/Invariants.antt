use Rattle.std.proofs.Common.{ℕ, ◌-◌, ◌<◌, ◌≤◌, All}
use Rattle.fp_place.specs.Buckets.{row, StandsNear, IsTooClose}
use Rattle.fp_place.proofs.close.meets_any.Given as goal

abbrev pub invariant-loop-near : goal.invariant-loop-near
invariant-loop-near l = (number : ℕ) → row l.terminal l.centre - 1 ≤ number → number < l.near
    → All (λ entry. StandsNear l.terminal l.centre number entry → IsTooClose l.terminal l.net l.centre entry → ⊥) l.entries
