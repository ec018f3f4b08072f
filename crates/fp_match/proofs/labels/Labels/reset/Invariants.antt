use Rattle.std.proofs.Common.{◌≡◌, ℕ, ◌<◌, ◌≤◌, ◌⊎◌, length}
use Rattle.fp_match.specs.Search.{label_of, row_at, far}
use Rattle.fp_match.proofs.labels.Labels.reset.Given as goal

abbrev pub invariant-loop-place : goal.invariant-loop-place
invariant-loop-place l =
    (length l.self.label.items ≡ length l.initial.self.label.items)
    × (l.self.reached ≡ l.initial.self.reached) × (l.self.parent ≡ l.initial.self.parent) × (l.self.count ≡ l.initial.self.count)
    × ((n : ℕ) → n < length l.self.label.items
    → (label_of l.self n ≡ far) ⊎ ((k : ℕ) × (l.place ≤ k) × (k < l.initial.self.count) × (row_at l.initial.self k ≡ n)))
