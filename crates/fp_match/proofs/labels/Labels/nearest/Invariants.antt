use Rattle.std.proofs.Common.{ℕ, ◌<◌, ◌≤◌}
use Rattle.fp_match.specs.Search.{label_of, row_at}
use Rattle.fp_match.proofs.labels.Labels.nearest.Given as goal

abbrev pub invariant-loop-place : goal.invariant-loop-place
invariant-loop-place l =
    (l.self.at < l.best) × (l.best < l.self.count) × (l.self.at < l.place) × (l.place ≤ l.self.count)
    × ((j : ℕ) → l.place ≤ j → j < l.self.count → label_of l.self (row_at l.self l.best) ≤ label_of l.self (row_at l.self j))

abbrev pub decreases-loop-place : goal.decreases-loop-place
decreases-loop-place l = l.place
