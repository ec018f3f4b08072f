use Rattle.std.proofs.Common.{◌≡◌, ℕ, ◌<◌, ◌≤◌, false}
use Rattle.fp_seed.specs.FilledSegments.{holds}
use Rattle.fp_seed.proofs.filled_segments.FilledSegments.next_holding.Given as goal

abbrev pub invariant-loop-segment : goal.invariant-loop-segment
invariant-loop-segment g l = (s : ℕ) → l.from ≤ s → s < l.segment → holds l.problem g.S.Side.DIE l.self.used.items l.fn.cell.0 s ≡ false
