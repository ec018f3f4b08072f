use Rattle.std.proofs.Common.{ℕ, ◌<◌}
use Rattle.fp_place.specs.Closeness.{IsApart}
use Rattle.fp_place.proofs.close.first_close.Given as goal

abbrev pub invariant-loop-net : goal.invariant-loop-net
invariant-loop-net l = (before : ℕ) → before < l.net → IsApart l.terminal l.centres before
