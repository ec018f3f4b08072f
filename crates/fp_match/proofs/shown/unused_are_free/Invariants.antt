use Rattle.std.proofs.Common.{◌≡◌, ℕ, ◌<◌, get_or}
use Rattle.fp_match.specs.Owners.{unused}
use Rattle.fp_match.proofs.shown.unused_are_free.Given as goal

abbrev pub invariant-loop-column : goal.invariant-loop-column
invariant-loop-column l = (s : ℕ) → s < l.column → get_or l.owner s 0 ≡ unused → get_or l.prices s 0 ≡ 0
