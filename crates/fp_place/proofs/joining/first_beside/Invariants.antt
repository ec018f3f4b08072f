use Rattle.std.proofs.Common.{◌<◌, ℕ}
use Rattle.fp_place.specs.Joining.{IsApartFrom}
use Rattle.fp_place.proofs.joining.first_beside.Given as goal

abbrev pub invariant-loop-net : goal.invariant-loop-net
invariant-loop-net l = (before : ℕ) → before < l.net → IsApartFrom l.terminal l.others l.centres before
