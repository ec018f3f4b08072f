use Rattle.std.proofs.Common.{◌≡◌, take}
use Rattle.fp_place.specs.Joining.{strangers}
use Rattle.fp_place.proofs.joining.strangers.Given as goal

abbrev pub invariant-loop-line : goal.invariant-loop-line
invariant-loop-line l = l.others.items ≡ strangers l.nets (take l.line-index l.lines)
