use Rattle.std.proofs.Common.{All, take}
use Rattle.fp_tech.specs.Slots.{AreApart}
use Rattle.fp_place.proofs.joining.is_apart_from.Given as goal

abbrev pub invariant-loop-other : goal.invariant-loop-other
invariant-loop-other l = All (AreApart l.terminal l.centre) (take l.other-index l.others)
