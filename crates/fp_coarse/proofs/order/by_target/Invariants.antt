use Rattle.std.proofs.Common.{◌≡◌, map, take}
use Rattle.fp_coarse.specs.Orders.{entry_by}
use Rattle.fp_coarse.proofs.order.by_target.Given as goal

abbrev pub invariant-loop-choice : goal.invariant-loop-choice
invariant-loop-choice l = l.entries.items ≡ map (entry_by l.targets) (take l.choice-index l.choices)
