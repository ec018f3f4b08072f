use Rattle.std.proofs.Common.{◌≡◌, map, filter}
use Rattle.std.specs.List.{range_with_len}
use Rattle.fp_place.specs.Places.{die_at, same_die}
use Rattle.fp_coarse.specs.Orders.{entry_on}
use Rattle.fp_coarse.proofs.order.entries_on.Given as goal

abbrev pub invariant-loop-cell : goal.invariant-loop-cell
invariant-loop-cell l = l.entries.items ≡ map (entry_on l.problem l.die) (filter (λ cell. same_die (die_at l.dies cell) l.die) (range_with_len 0 l.cell))
