use Rattle.std.proofs.Common.{◌≡◌, take}
use Rattle.fp_part.specs.Partitions.{after_moves}
use Rattle.fp_part.proofs.partition.move_all.Given as goal

abbrev pub invariant-loop-cell : goal.invariant-loop-cell
invariant-loop-cell l = l.dies.items ≡ after_moves l.fn.dies.items (take l.cell-index l.moved)
