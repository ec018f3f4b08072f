use Rattle.std.proofs.Common.{◌≡◌, ◌++◌, map, replicate, take}
use Rattle.fp_gains.specs.Contests.{unkeyed_rank}
use Rattle.fp_gains.proofs.tournament.seats.Given as goal

abbrev pub invariant-loop-cell : goal.invariant-loop-cell
invariant-loop-cell l = l.nodes.items ≡ replicate l.inner 0 ++ map unkeyed_rank (take l.cell-index l.cells)
