use Rattle.std.proofs.Common.{◌≡◌, map}
use Rattle.std.specs.List.{range_with_len}
use Rattle.fp_flow.specs.Rows.{line_of}
use Rattle.fp_flow.proofs.rows.push_cells.Given as goal

abbrev pub invariant-loop-rank : goal.invariant-loop-rank
invariant-loop-rank l = l.row ≡ record l.fn.row { cells = map (line_of l.lane l.targets l.placed.xs.items l.placed.duals.items) (range_with_len 0 l.rank) }
