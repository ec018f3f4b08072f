use Rattle.std.proofs.Common.{◌≡◌, ◌++◌, map, take}
use Rattle.fp_flow.specs.Still.{still_cell}
use Rattle.fp_flow.proofs.still.push_still.Given as goal

abbrev pub invariant-loop-cell : goal.invariant-loop-cell
invariant-loop-cell l = l.row ≡ record l.fn.row { cells = l.fn.row.cells ++ map (still_cell l.placement) (take l.cell-index l.lane) }
