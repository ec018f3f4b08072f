use Rattle.std.proofs.Common.{◌≡◌, map, take}
use Rattle.fp_cert.specs.RowsLaws.{cell_for}
use Rattle.fp_flow.proofs.rows.fill_cells.Given as goal

abbrev pub invariant-loop-cell : goal.invariant-loop-cell
invariant-loop-cell l = l.cells.items ≡ map (cell_for l.problem l.die l.targets) (take l.cell-index l.lane)
