use Rattle.std.proofs.Common.{◌≡◌, take}
use Rattle.fp_cert.specs.ByCell.{with_row_lines}
use Rattle.fp_cert.proofs.by_cell.write_rows.Given as goal

abbrev pub invariant-loop-row : goal.invariant-loop-row
invariant-loop-row l = l.lines.items ≡ with_row_lines l.fn.lines.items (take l.row-index l.rows)
