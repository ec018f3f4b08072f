use Rattle.std.proofs.Common.{◌≡◌, take}
use Rattle.fp_cert.specs.ByCell.{with_lines}
use Rattle.fp_cert.proofs.by_cell.write_row.Given as goal

abbrev pub invariant-loop-line : goal.invariant-loop-line
invariant-loop-line l = l.lines.items ≡ with_lines l.fn.lines.items (take l.line-index l.cells)
