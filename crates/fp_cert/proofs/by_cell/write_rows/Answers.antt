use Rattle.std.proofs.Common.{◌<◌, All, length, sym, subst}
use Rattle.fp_cert.specs.declared.shown.CellShown.{CellShown}
use Rattle.fp_cert.proofs.ByCells.{row_within}
use Rattle.fp_cert.proofs.by_cell.write_rows.Goals as goal

pub write_row-requires : goal.write_row-requires
write_row-requires c =
    subst (All (λ (line : CellShown). line.cell.0 < length c.loop-row.lines.items)) (sym c.cells.ensures)
    (row_within c.args.rows.now c.args.lines.now.items c.loop-row.lines.items c.loop-row.row-index c.loop-row.row-index c.row-item.result c.requires c.loop-row.invariant c.loop-row-test.true c.row-item.is)
