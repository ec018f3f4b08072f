use Rattle.std.proofs.Common.{◌∙◌, ◌+◌, List, ◌++◌, take, ap, sym}
use Rattle.fp_cert.specs.declared.shown.CellShown.{CellShown}
use Rattle.fp_check.specs.Marks.{cells_in, cells_in_rows}
use Rattle.fp_check.proofs.Marking.{none_marked, go_on, stop_here, row_more, rows_none}
use Rattle.fp_check.proofs.listing.mark_rows.Goals as goal

pub loop-row-init : goal.loop-row-init
loop-row-init c = none_marked c.args.seen.now.items

pub returns-then-not-mark_cells : goal.returns-then-not-mark_cells
returns-then-not-mark_cells c =
    let front = cells_in_rows (take c.loop-row.row-index c.args.rows.now) in
    let more = row_more c.args.rows.now c.loop-row.row-index c.row-item.result c.loop-row-test.true c.row-item.is ∙ ap (λ (cells : List CellShown). front ++ cells_in cells) (sym c.cells.ensures) in
    sym (rows_none c.args.seen.now.items c.args.rows.now (c.loop-row.row-index + 1)
    (stop_here c.args.seen.now.items c.loop-row.seen.items c.mark_cells.new.seen.items front (cells_in c.cells.result.now) _ c.mark_cells.result c.loop-row.invariant more c.mark_cells.ensures
    c.if-not-mark_cells.true))

pub loop-row-preserved : goal.loop-row-preserved
loop-row-preserved c =
    let front = cells_in_rows (take c.loop-row.row-index c.args.rows.now) in
    let more = row_more c.args.rows.now c.loop-row.row-index c.row-item.result c.loop-row-test.true c.row-item.is ∙ ap (λ (cells : List CellShown). front ++ cells_in cells) (sym c.cells.ensures) in
    go_on c.args.seen.now.items c.loop-row.seen.items c.mark_cells.new.seen.items front (cells_in c.cells.result.now) _ c.mark_cells.result c.loop-row.invariant more c.mark_cells.ensures
    c.if-not-mark_cells.false
