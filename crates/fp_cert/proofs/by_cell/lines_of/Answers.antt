use Rattle.std.proofs.Common.{◌≡◌, ◌∙◌, length, ap, arith}
use Rattle.fp_base.specs.declared.ids.Die.TheVariants.{Top, Bottom}
use Rattle.fp_cert.specs.Shown.{rows_of}
use Rattle.fp_cert.specs.ByCell.{with_row_lines}
use Rattle.fp_cert.proofs.ByCells.{within_again, rows_long, lines_within, lines_are}
use Rattle.fp_cert.proofs.by_cell.lines_of.Goals as goal

pub write_rows-requires : goal.write_rows-requires
write_rows-requires c =
    let many : length c.args.problem.now.cells ≡ length c.in_ok-lines.lines.items = omega (arith, c.in_ok-lines.ensures.len, c.cells.ensures.count) in
    within_again _ _ (rows_of c.args.trial.now Top) c.rows.result.now many c.rows.ensures (lines_within _ c.args.trial.now c.requires.once Top)

pub write_rows-requires-2 : goal.write_rows-requires-2
write_rows-requires-2 c =
    let held = ap length c.write_rows.ensures ∙ rows_long c.rows.result.now c.in_ok-lines.lines.items in
    let many : length c.args.problem.now.cells ≡ length c.write_rows.new.lines.items = omega (arith, c.in_ok-lines.ensures.len, c.cells.ensures.count, held) in
    within_again _ _ (rows_of c.args.trial.now Bottom) c.rows-2.result.now many c.rows-2.ensures (lines_within _ c.args.trial.now c.requires.once Bottom)

pub returns : goal.returns
returns c =
    let first = c.write_rows.ensures ∙ ap (with_row_lines c.in_ok-lines.lines.items) c.rows.ensures in
    let many : length c.in_ok-lines.lines.items ≡ length c.args.problem.now.cells = omega (arith, c.in_ok-lines.ensures.len, c.cells.ensures.count) in
    c.write_rows-2.ensures ∙ (λ i. with_row_lines (first i) (c.rows-2.ensures i)) ∙ lines_are c.args.problem.now c.args.trial.now c.in_ok-lines.lines.items c.requires.once many
