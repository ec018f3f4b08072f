use Rattle.std.proofs.Common.{[]}
use Rattle.std.proofs.lemmas.Result.{err_from_is_err_and}
use Rattle.fp_text.specs.Reading.{many_next}
use Rattle.fp_cert.specs.CertReading.{cell_next}
use Rattle.fp_cert.specs.Growing.{with_cells}
use Rattle.fp_cert.proofs.ReadLoops.{cells_none, cells_more, so_far_fault, so_far_all}
use Rattle.fp_cert.proofs.lines_reader.many_cells.Goals as goal

pub loop-init : goal.loop-init
loop-init c = cells_none (cell_next c.args.problem.now) c.args.count c.args.row.now c.args.tokens.now

pub returns-in_err-add_cell : goal.returns-in_err-add_cell
returns-in_err-add_cell c =
    let p = err_from_is_err_and c.from_residual.result c.from_residual.ensures.1 in
    rw (p.1, p.2) (so_far_fault c.in_err-add_cell.field-0.0 with_cells (λ before. cell_next c.args.problem.now) c.args.count c.loop.counter c.args.row.now c.loop.row c.loop.tokens
    (many_next (λ before. cell_next c.args.problem.now) c.args.count [] c.args.tokens.now) c.loop-test.true c.loop.invariant c.in_err-add_cell.ensures)

pub loop-preserved : goal.loop-preserved
loop-preserved c =
    cells_more (cell_next c.args.problem.now) c.args.count c.loop.counter c.args.row.now c.loop.row c.add_cell.new.row c.loop.tokens c.add_cell.new.tokens
    (many_next (λ before. cell_next c.args.problem.now) c.args.count [] c.args.tokens.now) c.loop-test.true c.loop.invariant c.in_ok-add_cell.ensures

pub returns : goal.returns
returns c = (
  c.loop.invariant.items,
  so_far_all with_cells (λ before. cell_next c.args.problem.now) c.args.count c.loop.counter c.args.row.now c.loop.row c.loop.tokens
      (many_next (λ before. cell_next c.args.problem.now) c.args.count [] c.args.tokens.now) c.loop-test.false c.loop.invariant,
  c.loop.invariant.value,
)
