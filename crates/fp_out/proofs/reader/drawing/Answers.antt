use Rattle.std.proofs.lemmas.Result.{err_from_is_err_and}
use Rattle.fp_out.proofs.DrawingRead.{top_fails, bottom_fails, terminals_fail, all_read}
use Rattle.fp_out.proofs.reader.drawing.Goals as goal

pub returns-in_err-cells : goal.returns-in_err-cells
returns-in_err-cells c =
    let p = err_from_is_err_and c.from_residual.result c.from_residual.ensures.1 in
    rw (p.1, p.2) (top_fails c.in_err-cells.field-0.0 c.args.problem.now c.args.tokens.now c.in_err-cells.ensures)

pub returns-in_err-cells-2 : goal.returns-in_err-cells-2
returns-in_err-cells-2 c =
    let p = err_from_is_err_and c.from_residual-in_err-cells-2.result c.from_residual-in_err-cells-2.ensures.1 in
    rw (p.1, p.2) (bottom_fails c.in_err-cells-2.field-0.0 c.args.problem.now c.args.drawn.now c.cells.new.drawn c.args.tokens.now c.cells.new.tokens c.in_ok-cells.ensures c.in_err-cells-2.ensures)

pub returns-in_err-terminals : goal.returns-in_err-terminals
returns-in_err-terminals c =
    let p = err_from_is_err_and c.from_residual-in_err-terminals.result c.from_residual-in_err-terminals.ensures.1 in
    rw (p.1, p.2) (terminals_fail c.in_err-terminals.field-0.0 c.args.problem.now c.args.drawn.now c.cells.new.drawn c.cells-2.new.drawn c.args.tokens.now c.cells.new.tokens c.cells-2.new.tokens
    c.in_ok-cells.ensures c.in_ok-cells-2.ensures c.in_err-terminals.ensures)

pub returns : goal.returns
returns c =
    all_read c.end.result c.args.problem.now c.args.drawn.now c.cells.new.drawn c.cells-2.new.drawn c.terminals.new.drawn c.args.tokens.now c.cells.new.tokens c.cells-2.new.tokens c.terminals.new.tokens
    c.end.new.self c.requires c.in_ok-cells.ensures c.in_ok-cells-2.ensures c.in_ok-terminals.ensures c.end.ensures.ends
