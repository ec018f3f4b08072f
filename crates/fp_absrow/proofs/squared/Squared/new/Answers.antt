use Rattle.fp_absrow.proofs.Measures.{squared_row, best_on, best_back, duals_on, duals_back}
use Rattle.fp_absrow.proofs.squared.Squared.new.Goals as goal

pub returns-clause-row : goal.returns-clause-row
returns-clause-row c = λ lo hi row. squared_row c.args.cells.now lo hi row

pub returns-clause-best : goal.returns-clause-best
returns-clause-best c = λ lo hi xs. (best_on c.args.cells.now lo hi xs, best_back c.args.cells.now lo hi xs)

pub returns-clause-duals : goal.returns-clause-duals
returns-clause-duals c = λ lo hi xs duals. (duals_on c.args.cells.now lo hi xs duals, duals_back c.args.cells.now lo hi xs duals)
