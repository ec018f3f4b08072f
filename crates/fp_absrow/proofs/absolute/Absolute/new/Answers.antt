use Rattle.fp_absrow.proofs.Measures.{absolute_row}
use Rattle.fp_absrow.proofs.absolute.Absolute.new.Goals as goal

pub returns-clause-row : goal.returns-clause-row
returns-clause-row c = λ lo hi row. absolute_row c.args.cells.now lo hi row
