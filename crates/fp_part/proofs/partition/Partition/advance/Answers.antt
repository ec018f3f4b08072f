use Rattle.fp_part.specs.SettledLaws.{next_is}
use Rattle.fp_part.proofs.partition.Partition.advance.Goals as goal

pub move_cell-requires-clause-cell : goal.move_cell-requires-clause-cell
move_cell-requires-clause-cell c =
    (next_is c.args.problem.now c.args.self.now.gains.dies c.args.self.now.gains.locked c.args.cell.0 c.requires.next).in_range
