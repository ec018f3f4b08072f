use Rattle.std.proofs.Common.{◌∙◌}
use Rattle.fp_part.proofs.NextLemmas.{next_from_best}
use Rattle.fp_part.proofs.partition.Partition.next_cell.Goals as goal

pub returns : goal.returns
returns c = c.best_movable.ensures ∙ next_from_best c.args.problem.now c.args.self.now.caps c.args.self.now.gains c.requires.held_is
