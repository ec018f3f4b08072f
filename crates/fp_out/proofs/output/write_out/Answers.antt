use Rattle.fp_text.specs.WritingLaws.{in_turn, written_on_ok}
use Rattle.fp_out.specs.OutLengthLaws.{placement_short}
use Rattle.fp_out.proofs.output.write_out.Goals as goal

pub returns-clause-written : goal.returns-clause-written
returns-clause-written g c =
    written_on_ok c.finish.result c.new-writer.ensures.starts (in_turn (in_turn c.write_die.ensures.adds c.write_die-2.ensures.adds) c.write_terminals.ensures.adds) c.finish.ensures.finishes

pub returns-clause-small : goal.returns-clause-small
returns-clause-small g c = placement_short c.args.problem.now c.args.placement.now c.cells-cells.ensures.sound c.requires.of_problem
