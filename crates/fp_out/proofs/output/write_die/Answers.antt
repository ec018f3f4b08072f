use Rattle.fp_out.specs.OutText.{head_text}
use Rattle.fp_text.specs.WritingLaws.{in_turn, as_piece}
use Rattle.fp_out.proofs.output.write_die.Goals as goal

pub returns-clause-adds : goal.returns-clause-adds
returns-clause-adds g c = in_turn (as_piece (λ i. head_text (c.word_of.ensures i) (c.cells_on.ensures i)) c.write_head.ensures.adds) c.write_cells.ensures.adds
