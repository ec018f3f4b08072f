use Rattle.std.proofs.Common.{codes, ap}
use Rattle.fp_out.specs.OutText.{head_text}
use Rattle.fp_text.specs.WritingLaws.{in_turn, as_piece}
use Rattle.fp_out.proofs.output.write_terminals.Goals as goal

pub returns-clause-adds : goal.returns-clause-adds
returns-clause-adds g c = in_turn (as_piece (ap (head_text (codes "NumTerminals")) c.terminals.ensures) c.write_head.ensures.adds) c.write_centres.ensures.adds
