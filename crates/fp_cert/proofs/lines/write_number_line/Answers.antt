use Rattle.fp_text.specs.WritingLaws.{in_turn}
use Rattle.fp_cert.proofs.lines.write_number_line.Goals as goal

pub returns-clause-adds : goal.returns-clause-adds
returns-clause-adds g c = in_turn (in_turn c.put.ensures.adds c.write_field.ensures.adds) c.put-2.ensures.adds
