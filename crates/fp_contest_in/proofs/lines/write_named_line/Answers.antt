use Rattle.fp_text.specs.WritingLaws.{in_turn}
use Rattle.fp_contest_in.proofs.lines.write_named_line.Goals as goal

pub returns-clause-adds : goal.returns-clause-adds
returns-clause-adds g c = in_turn (in_turn c.put.ensures.adds (in_turn c.write_word.ensures.adds c.write_numbers.ensures.adds)) c.put-2.ensures.adds
