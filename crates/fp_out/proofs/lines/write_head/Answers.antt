use Rattle.std.proofs.Common.{ap, decimal}
use Rattle.fp_text.specs.WritingLaws.{in_turn, as_piece}
use Rattle.fp_out.proofs.lines.write_head.Goals as goal

pub returns-clause-adds : goal.returns-clause-adds
returns-clause-adds g c = in_turn (in_turn (in_turn c.put.ensures.adds c.put-2.ensures.adds) (as_piece (ap decimal c.from.ensures) c.number.ensures.adds)) c.put-3.ensures.adds
