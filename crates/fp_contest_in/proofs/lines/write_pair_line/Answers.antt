use Rattle.std.proofs.Common.{sym}
use Rattle.std.proofs.lemmas.List.{append-nil}
use Rattle.fp_contest_in.specs.PrintedText.{spaced}
use Rattle.fp_text.specs.WritingLaws.{in_turn, as_piece}
use Rattle.fp_contest_in.proofs.lines.write_pair_line.Goals as goal

pub returns-clause-adds : goal.returns-clause-adds
returns-clause-adds g c =
    in_turn (in_turn c.put.ensures.adds (in_turn c.write_word.ensures.adds (as_piece (sym (append-nil (spaced c.args.second.now))) c.write_word-2.ensures.adds))) c.put-2.ensures.adds
