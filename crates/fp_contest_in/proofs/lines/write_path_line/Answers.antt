use Rattle.fp_text.specs.WritingLaws.{in_turn, as_piece}
use Rattle.fp_contest_in.proofs.Pieces.{path_is}
use Rattle.fp_contest_in.proofs.lines.write_path_line.Goals as goal

pub returns-clause-adds : goal.returns-clause-adds
returns-clause-adds g c =
    let path = in_turn (in_turn c.write_word.ensures.adds c.put-2.ensures.adds) c.put-3.ensures.adds in
    in_turn (in_turn c.put.ensures.adds (as_piece (path_is c.args.first.now c.args.second.now) path)) c.put-4.ensures.adds
