use Rattle.std.proofs.Common.{FitsSigned, w64, ap, rules}
use Rattle.std.proofs.lemmas.Int.{to_z-of_z}
use Rattle.fp_out.specs.OutText.{coordinate_text}
use Rattle.fp_text.specs.WritingLaws.{in_turn, as_piece}
use Rattle.fp_out.proofs.lines.write_line.Goals as goal

pub returns-clause-adds : goal.returns-clause-adds
returns-clause-adds g c =
    let x : FitsSigned w64 c.args.at.x = search rules in
    let y : FitsSigned w64 c.args.at.y = search rules in
    let first = as_piece (ap coordinate_text (to_z-of_z w64 c.args.at.x x)) c.write_coordinate.ensures.adds in
    let second = as_piece (ap coordinate_text (to_z-of_z w64 c.args.at.y y)) c.write_coordinate-2.ensures.adds in
    in_turn (in_turn (in_turn (in_turn (in_turn c.put.ensures.adds c.put-2.ensures.adds) c.put-3.ensures.adds) first) second) c.put-4.ensures.adds
