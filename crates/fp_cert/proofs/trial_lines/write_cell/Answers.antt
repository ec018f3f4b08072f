use Rattle.std.proofs.Common.{FitsSigned, w64, ap, rules}
use Rattle.std.proofs.lemmas.Int.{to_z-of_z}
use Rattle.fp_text.specs.WritingLaws.{in_turn, as_piece}
use Rattle.fp_cert.specs.CertText.{field, signed_field}
use Rattle.fp_cert.proofs.trial_lines.write_cell.Goals as goal

pub returns-clause-adds : goal.returns-clause-adds
returns-clause-adds g c =
    let x : FitsSigned w64 c.args.cell.x = search rules in
    let target_x : FitsSigned w64 c.args.cell.target.x = search rules in
    let target_y : FitsSigned w64 c.args.cell.target.y = search rules in
    let cell = as_piece (ap field c.from.ensures) c.write_field.ensures.adds in
    let place = as_piece (ap signed_field (to_z-of_z w64 c.args.cell.x x)) c.write_signed_field.ensures.adds in
    let across = as_piece (ap signed_field (to_z-of_z w64 c.args.cell.target.x target_x)) c.write_signed_field-2.ensures.adds in
    let up = as_piece (ap signed_field (to_z-of_z w64 c.args.cell.target.y target_y)) c.write_signed_field-3.ensures.adds in
    in_turn (in_turn (in_turn (in_turn (in_turn (in_turn c.put.ensures.adds cell) place) across) up) c.write_field-2.ensures.adds) c.put-2.ensures.adds
