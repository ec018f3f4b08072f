use Rattle.std.proofs.Common.{ap}
use Rattle.fp_text.specs.WritingLaws.{in_turn, as_piece}
use Rattle.fp_cert.specs.CertText.{field}
use Rattle.fp_cert.proofs.trial_lines.write_cut.Goals as goal

pub returns-clause-adds : goal.returns-clause-adds
returns-clause-adds g c =
    let net = as_piece (ap field c.from.ensures) c.write_field.ensures.adds in
    let slot = as_piece (ap field c.from-2.ensures) c.write_field-2.ensures.adds in
    in_turn (in_turn (in_turn (in_turn c.put.ensures.adds net) slot) c.write_field-3.ensures.adds) c.put-2.ensures.adds
