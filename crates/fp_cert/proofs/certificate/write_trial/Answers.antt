use Rattle.std.proofs.Common.{◌∙◌, sym, ap}
use Rattle.fp_text.specs.WritingLaws.{in_turn, as_piece}
use Rattle.fp_cert.specs.CertText.{ending_line, shown_lines}
use Rattle.fp_cert.proofs.Pieces.{placed_lines}
use Rattle.fp_cert.proofs.certificate.write_trial.Goals as goal

pub returns-in_default : goal.returns-in_default
returns-in_default g c =
    let is = c.ending-ending.ensures in
    let shown = sym (placed_lines c.ending-ending.result c.args.trial.now c.in_default.not-NoRow) ∙ ap (λ ending. shown_lines ending c.args.trial.now) is in
    record {
      adds = in_turn (as_piece (ap (ending_line c.args.number) is) c.write_ending.ensures.adds) (as_piece shown c.write_lines.ensures.adds);
      goes_on = c.write_lines.ensures.goes_on;
    }
