use Rattle.std.proofs.Common.{codes, length}
use Rattle.std.proofs.lemmas.Option.{slice_get-get_or}
use Rattle.fp_text.specs.WritingLaws.{in_turn, as_piece}
use Rattle.fp_cert.specs.CertText.{number_line, cut_line}
use Rattle.fp_cert.proofs.Pieces.{piece_more_behind}
use Rattle.fp_cert.proofs.trial_lines.write_cuts.Goals as goal

pub loop-cut-preserved : goal.loop-cut-preserved
loop-cut-preserved g c = record {
  adds = as_piece (piece_more_behind (number_line (codes "Terminals") (length c.args.cuts.now)) cut_line c.args.cuts.now c.loop-cut.cut-index _
      (slice_get-get_or c.args.cuts.now c.loop-cut.cut-index _ c.loop-cut-test.true))
      (in_turn c.loop-cut.invariant.adds c.write_cut.ensures.adds);
  goes_on = c.write_cut.ensures.goes_on;
}
