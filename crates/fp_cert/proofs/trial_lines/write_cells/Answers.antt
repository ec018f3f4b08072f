use Rattle.std.proofs.lemmas.Option.{slice_get-get_or}
use Rattle.fp_text.specs.WritingLaws.{in_turn, as_piece}
use Rattle.fp_cert.specs.CertText.{cell_line}
use Rattle.fp_cert.proofs.Pieces.{piece_more}
use Rattle.fp_cert.proofs.trial_lines.write_cells.Goals as goal

pub loop-cell-preserved : goal.loop-cell-preserved
loop-cell-preserved g c = record {
  adds = as_piece (piece_more cell_line c.args.cells.now c.loop-cell.cell-index _ (slice_get-get_or c.args.cells.now c.loop-cell.cell-index _ c.loop-cell-test.true))
      (in_turn c.loop-cell.invariant.adds c.write_cell.ensures.adds);
  goes_on = c.write_cell.ensures.goes_on;
}
