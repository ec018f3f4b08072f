use Rattle.std.proofs.Common.{ap, decimal, get_or, arith}
use Rattle.std.proofs.lemmas.List.{length-map}
use Rattle.std.proofs.lemmas.Option.{slice_get-get_or}
use Rattle.fp_text.specs.Writing.{told}
use Rattle.fp_text.specs.WritingLaws.{adds_nothing, in_turn, as_piece}
use Rattle.fp_contest_in.specs.PrintedText.{spaced, numbers}
use Rattle.fp_contest_in.proofs.Pieces.{piece_more, piece_all, mapped_at}
use Rattle.fp_contest_in.proofs.lines.write_numbers.Goals as goal

pub loop-value-init : goal.loop-value-init
loop-value-init g c = record {
  adds = adds_nothing c.args.name.now (told g.F.Folder.held g.F.Folder.made g.F.Folder.faults c.args.folder.now) c.args.writer.now;
  goes_on = c.requires;
}

pub put-requires : goal.put-requires
put-requires g c = c.loop-value.invariant.goes_on

pub loop-value-preserved : goal.loop-value-preserved
loop-value-preserved g c =
    let at = mapped_at decimal c.args.values.now c.loop-value.value-index (get_or c.args.values.now c.loop-value.value-index 0)
    (slice_get-get_or c.args.values.now c.loop-value.value-index 0 c.loop-value-test.true) in
    record {
      adds = as_piece (piece_more spaced (numbers c.args.values.now) c.loop-value.value-index _ at)
          (in_turn c.loop-value.invariant.adds (in_turn c.put.ensures.adds (as_piece (ap decimal c.from.ensures) c.number.ensures.adds)));
      goes_on = c.number.ensures.goes_on;
    }

pub returns-clause-adds : goal.returns-clause-adds
returns-clause-adds g c =
    as_piece (piece_all spaced (numbers c.args.values.now) c.loop-value.value-index (omega (arith, length-map c.args.values.now decimal, c.loop-value-test.false))) c.loop-value.invariant.adds
