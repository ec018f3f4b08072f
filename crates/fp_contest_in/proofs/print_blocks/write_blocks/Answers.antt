use Rattle.std.specs.Prelude.{codes}
use Rattle.std.proofs.Common.{◌∷◌, [], length, List, ℕ}
use Rattle.std.proofs.lemmas.Option.{slice_get-get_or}
use Rattle.fp_base.specs.declared.ids.Die.TheVariants.{Top}
use Rattle.fp_tech.specs.declared.dies.Block.{Block}
use Rattle.fp_contest_in.specs.PrintedText.{line, numbers, block_line}
use Rattle.fp_text.specs.WritingLaws.{in_turn, as_piece}
use Rattle.fp_contest_in.proofs.Pieces.{piece_more, behind}
use Rattle.fp_contest_in.proofs.print_blocks.write_blocks.Goals as goal

abbrev head : ℕ → List ℕ
head count = line (codes "NumBlockages") (numbers (count ∷ []))

abbrev none : Block
none = record { die = Top; llx = 0; lly = 0; urx = 0; ury = 0 }

pub loop-block-preserved : goal.loop-block-preserved
loop-block-preserved g c =
    let blocks = c.args.blocks.now in
    record {
      adds = as_piece (behind (head (length blocks)) _ _ (piece_more block_line blocks c.loop-block.block-index _ (slice_get-get_or blocks c.loop-block.block-index none c.loop-block-test.true)))
          (in_turn c.loop-block.invariant.adds c.write_block.ensures.adds);
      goes_on = c.write_block.ensures.goes_on;
    }
