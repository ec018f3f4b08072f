use Rattle.fp_contest_in.specs.PrintedText.{inst_line}
use Rattle.fp_gen.specs.MakeText.{made_inst}
use Rattle.fp_gen.proofs.Growing.{begun_text, begun_words, more_text, more_words}
use Rattle.fp_gen.proofs.cells.push_insts.Goals as goal

pub loop-cell-init : goal.loop-cell-init
loop-cell-init c = (begun_text inst_line made_inst c.args.words.now c.args.text.now.items, begun_words made_inst c.args.words.now)

pub loop-cell-preserved : goal.loop-cell-preserved
loop-cell-preserved c =
    let cell = c.loop-cell.cell in
    let left = c.loop-cell.words in (
      more_text inst_line made_inst cell c.args.words.now left c.args.text.now.items c.loop-cell.text.items _ c.loop-cell.invariant.0 c.loop-cell.invariant.1 c.in_ok-push_inst.ensures.text,
      more_words made_inst cell c.args.words.now left _ c.loop-cell.invariant.1 c.in_ok-push_inst.ensures.words,
    )
