use Rattle.std.proofs.Common.{FitsSigned, w64, codes, not, sym, ap, ◌∙◌, arith, rules}
use Rattle.std.proofs.lemmas.Int.{to_z-of_z}
use Rattle.fp_text.specs.Writing.{told}
use Rattle.fp_text.specs.WritingLaws.{adds_nothing, in_turn, as_piece}
use Rattle.fp_out.specs.OutText.{line_text, insts_text}
use Rattle.fp_out.proofs.Lists.{lines_below, lines_none, lines_all, is_other_die}
use Rattle.fp_out.proofs.Texts.{insts_more, insts_same}
use Rattle.fp_out.proofs.output.write_cells.Goals as goal

pub loop-cell-init : goal.loop-cell-init
loop-cell-init g c = record {
  adds = as_piece (sym (ap (insts_text c.args.problem.now) (lines_none c.args.die c.args.placement.now)))
      (adds_nothing c.args.name.now (told g.F.Folder.held g.F.Folder.made g.F.Folder.faults c.args.folder.now) c.args.writer.now);
  goes_on = c.requires.goes_on;
}

pub loop-cell-preserved-then-ne : goal.loop-cell-preserved-then-ne
loop-cell-preserved-then-ne g c =
    let elsewhere = is_other_die c.spot-spot.result.die c.args.die c.ne.result c.ne.ensures ∙ ap not c.if-ne.true in
    record {
      adds = as_piece (insts_same c.args.problem.now c.args.die c.loop-cell.cell c.args.placement.now c.spot-spot.result c.spot-spot.ensures.spot elsewhere) c.loop-cell.invariant.adds;
      goes_on = c.loop-cell.invariant.goes_on;
    }

pub loop-cell-preserved : goal.loop-cell-preserved
loop-cell-preserved g c =
    let here = is_other_die c.spot-spot.result.die c.args.die c.ne.result c.ne.ensures ∙ ap not c.if-ne.false in
    let x : FitsSigned w64 c.spot-spot.result.x = search rules in
    let y : FitsSigned w64 c.spot-spot.result.y = search rules in
    let line = as_piece (λ i. line_text (codes "Inst") c.cell_name.result.now (record { x = to_z-of_z w64 c.spot-spot.result.x x i; y = to_z-of_z w64 c.spot-spot.result.y y i })) c.write_line.ensures.adds in
    record {
      adds = as_piece (insts_more c.args.problem.now c.args.die c.loop-cell.cell c.args.placement.now c.spot-spot.result c.cell_name.result.now c.spot-spot.ensures.spot here c.cell_name.ensures)
          (in_turn {first = insts_text c.args.problem.now (lines_below c.args.die c.loop-cell.cell c.args.placement.now)} c.loop-cell.invariant.adds line);
      goes_on = c.write_line.ensures.goes_on;
    }

pub returns-clause-adds : goal.returns-clause-adds
returns-clause-adds g c = as_piece (ap (insts_text c.args.problem.now) (lines_all c.args.die c.loop-cell.cell c.args.placement.now (omega (arith, c.requires.of_problem.cells)))) c.loop-cell.invariant.adds
