use Rattle.std.specs.Prelude.{codes}
use Rattle.std.proofs.Common.{◌∙◌, ◌∷◌, ◌++◌, [], map, length, sym, ap, List, ℕ, arith}
use Rattle.std.proofs.lemmas.List.{append-nil, length-map}
use Rattle.fp_contest_in.specs.PrintedText.{line, numbers, inst_line, inst_said}
use Rattle.fp_text.specs.WritingLaws.{in_turn, as_piece}
use Rattle.fp_contest_in.proofs.Pieces.{piece_more, piece_all, mapped_at, element, behind}
use Rattle.fp_contest_in.proofs.print_nets.write_insts.Goals as goal

abbrev head : ℕ → List ℕ
head count = line (codes "NumInstances") (numbers (count ∷ []))

pub loop-cell-init : goal.loop-cell-init
loop-cell-init g c = record {
  adds = as_piece (ap head c.cells-cells.ensures.count ∙ sym (append-nil (head (length c.args.problem.now.cells)))) c.write_numbers_line.ensures.adds;
  goes_on = c.write_numbers_line.ensures.goes_on;
}

pub loop-cell-preserved : goal.loop-cell-preserved
loop-cell-preserved g c =
    let p = c.args.problem.now in
    let cell = element p.cells c.loop-cell.cell (omega (arith, c.cells-cells.ensures.count, c.loop-cell-test.true)) in
    record {
      adds = as_piece (behind (head (length p.cells)) _ _ (piece_more inst_line (map (inst_said p.plan.book.names) p.cells) c.loop-cell.cell (inst_said p.plan.book.names cell.0) (mapped_at (inst_said p.plan.book.names) p.cells c.loop-cell.cell cell.0 cell.1)))
          (in_turn c.loop-cell.invariant.adds (c.write_inst.ensures.adds cell.0 cell.1));
      goes_on = c.write_inst.ensures.goes_on;
    }

pub returns-clause-adds : goal.returns-clause-adds
returns-clause-adds g c =
    let p = c.args.problem.now in
    as_piece (λ i. line (codes "NumInstances") (numbers (sym (length-map p.cells (inst_said p.plan.book.names)) i ∷ []))
    ++ piece_all inst_line (map (inst_said p.plan.book.names) p.cells) c.loop-cell.cell (omega (arith, length-map p.cells (inst_said p.plan.book.names), c.cells-cells.ensures.count, c.loop-cell-test.false)) i) c.loop-cell.invariant.adds
