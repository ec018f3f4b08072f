use Rattle.std.proofs.Common.{FitsSigned, w64, rules, ◌++◌, ◌∷◌, [], List, ℕ, get_or, sym, ap, ◌∙◌}
use Rattle.std.proofs.lemmas.Int.{to_z-of_z}
use Rattle.std.proofs.lemmas.List.{map_more}
use Rattle.fp_cert.specs.declared.shown.CellShown.{CellShown}
use Rattle.fp_cert.specs.Standing.{no_line}
use Rattle.fp_cert.specs.Trials.{row_cell}
use Rattle.fp_check.proofs.rows.fill.Goals as goal

pub loop-line-preserved : goal.loop-line-preserved
loop-line-preserved c =
    let lines = c.cells-lines.result.now in
    let i = c.loop-line.line-index in
    let line : CellShown = get_or lines i no_line in
    let fits : FitsSigned w64 line.x = search rules in
    let x_is = to_z-of_z w64 line.x fits in
    record {
      cells = c.in_ok-push-2.ensures.items ∙ (λ k. c.loop-line.invariant.cells k ++ c.row_cell.ensures k ∷ [])
          ∙ sym (map_more (row_cell c.args.problem.now c.args.die) lines i no_line c.loop-line-test.true);
      xs = c.in_ok-push-3.ensures.items ∙ (λ k. c.loop-line.invariant.xs k ++ x_is k ∷ []) ∙ sym (map_more (λ (l : CellShown). l.x) lines i no_line c.loop-line-test.true);
      duals = c.in_ok-push-4.ensures.items ∙ (λ k. c.loop-line.invariant.duals k ++ line.dual ∷ [])
          ∙ ap (λ (list : List ℕ). c.args.row.now.first ∷ list) (sym (map_more (λ (l : CellShown). l.dual) lines i no_line c.loop-line-test.true));
    }
