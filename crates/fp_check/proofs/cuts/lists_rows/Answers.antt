use Rattle.std.proofs.Common.{◌∙◌, refl, sym, arith}
use Rattle.fp_check.proofs.Priced.{line_of_row, lines_of_rows}
use Rattle.fp_check.proofs.Scored.{never}
use Rattle.fp_check.proofs.cuts.lists_rows.Goals as goal

pub returns-then-cuts-row : goal.returns-then-cuts-row
returns-then-cuts-row c = (
  never _,
  λ same. absurd (c.if-cuts-row.true (line_of_row c.args.costs.now c.args.cuts.now c.loop-row.row same (omega (arith, c.loop-row-test.true, c.rows-row-end.ensures.value)) ∙ sym c.net_of.ensures)),
)

pub returns : goal.returns
returns c = (
  λ _. lines_of_rows c.args.costs.now c.args.cuts.now (c.if-cuts-rows.false ∙ c.rows.ensures.value)
      (λ row below. c.loop-row.invariant row (omega (arith, below, c.loop-row-test.false, c.rows-row-end.ensures.value))),
  λ _. refl,
)
