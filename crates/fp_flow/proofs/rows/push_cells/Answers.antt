use Rattle.std.proofs.Common.{◌∙◌, sym, ap, arith}
use Rattle.std.proofs.lemmas.List.FromFn.{map-range_with_len_more}
use Rattle.fp_cert.specs.Shown.{with_cell}
use Rattle.fp_flow.specs.Rows.{line_of}
use Rattle.fp_flow.proofs.rows.push_cells.Goals as goal

pub loop-rank-preserved : goal.loop-rank-preserved
loop-rank-preserved c =
    c.in_ok-push.ensures ∙ (λ i. with_cell (c.loop-rank.invariant i) (c.shown.ensures i))
    ∙ ap (λ cells. record c.args.row.now { cells = cells })
    (sym (map-range_with_len_more (line_of c.args.lane.now c.args.targets.now c.args.placed.now.xs.items c.args.placed.now.duals.items) 0 c.loop-rank.rank c.loop-rank.rank (omega arith)))
