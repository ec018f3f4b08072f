use Rattle.std.proofs.Common.{◌∙◌, ◌++◌, ◌∷◌, [], get_or, map, take, append_assoc, ap}
use Rattle.std.proofs.lemmas.Option.{slice_get-get_or}
use Rattle.fp_cert.specs.Shown.{with_cell}
use Rattle.fp_flow.specs.Still.{still_cell}
use Rattle.fp_flow.proofs.Stills.{mapped_more, cell_shown}
use Rattle.fp_flow.proofs.still.push_still.Goals as goal

pub loop-cell-preserved : goal.loop-cell-preserved
loop-cell-preserved c =
    let placed = c.args.placement.now in
    let k = c.loop-cell.cell-index in
    let cell = get_or c.args.lane.now k (record { 0 = 0 }) in
    let shown = c.as_it_stands.ensures ∙ cell_shown placed cell c.spot.result c.spot.ensures.spot in
    c.in_ok-push.ensures ∙ (λ i. with_cell (c.loop-cell.invariant i) (shown i))
    ∙ ap (λ cells. record c.args.row.now { cells = cells })
    (append_assoc c.args.row.now.cells (map (still_cell placed) (take k c.args.lane.now)) (still_cell placed cell ∷ [])
    ∙ ap (λ cells. c.args.row.now.cells ++ cells) (mapped_more (still_cell placed) c.args.lane.now k cell (slice_get-get_or c.args.lane.now k (record { 0 = 0 }) c.loop-cell-test.true)))
