use Rattle.std.proofs.Common.{arith}
use Rattle.fp_place.proofs.PercentLemmas.{area_more, area_end}
use Rattle.fp_place.proofs.percents.area_on.Goals as goal

pub overflow_add-taken : goal.overflow_add-taken
overflow_add-taken c = omega (arith, c.loop-cell.invariant.1, c.area_taken.ensures.small, c.from-taken.ensures, c.cells-cell-end.ensures.sound.few_cells, c.cells-cell-end.ensures.count)

pub loop-cell-preserved : goal.loop-cell-preserved
loop-cell-preserved c =
    let more = area_more c.args.problem.now c.args.die c.args.places.now c.loop-cell.cell c.index-places-cell.result c.area_taken.result (omega arith) c.index-places-cell.is
    c.area_taken.ensures.area in
    (omega (arith, more, c.loop-cell.invariant.0, c.from-taken.ensures), omega (arith, c.loop-cell.invariant.1, c.area_taken.ensures.small, c.from-taken.ensures))

pub returns-clause-area : goal.returns-clause-area
returns-clause-area c = omega (arith, c.loop-cell.invariant.0, area_end c.args.problem.now c.args.die c.args.places.now c.loop-cell.cell (omega arith))
