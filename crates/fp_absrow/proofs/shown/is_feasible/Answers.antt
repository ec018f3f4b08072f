use Rattle.std.proofs.Common.{pos, ◌+ℤ◌, ◌<ℤ◌, FitsSigned, w64, get_or, arith, rules}
use Rattle.std.proofs.lemmas.Int.{ints, to_z-of_z}
use Rattle.fp_rows.specs.SeenLaws.{too_early, from_next}
use Rattle.fp_absrow.specs.ConvexCells.{width_of, no_cell, cell_at}
use Rattle.fp_absrow.proofs.Cells.{cell_of}
use Rattle.fp_absrow.proofs.shown.is_feasible.Goals as goal

pub returns-then-x-from : goal.returns-then-x-from
returns-then-x-from g c =
    let cells = g.C.RowCost.cells_of c.args.costs.now in
    let d : FitsSigned w64 c.args.lo = search rules in
    let e : FitsSigned w64 c.args.hi = search rules in
    let count = c.cells-cell-end.ensures.count in
    let same = c.requires.count in
    let x : FitsSigned w64 (get_or c.args.xs.now c.loop-cell.cell (pos 0)) = search rules in
    let inv = simp to_z-of_z at c.loop-cell.invariant in
    let early : get_or c.args.xs.now c.loop-cell.cell (pos 0) <ℤ c.loop-cell.from = omega (arith, ints) in
    (λ h. cc, λ f. absurd (too_early width_of cells c.args.lo c.args.hi c.args.xs.now c.loop-cell.cell c.loop-cell.from no_cell (pos 0) (omega arith) same (rw c.loop-cell.from-is at inv) early f))

pub overflow_add-from : goal.overflow_add-from
overflow_add-from g c =
    let cells = g.C.RowCost.cells_of c.args.costs.now in
    let count = c.cells-cell-end.ensures.count in
    let same = c.requires.count in
    let place = c.requires.places c.loop-cell.cell (pos 0) (omega arith) in
    let cell = cell_of cells c.loop-cell.cell c.cells-cell-end.ensures.convex (omega arith) in
    let width = c.width.ensures in
    let x : FitsSigned w64 (get_or c.args.xs.now c.loop-cell.cell (pos 0)) = omega (arith, ints, place.0, place.1) in
    let w : FitsSigned w64 c.width.result = omega (arith, ints, cell.width_from, cell.width_to) in
    simp to_z-of_z (omega (arith, ints, place.0, place.1, cell.width_from, cell.width_to))

pub loop-cell-preserved : goal.loop-cell-preserved
loop-cell-preserved g c =
    let cells = g.C.RowCost.cells_of c.args.costs.now in
    let count = c.cells-cell-end.ensures.count in
    let same = c.requires.count in
    let place = c.requires.places c.loop-cell.cell (pos 0) (omega arith) in
    let cell = cell_of cells c.loop-cell.cell c.cells-cell-end.ensures.convex (omega arith) in
    let width = c.width.ensures in
    let a : FitsSigned w64 (get_or c.args.xs.now c.loop-cell.cell (pos 0)) = omega (arith, ints, place.0, place.1) in
    let b : FitsSigned w64 (cell_at cells c.loop-cell.cell).width = omega (arith, ints, cell.width_from, cell.width_to) in
    let f : FitsSigned w64 (get_or c.args.xs.now c.loop-cell.cell (pos 0) +ℤ (cell_at cells c.loop-cell.cell).width) = omega (arith, ints, place.0, place.1, cell.width_from, cell.width_to) in
    let d : FitsSigned w64 c.args.lo = search rules in
    let e : FitsSigned w64 c.args.hi = search rules in
    let inv = simp to_z-of_z at c.loop-cell.invariant in
    let late = c.if-x-from.false in
    rw width (simp to_z-of_z (from_next width_of cells c.args.lo c.args.hi c.args.xs.now c.loop-cell.cell c.loop-cell.from no_cell (pos 0) (omega arith) same (rw c.loop-cell.from-is at inv) (omega (arith, ints))))
