use Rattle.std.proofs.Common.{◌+◌, ◌<◌, ◌+ℤ◌, FitsSigned, w64, to_z, length, arith}
use Rattle.std.proofs.lemmas.Int.{ints, to_z-of_z}
use Rattle.fp_absrow.specs.ConvexCells.{width_of, no_cell, cell_at}
use Rattle.fp_rows.specs.RunsLaws.{IsWide, wide_start, wide_next, wide_most, wide_end}
use Rattle.fp_absrow.proofs.Cells.{are_sized, cell_of}
use Rattle.fp_absrow.proofs.placing.width_of_all.Given as given
use Rattle.fp_absrow.proofs.placing.width_of_all.Goals as goal
use Rattle.fp_absrow.proofs.placing.width_of_all.Goals.{After-width-width}

pub loop-cell-init : goal.loop-cell-init
loop-cell-init g c = wide_start width_of (g.C.RowCost.cells_of c.args.costs.now) (are_sized (g.C.RowCost.cells_of c.args.costs.now) c.cells-cell-end.ensures.convex)

within : (g : given.Over) (c : After-width-width g) → c.loop-cell.cell < length (g.C.RowCost.cells_of c.args.costs.now)
within g c =
    let count = c.cells-cell-end.ensures.count in
    omega arith

next : (g : given.Over) (c : After-width-width g) → IsWide width_of (g.C.RowCost.cells_of c.args.costs.now) (c.loop-cell.cell + 1) (to_z w64 c.loop-cell.width-bits +ℤ (cell_at (g.C.RowCost.cells_of c.args.costs.now) c.loop-cell.cell).width)
next g c = wide_next width_of (g.C.RowCost.cells_of c.args.costs.now) c.loop-cell.cell (to_z w64 c.loop-cell.width-bits) no_cell (within g c) c.loop-cell.invariant

fits : (g : given.Over) (c : After-width-width g) → FitsSigned w64 (to_z w64 c.loop-cell.width-bits +ℤ (cell_at (g.C.RowCost.cells_of c.args.costs.now) c.loop-cell.cell).width)
fits g c =
    let n = next g c in
    let most = wide_most width_of (g.C.RowCost.cells_of c.args.costs.now) _ _ n in
    omega (arith, ints, n.low, c.requires)

pub overflow_add-width : goal.overflow_add-width
overflow_add-width g c =
    let d = (goal.at.overflow_add-width g c).After-width-width in
    let cell = cell_of (g.C.RowCost.cells_of c.args.costs.now) c.loop-cell.cell c.cells-cell-end.ensures.convex (within g d) in
    let w : FitsSigned w64 (cell_at (g.C.RowCost.cells_of c.args.costs.now) c.loop-cell.cell).width = omega (arith, ints, cell.width_from, cell.width_to) in
    rw c.width-width.ensures (simp to_z-of_z (fits g d))

pub loop-cell-preserved : goal.loop-cell-preserved
loop-cell-preserved g c =
    let d = (goal.at.loop-cell-preserved g c).After-width-width in
    let cell = cell_of (g.C.RowCost.cells_of c.args.costs.now) c.loop-cell.cell c.cells-cell-end.ensures.convex (within g d) in
    let w : FitsSigned w64 (cell_at (g.C.RowCost.cells_of c.args.costs.now) c.loop-cell.cell).width = omega (arith, ints, cell.width_from, cell.width_to) in
    let f = fits g d in
    rw c.width-width.ensures (simp to_z-of_z (next g d))

pub returns : goal.returns
returns g c =
    let count = c.cells-cell-end.ensures.count in
    wide_end width_of (g.C.RowCost.cells_of c.args.costs.now) c.loop-cell.cell (to_z w64 c.loop-cell.width-bits) (omega arith) (omega arith) c.loop-cell.invariant
