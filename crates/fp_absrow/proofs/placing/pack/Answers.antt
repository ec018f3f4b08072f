use Rattle.std.proofs.Common.{◌≡◌, ◌+◌, ◌+ℤ◌, FitsSigned, w64, to_z, set, arith, rules}
use Rattle.std.proofs.lemmas.Int.{ints, to_z-of_z}
use Rattle.fp_absrow.specs.ConvexCells.{width_of, no_cell, cell_at}
use Rattle.fp_rows.specs.RunsLaws.{IsPacking, packing_start, packing_next, packing_most, packing_end}
use Rattle.fp_absrow.specs.Spans.{some_cells}
use Rattle.fp_absrow.proofs.Cells.{some_sized}
use Rattle.fp_absrow.proofs.Cutting.{some_count, some_at}
use Rattle.fp_absrow.proofs.placing.pack.Given as given
use Rattle.fp_absrow.proofs.placing.pack.Goals as goal
use Rattle.fp_absrow.proofs.placing.pack.Goals.{After-width-end}

pub loop-i-init : goal.loop-i-init
loop-i-init g c =
    let fits : FitsSigned w64 c.args.position = search rules in
    simp to_z-of_z (packing_start width_of (some_cells c.args.first c.args.count (g.C.RowCost.cells_of c.args.costs.now)) c.args.position c.args.xs.now c.args.first (some_sized (g.C.RowCost.cells_of c.args.costs.now) c.args.first c.args.count c.cells-convex.ensures.convex) c.requires.from)

width : (g : given.Over) (c : After-width-end g) → c.width-end.result ≡ (cell_at (some_cells c.args.first c.args.count (g.C.RowCost.cells_of c.args.costs.now)) c.loop-i.i).width
width g c =
    let lt = c.loop-i-test.true in
    let same = some_at (g.C.RowCost.cells_of c.args.costs.now) c.args.first c.args.count c.loop-i.i lt in
    rw same c.width-end.ensures

next : (g : given.Over) (c : After-width-end g) → IsPacking width_of (some_cells c.args.first c.args.count (g.C.RowCost.cells_of c.args.costs.now)) c.args.position c.args.xs.now (set c.loop-i.xs (c.args.first + c.loop-i.i) (to_z w64 c.loop-i.end-bits)) c.args.first (c.loop-i.i + 1) (to_z w64 c.loop-i.end-bits +ℤ c.width-end.result)
next g c =
    let p : FitsSigned w64 c.args.position = search rules in
    let here = simp to_z-of_z at c.loop-i.invariant in
    let lt = c.loop-i-test.true in
    let run = some_cells c.args.first c.args.count (g.C.RowCost.cells_of c.args.costs.now) in
    let count = some_count (g.C.RowCost.cells_of c.args.costs.now) c.args.first c.args.count c.requires.within in
    let within = c.requires.within in
    let xs = c.requires.xs in
    rw (width g c) (packing_next width_of run c.args.position c.args.xs.now c.loop-i.xs c.args.first c.loop-i.i (to_z w64 c.loop-i.end-bits) no_cell (omega arith) (omega arith) here)

fits : (g : given.Over) (c : After-width-end g) → FitsSigned w64 (to_z w64 c.loop-i.end-bits +ℤ c.width-end.result)
fits g c =
    let n = next g c in
    let most = packing_most width_of (some_cells c.args.first c.args.count (g.C.RowCost.cells_of c.args.costs.now)) c.args.position c.args.xs.now _ c.args.first _ _ n in
    omega (arith, ints, n.low, c.requires.to)

pub overflow_add-end-in-loop-i : goal.overflow_add-end-in-loop-i
overflow_add-end-in-loop-i g c =
    let d = (goal.at.overflow_add-end-in-loop-i g c).After-width-end in
    let w : FitsSigned w64 c.width-end.result = search rules in
    simp to_z-of_z (fits g d)

pub loop-i-preserved : goal.loop-i-preserved
loop-i-preserved g c =
    let d = (goal.at.loop-i-preserved g c).After-width-end in
    let w : FitsSigned w64 c.width-end.result = search rules in
    let p : FitsSigned w64 c.args.position = search rules in
    let f = fits g d in
    simp to_z-of_z (next g d)

pub returns-clause-end : goal.returns-clause-end
returns-clause-end g c =
    let p : FitsSigned w64 c.args.position = search rules in
    let here = simp to_z-of_z at c.loop-i.invariant in
    let count = some_count (g.C.RowCost.cells_of c.args.costs.now) c.args.first c.args.count c.requires.within in
    (packing_end width_of (some_cells c.args.first c.args.count (g.C.RowCost.cells_of c.args.costs.now)) c.args.position c.args.xs.now c.loop-i.xs c.args.first c.loop-i.i (to_z w64 c.loop-i.end-bits) (omega arith) (omega arith) here).0

pub returns-clause-placed : goal.returns-clause-placed
returns-clause-placed g c =
    let p : FitsSigned w64 c.args.position = search rules in
    let here = simp to_z-of_z at c.loop-i.invariant in
    let count = some_count (g.C.RowCost.cells_of c.args.costs.now) c.args.first c.args.count c.requires.within in
    let end = (packing_end width_of (some_cells c.args.first c.args.count (g.C.RowCost.cells_of c.args.costs.now)) c.args.position c.args.xs.now c.loop-i.xs c.args.first c.loop-i.i (to_z w64 c.loop-i.end-bits) (omega arith) (omega arith) here).1 in
    rw count at end
