use Rattle.std.proofs.Common.{◌≡◌, ◌+◌, ◌-◌, ◌<◌, ◌∙◌, ap, pos, ◌+ℤ◌, ◌-ℤ◌, FitsSigned, w64, length, get_or, arith, rules}
use Rattle.std.proofs.lemmas.Int.{ints, to_z-of_z}
use Rattle.fp_rows.specs.LeastDuals.{above}
use Rattle.fp_rows.specs.Squares.{IsPlace}
use Rattle.fp_rows.specs.NeedsLaws.{IsOneNeeded, one_needed}
use Rattle.fp_absrow.specs.ConvexCells.{rise_of, most_of, no_cell, cell_at, IsTold}
use Rattle.fp_absrow.proofs.Cells.{rise_range, small_rises}
use Rattle.fp_absrow.proofs.duals.set_needs.Given as given
use Rattle.fp_absrow.proofs.duals.set_needs.Goals as goal
use Rattle.fp_absrow.proofs.duals.set_needs.Goals.{After-rise}
use mir.Syntax.{w128}

within : (g : given.Over) (c : After-rise g) → c.loop-cell.cell - 1 < length (g.C.RowCost.cells_of c.args.costs.now)
within g c =
    let count = c.cells-last.ensures.count in
    omega arith

place : (g : given.Over) (c : After-rise g) → IsPlace (get_or c.args.xs.now (c.loop-cell.cell - 1) (pos 0))
place g c =
    let lt = within g c in
    let count = c.requires.count in
    c.requires.places (c.loop-cell.cell - 1) (pos 0) (omega arith)

one : (g : given.Over) (c : After-rise g) → IsOneNeeded rise_of (g.C.RowCost.cells_of c.args.costs.now) c.args.xs.now c.loop-cell.duals c.loop-cell.cell (cell_at (g.C.RowCost.cells_of c.args.costs.now) (c.loop-cell.cell - 1)) (get_or c.args.xs.now (c.loop-cell.cell - 1) (pos 0)) (get_or c.loop-cell.duals ((c.loop-cell.cell - 1) + 1) 0)
one g c =
    let lt = within g c in
    one_needed rise_of most_of (g.C.RowCost.cells_of c.args.costs.now) c.args.xs.now c.loop-cell.duals c.loop-cell.cell no_cell (pos 0) (small_rises (g.C.RowCost.cells_of c.args.costs.now) c.args.xs.now c.cells-last.ensures.convex c.requires.count c.requires.places) c.loop-cell-test.true (omega arith) c.loop-cell.invariant

rise : (g : given.Over) (c : After-rise g) → c.rise.result ≡ (cell_at (g.C.RowCost.cells_of c.args.costs.now) (c.loop-cell.cell - 1)).rise (get_or c.args.xs.now (c.loop-cell.cell - 1) (pos 0) -ℤ pos 1)
rise g c =
    let p = place g c in
    let a : FitsSigned w64 (get_or c.args.xs.now (c.loop-cell.cell - 1) (pos 0)) = omega (arith, ints, p.0, p.1) in
    let b : FitsSigned w64 (get_or c.args.xs.now (c.loop-cell.cell - 1) (pos 0) -ℤ pos 1) = omega (arith, ints, p.0, p.1) in
    simp to_z-of_z at c.rise.ensures

sum : (g : given.Over) (c : After-rise g) → FitsSigned w128 (c.from.result +ℤ c.rise.result)
sum g c =
    let p = place g c in
    let r = rise g c in
    let told : IsTold (get_or c.args.xs.now (c.loop-cell.cell - 1) (pos 0) -ℤ pos 1) = (omega (arith, ints, p.0), omega (arith, ints, p.1)) in
    let range = rise_range (g.C.RowCost.cells_of c.args.costs.now) (c.loop-cell.cell - 1) (get_or c.args.xs.now (c.loop-cell.cell - 1) (pos 0) -ℤ pos 1) c.cells-last.ensures.convex (within g c) told in
    let from = c.from.ensures in
    let small = c.type_inv.duals ((c.loop-cell.cell - 1) + 1) in
    omega (arith, ints, range.0, range.1)

pub overflow_add-from : goal.overflow_add-from
overflow_add-from g c =
    let a : FitsSigned w128 c.from.result = search rules in
    let b : FitsSigned w128 c.rise.result = search rules in
    simp to_z-of_z (sum g (goal.at.overflow_add-from g c).After-rise)

value : (g : given.Over) (c : After-rise g) → c.from.result +ℤ c.rise.result ≡ pos (get_or c.loop-cell.duals ((c.loop-cell.cell - 1) + 1) 0) +ℤ (cell_at (g.C.RowCost.cells_of c.args.costs.now) (c.loop-cell.cell - 1)).rise (get_or c.args.xs.now (c.loop-cell.cell - 1) (pos 0) -ℤ pos 1)
value g c =
    let r = rise g c in
    let from = c.from.ensures in
    cc

pub above-requires : goal.above-requires
above-requires g c =
    let d = (goal.at.above-requires g c).After-rise in
    let a : FitsSigned w128 c.from.result = search rules in
    let b : FitsSigned w128 c.rise.result = search rules in
    let e = sum g d in
    simp to_z-of_z (rw (value g d) (one g d).small)

pub loop-cell-preserved : goal.loop-cell-preserved
loop-cell-preserved g c =
    let d = (goal.at.loop-cell-preserved g c).After-rise in
    let a : FitsSigned w128 c.from.result = search rules in
    let b : FitsSigned w128 c.rise.result = search rules in
    let e = sum g d in
    let told = simp to_z-of_z at c.above.ensures in
    rw (told ∙ ap above (value g d)) (one g d).next
