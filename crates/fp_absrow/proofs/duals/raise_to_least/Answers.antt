use Rattle.std.proofs.Common.{◌≡◌, ◌<◌, ◌∙◌, ap, pos, ◌-ℤ◌, FitsSigned, w64, length, get_or, arith, rules}
use Rattle.std.proofs.lemmas.Int.{ints, to_z-of_z}
use Rattle.fp_rows.specs.LeastDuals.{above}
use Rattle.fp_rows.specs.Squares.{IsPlace}
use Rattle.fp_rows.specs.NeedsLaws.{IsOneRaised, raising_start, one_raised, raising_end}
use Rattle.fp_absrow.specs.ConvexCells.{rise_of, most_of, no_cell, cell_at, IsTold}
use Rattle.fp_absrow.proofs.Cells.{rise_range, small_rises}
use Rattle.fp_absrow.proofs.duals.raise_to_least.Given as given
use Rattle.fp_absrow.proofs.duals.raise_to_least.Goals as goal
use Rattle.fp_absrow.proofs.duals.raise_to_least.Goals.{After-rise}
use mir.Syntax.{w128}

pub loop-cell-init : goal.loop-cell-init
loop-cell-init g c = raising_start rise_of most_of (g.C.RowCost.cells_of c.args.costs.now) c.args.xs.now c.args.duals.now (small_rises (g.C.RowCost.cells_of c.args.costs.now) c.args.xs.now c.cells-last.ensures.convex c.requires.count c.requires.places) c.requires.duals c.requires.needs

within : (g : given.Over) (c : After-rise g) → c.loop-cell.cell < length (g.C.RowCost.cells_of c.args.costs.now)
within g c =
    let count = c.cells-last.ensures.count in
    omega arith

place : (g : given.Over) (c : After-rise g) → IsPlace (get_or c.args.xs.now c.loop-cell.cell (pos 0))
place g c =
    let lt = within g c in
    let count = c.requires.count in
    c.requires.places c.loop-cell.cell (pos 0) (omega arith)

one : (g : given.Over) (c : After-rise g) → IsOneRaised rise_of most_of (g.C.RowCost.cells_of c.args.costs.now) c.args.xs.now c.loop-cell.duals c.loop-cell.cell c.loop-cell.spare (cell_at (g.C.RowCost.cells_of c.args.costs.now) c.loop-cell.cell) (get_or c.args.xs.now c.loop-cell.cell (pos 0))
one g c = one_raised rise_of most_of (g.C.RowCost.cells_of c.args.costs.now) c.args.xs.now c.loop-cell.duals c.loop-cell.cell c.loop-cell.spare no_cell (pos 0) (small_rises (g.C.RowCost.cells_of c.args.costs.now) c.args.xs.now c.cells-last.ensures.convex c.requires.count c.requires.places) (within g c) c.loop-cell.invariant

rise : (g : given.Over) (c : After-rise g) → c.rise.result ≡ (cell_at (g.C.RowCost.cells_of c.args.costs.now) c.loop-cell.cell).rise (get_or c.args.xs.now c.loop-cell.cell (pos 0))
rise g c =
    let p = place g c in
    let a : FitsSigned w64 (get_or c.args.xs.now c.loop-cell.cell (pos 0)) = omega (arith, ints, p.0, p.1) in
    simp to_z-of_z at c.rise.ensures

sum : (g : given.Over) (c : After-rise g) → FitsSigned w128 (c.from.result -ℤ c.rise.result)
sum g c =
    let p = place g c in
    let r = rise g c in
    let told : IsTold (get_or c.args.xs.now c.loop-cell.cell (pos 0)) = (omega (arith, ints, p.0), omega (arith, ints, p.1)) in
    let range = rise_range (g.C.RowCost.cells_of c.args.costs.now) c.loop-cell.cell (get_or c.args.xs.now c.loop-cell.cell (pos 0)) c.cells-last.ensures.convex (within g c) told in
    let from = c.from.ensures in
    let bound = c.loop-cell.invariant.bound in
    omega (arith, ints, range.0, range.1)

pub overflow_sub-from : goal.overflow_sub-from
overflow_sub-from g c =
    let a : FitsSigned w128 c.from.result = search rules in
    let b : FitsSigned w128 c.rise.result = search rules in
    simp to_z-of_z (sum g (goal.at.overflow_sub-from g c).After-rise)

value : (g : given.Over) (c : After-rise g) → c.from.result -ℤ c.rise.result ≡ pos c.loop-cell.spare -ℤ (cell_at (g.C.RowCost.cells_of c.args.costs.now) c.loop-cell.cell).rise (get_or c.args.xs.now c.loop-cell.cell (pos 0))
value g c =
    let r = rise g c in
    let from = c.from.ensures in
    cc

pub above-spare-requires : goal.above-spare-requires
above-spare-requires g c =
    let d = (goal.at.above-spare-requires g c).After-rise in
    let a : FitsSigned w128 c.from.result = search rules in
    let b : FitsSigned w128 c.rise.result = search rules in
    let e = sum g d in
    simp to_z-of_z (rw (value g d) (one g d).small)

pub loop-cell-preserved : goal.loop-cell-preserved
loop-cell-preserved g c =
    let d = (goal.at.loop-cell-preserved g c).After-rise in
    let a : FitsSigned w128 c.from.result = search rules in
    let b : FitsSigned w128 c.rise.result = search rules in
    let e = sum g d in
    let told = simp to_z-of_z at c.above-spare.ensures in
    rw (c.max.ensures, told ∙ ap above (value g d)) (one g d).next

pub returns : goal.returns
returns g c =
    let count = c.cells-last.ensures.count in
    let end = raising_end rise_of most_of (g.C.RowCost.cells_of c.args.costs.now) c.args.xs.now c.loop-cell.duals c.loop-cell.cell c.loop-cell.spare (omega arith) (omega arith) c.loop-cell.invariant in
    rw (c.max-2.ensures, count) end
