use Rattle.std.proofs.Common.{◌≡◌, ◌+◌, ◌<◌, ◌^◌, pos, neg_ℤ, ◌+ℤ◌, ◌≤ℤ◌, FitsSigned, w64, to_z, length, arith, rules}
use Rattle.std.proofs.lemmas.Int.{ints, to_z-of_z}
use Rattle.fp_absrow.specs.ConvexCells.{cell_at}
use Rattle.fp_absrow.specs.ConvexCells.{IsTold}
use Rattle.fp_absrow.specs.Spans.{some_cells}
use Rattle.fp_absrow.proofs.Cells.{cell_of, rise_range, some_sized}
use Rattle.fp_absrow.proofs.Cutting.{IsCutting, cutting_start, cutting_range, cutting_stays, cutting_moves, cutting_end, some_count, some_at}
use Rattle.fp_absrow.proofs.placing.cut_at.Given as given
use Rattle.fp_absrow.proofs.placing.cut_at.Goals as goal
use Rattle.fp_absrow.proofs.placing.cut_at.Goals.{In-loop-i, After-rise-excess, then-excess-ge0, else-excess-ge0}
use mir.Syntax.{w128}

pub loop-i-init : goal.loop-i-init
loop-i-init g c =
    let fits : FitsSigned w64 c.args.position = search rules in
    simp to_z-of_z (cutting_start (some_cells c.args.first c.args.count (g.C.RowCost.cells_of c.args.costs.now)) c.args.position)

-- where the walk is
here : (g : given.Over) (c : In-loop-i g) → IsCutting (some_cells c.args.first c.args.count (g.C.RowCost.cells_of c.args.costs.now)) c.args.position c.loop-i.i c.loop-i.cut (to_z w128 c.loop-i.excess-bits) (to_z w64 c.loop-i.at-bits)
here g c =
    let fits : FitsSigned w64 c.args.position = search rules in
    simp to_z-of_z at c.loop-i.invariant

told : (g : given.Over) (c : In-loop-i g) → (pos 0 ≤ℤ to_z w64 c.loop-i.at-bits) × (to_z w64 c.loop-i.at-bits ≤ℤ pos (2 ^ 31))
told g c =
    let range = cutting_range (some_cells c.args.first c.args.count (g.C.RowCost.cells_of c.args.costs.now)) c.args.position c.loop-i.i c.loop-i.cut (to_z w128 c.loop-i.excess-bits) (to_z w64 c.loop-i.at-bits) (some_sized (g.C.RowCost.cells_of c.args.costs.now) c.args.first c.args.count c.cells-convex.ensures.convex) (here g c) in
    (omega (arith, ints, range.0, c.requires.from), omega (arith, ints, range.1, c.requires.to))

pub rise-excess-requires-clause-told : goal.rise-excess-requires-clause-told
rise-excess-requires-clause-told g c =
    let t = told g (goal.at.rise-excess-requires-clause-told g c).In-loop-i in
    (omega (arith, ints, t.0), omega (arith, ints, t.1))

steep : (g : given.Over) (c : After-rise-excess g) → (neg_ℤ (pos (2 ^ 57)) ≤ℤ c.rise-excess.result) × (c.rise-excess.result ≤ℤ pos (2 ^ 57))
steep g c =
    let t = told g (goal.at.overflow_add-excess g c).In-loop-i in
    let near : IsTold (to_z w64 c.loop-i.at-bits) = (omega (arith, ints, t.0), omega (arith, ints, t.1)) in
    let lt = c.loop-i-test.true in
    let within = c.requires.within in
    rw c.rise-excess.ensures (rise_range (g.C.RowCost.cells_of c.args.costs.now) (c.args.first + c.loop-i.i) (to_z w64 c.loop-i.at-bits) c.cells-convex.ensures.convex (omega arith) near)

fits : (g : given.Over) (c : After-rise-excess g) → FitsSigned w128 (to_z w128 c.loop-i.excess-bits +ℤ c.rise-excess.result)
fits g c =
    let h = here g (goal.at.overflow_add-excess g c).In-loop-i in
    let s = steep g c in
    let low = h.low in
    let high = h.high in
    let lt = c.loop-i-test.true in
    let few = c.ranges.count.fits in
    omega (arith, ints, s.0, s.1)

pub overflow_add-excess : goal.overflow_add-excess
overflow_add-excess g c =
    let a : FitsSigned w128 c.rise-excess.result = search rules in
    simp to_z-of_z (fits g c)

pub overflow_add-at : goal.overflow_add-at
overflow_add-at g c =
    let t = told g (goal.at.overflow_add-at g c).In-loop-i in
    let lt = c.loop-i-test.true in
    let within = c.requires.within in
    let cell = cell_of (g.C.RowCost.cells_of c.args.costs.now) (c.args.first + c.loop-i.i) c.cells-convex.ensures.convex (omega arith) in
    let width = c.width-at.ensures in
    let w : FitsSigned w64 c.width-at.result = omega (arith, ints, cell.width_from, cell.width_to) in
    simp to_z-of_z (omega (arith, ints, t.0, t.1, cell.width_from, cell.width_to))

pub loop-i-preserved : goal.loop-i-preserved
loop-i-preserved g c =
    let d = (goal.at.loop-i-preserved g c).In-loop-i in
    let k = (goal.at.loop-i-preserved g c).After-rise-excess in
    let cells = g.C.RowCost.cells_of c.args.costs.now in
    let run = some_cells c.args.first c.args.count cells in
    let i = c.loop-i.i in
    let at = to_z w64 c.loop-i.at-bits in
    let excess = to_z w128 c.loop-i.excess-bits in
    let within = c.requires.within in
    let inside = c.loop-i-test.true in
    let count = some_count cells c.args.first c.args.count within in
    let lt : i < length run = omega arith in
    let same = some_at cells c.args.first c.args.count i inside in
    let rise : c.rise-excess.result ≡ (cell_at run i).rise at = rw same c.rise-excess.ensures in
    let width : c.width-at.result ≡ (cell_at run i).width = rw same c.width-at.ensures in
    let h = here g d in
    let t = told g d in
    let s = steep g k in
    let cell = cell_of cells (c.args.first + i) c.cells-convex.ensures.convex (omega arith) in
    let whole = c.width-at.ensures in
    let a : FitsSigned w128 c.rise-excess.result = search rules in
    let b : FitsSigned w64 c.width-at.result = search rules in
    let f : FitsSigned w128 (excess +ℤ c.rise-excess.result) = fits g k in
    let e : FitsSigned w64 (at +ℤ c.width-at.result) = omega (arith, ints, t.0, t.1, cell.width_from, cell.width_to) in
    let p : FitsSigned w64 c.args.position = search rules in
    elim c.if-excess-ge0.branch [
      | then-excess-ge0 w ↦ rw (w.cut-is, w.excess-is) (simp to_z-of_z (rw width (cutting_moves run c.args.position i c.loop-i.cut excess at lt h (let test = w.if-excess-ge0.true in omega (arith, ints)))))
      | else-excess-ge0 w ↦ rw (w.cut-is, w.excess-is) (simp to_z-of_z (rw (width, rise) (cutting_stays run c.args.position i c.loop-i.cut excess at lt h (omega (arith, ints, s.0)) (let test = w.if-excess-ge0.false in omega (arith, ints)))))
    ]

pub returns : goal.returns
returns g c =
    let fits : FitsSigned w64 c.args.position = search rules in
    let here = simp to_z-of_z at c.loop-i.invariant in
    let count = some_count (g.C.RowCost.cells_of c.args.costs.now) c.args.first c.args.count c.requires.within in
    cutting_end (some_cells c.args.first c.args.count (g.C.RowCost.cells_of c.args.costs.now)) c.args.position c.loop-i.i c.loop-i.cut _ _ (omega arith) (omega arith) here
