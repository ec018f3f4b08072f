use Rattle.std.proofs.Common.{◌<◌, pos, ◌+ℤ◌, FitsSigned, w64, length, get_or, arith, rules}
use Rattle.std.proofs.lemmas.Int.{ints, to_z-of_z}
use Rattle.fp_rows.specs.SeenLaws.{IsShownFrom, sight, shown_next, shown_end, shown_are_duals}
use Rattle.fp_absrow.specs.ConvexCells.{width_of, rise_of, no_cell, cell_at}
use Rattle.fp_absrow.proofs.Cells.{cell_of}
use Rattle.fp_absrow.proofs.shown.are_duals.Given as given
use Rattle.fp_absrow.proofs.shown.are_duals.Goals as goal
use Rattle.fp_absrow.proofs.shown.are_duals.Goals.{In-loop-cell}

inv : (g : given.Over) (c : In-loop-cell g) → IsShownFrom width_of rise_of (g.C.RowCost.cells_of c.args.costs.now) c.args.lo c.args.hi c.args.xs.now c.args.duals.now c.loop-cell.cell c.loop-cell.from
inv g c =
    let d : FitsSigned w64 c.args.lo = search rules in
    let e : FitsSigned w64 c.args.hi = search rules in
    rw c.loop-cell.from-is at (simp to_z-of_z at c.loop-cell.invariant)

pub returns-then-not-is_touching : goal.returns-then-not-is_touching
returns-then-not-is_touching g c =
    let cells = g.C.RowCost.cells_of c.args.costs.now in
    let count = c.cells-last.ensures.count in
    let place : FitsSigned w64 (get_or c.args.xs.now c.loop-cell.cell (pos 0)) = search rules in
    let told = rw c.loop-cell.from-is at (simp to_z-of_z at c.is_touching.ensures.1) in
    let some : 0 < length cells = omega arith in
    let here = inv g (goal.at.returns-then-not-is_touching g c).In-loop-cell in
    (λ h. cc, λ all. let touching = told ((sight width_of rise_of cells c.args.lo c.args.hi c.args.xs.now c.args.duals.now c.loop-cell.cell c.loop-cell.from no_cell (omega arith) c.requires.count c.requires.duals here).touching ((shown_are_duals width_of rise_of cells c.args.lo c.args.hi c.args.xs.now c.args.duals.now some).1 all)) in cc)

pub returns-then-not-is_falling : goal.returns-then-not-is_falling
returns-then-not-is_falling g c =
    let cells = g.C.RowCost.cells_of c.args.costs.now in
    let count = c.cells-last.ensures.count in
    let place : FitsSigned w64 (get_or c.args.xs.now c.loop-cell.cell (pos 0)) = search rules in
    let told = simp to_z-of_z at c.is_falling.ensures.1 in
    let some : 0 < length cells = omega arith in
    let here = inv g (goal.at.returns-then-not-is_falling g c).In-loop-cell in
    (λ h. cc, λ all. let falling = told ((sight width_of rise_of cells c.args.lo c.args.hi c.args.xs.now c.args.duals.now c.loop-cell.cell c.loop-cell.from no_cell (omega arith) c.requires.count c.requires.duals here).falling ((shown_are_duals width_of rise_of cells c.args.lo c.args.hi c.args.xs.now c.args.duals.now some).1 all)) in cc)

pub overflow_add-from : goal.overflow_add-from
overflow_add-from g c =
    let cells = g.C.RowCost.cells_of c.args.costs.now in
    let count = c.cells-last.ensures.count in
    let same = c.requires.count in
    let place = c.requires.places c.loop-cell.cell (pos 0) (omega arith) in
    let cell = cell_of cells c.loop-cell.cell c.cells-last.ensures.convex (omega arith) in
    let width = c.width.ensures in
    let x : FitsSigned w64 (get_or c.args.xs.now c.loop-cell.cell (pos 0)) = omega (arith, ints, place.0, place.1) in
    let w : FitsSigned w64 c.width.result = omega (arith, ints, cell.width_from, cell.width_to) in
    simp to_z-of_z (omega (arith, ints, place.0, place.1, cell.width_from, cell.width_to))

pub loop-cell-preserved : goal.loop-cell-preserved
loop-cell-preserved g c =
    let cells = g.C.RowCost.cells_of c.args.costs.now in
    let count = c.cells-last.ensures.count in
    let same = c.requires.count in
    let place = c.requires.places c.loop-cell.cell (pos 0) (omega arith) in
    let cell = cell_of cells c.loop-cell.cell c.cells-last.ensures.convex (omega arith) in
    let width = c.width.ensures in
    let x : FitsSigned w64 (get_or c.args.xs.now c.loop-cell.cell (pos 0)) = omega (arith, ints, place.0, place.1) in
    let w : FitsSigned w64 (cell_at cells c.loop-cell.cell).width = omega (arith, ints, cell.width_from, cell.width_to) in
    let f : FitsSigned w64 (get_or c.args.xs.now c.loop-cell.cell (pos 0) +ℤ (cell_at cells c.loop-cell.cell).width) = omega (arith, ints, place.0, place.1, cell.width_from, cell.width_to) in
    let d : FitsSigned w64 c.args.lo = search rules in
    let e : FitsSigned w64 c.args.hi = search rules in
    let touching = rw c.loop-cell.from-is at (simp to_z-of_z at c.is_touching.ensures.0) in
    let falling = simp to_z-of_z at c.is_falling.ensures.0 in
    let here = inv g (goal.at.loop-cell-preserved g c).In-loop-cell in
    rw width (simp to_z-of_z (shown_next width_of rise_of cells c.args.lo c.args.hi c.args.xs.now c.args.duals.now c.loop-cell.cell c.loop-cell.from no_cell (omega arith) c.requires.count c.requires.duals here (touching c.if-not-is_touching.false) (falling c.if-not-is_falling.false)))

pub returns : goal.returns
returns g c =
    let cells = g.C.RowCost.cells_of c.args.costs.now in
    let count = c.cells-last.ensures.count in
    let e : FitsSigned w64 c.args.hi = search rules in
    let told = rw c.loop-cell.from-is at (simp to_z-of_z at c.is_touching-2.ensures) in
    let d : FitsSigned w64 c.args.lo = search rules in
    let some : 0 < length cells = grind arith in
    let here = rw c.loop-cell.from-is at (simp to_z-of_z at c.loop-cell.invariant) in
    let same = shown_are_duals width_of rise_of cells c.args.lo c.args.hi c.args.xs.now c.args.duals.now some in
    let last = shown_end width_of rise_of cells c.args.lo c.args.hi c.args.xs.now c.args.duals.now c.loop-cell.cell c.loop-cell.from (omega arith) (omega arith) c.requires.count c.requires.duals here in
    let on = rw count at told in
    (λ h. same.0 (last.0 (on.0 h)), λ all. on.1 (last.1 (same.1 all)))
