use Rattle.std.proofs.Common.{◌<◌, ◌-◌, pos, ◌-ℤ◌, FitsSigned, w64, to_z, get_or, arith}
use Rattle.std.proofs.lemmas.Int.{ints, to_z-of_z}
use Rattle.std.proofs.lemmas.List.Elements.{recursion_from_All}
use Rattle.fp_rows.specs.declared.RowCell.{RowCell}
use Rattle.fp_rows.specs.Squares.{IsCell}
use Rattle.fp_abacus.proofs.Adding.{IsReady, ready_below}
use Rattle.fp_abacus.proofs.stack.clusters_of.Goals as goal
use Rattle.fp_abacus.proofs.stack.clusters_of.Goals.{In-loop-i}

abbrev no_cell : RowCell
no_cell = record { width = pos 0; target = pos 0; weight = pos 0 }

next : (c : In-loop-i) → 0 < c.loop-i.i → IsReady c.args.cells.now c.loop-i.work (c.loop-i.i - 1) (to_z w64 c.loop-i.before-bits -ℤ (get_or c.args.cells.now (c.loop-i.i - 1) no_cell).width) c.loop-i.first
next c some = ready_below c.args.cells.now c.loop-i.work c.loop-i.i (to_z w64 c.loop-i.before-bits) c.loop-i.first no_cell (recursion_from_All IsCell c.args.cells.now c.requires.cells.each) some (omega arith) c.loop-i.invariant

width : (c : In-loop-i) → 0 < c.loop-i.i → FitsSigned w64 (get_or c.args.cells.now (c.loop-i.i - 1) no_cell).width
width c some =
    let cell = c.requires.cells.each (c.loop-i.i - 1) no_cell (omega arith) in
    omega (arith, ints, cell.width_from, cell.width_to)

fits : (c : In-loop-i) → 0 < c.loop-i.i → FitsSigned w64 (to_z w64 c.loop-i.before-bits -ℤ (get_or c.args.cells.now (c.loop-i.i - 1) no_cell).width)
fits c some =
    let r = next c some in
    omega (arith, ints, r.from, r.to)

pub overflow_sub-before : goal.overflow_sub-before
overflow_sub-before c =
    let d = (goal.at.overflow_sub-before c).In-loop-i in
    let w = width d c.loop-i-test.true in
    simp to_z-of_z (fits d c.loop-i-test.true)

pub add_cell-first-requires-clause-from : goal.add_cell-first-requires-clause-from
add_cell-first-requires-clause-from c =
    let d = (goal.at.add_cell-first-requires-clause-from c).In-loop-i in
    let w = width d c.loop-i-test.true in
    let f = fits d c.loop-i-test.true in
    simp to_z-of_z (next d c.loop-i-test.true).from

pub add_cell-first-requires-clause-to : goal.add_cell-first-requires-clause-to
add_cell-first-requires-clause-to c =
    let d = (goal.at.add_cell-first-requires-clause-to c).In-loop-i in
    let w = width d c.loop-i-test.true in
    let f = fits d c.loop-i-test.true in
    let r = next d c.loop-i-test.true in
    simp to_z-of_z (omega (arith, ints, r.to))

pub add_cell-first-requires-clause-clusters : goal.add_cell-first-requires-clause-clusters
add_cell-first-requires-clause-clusters c =
    let d = (goal.at.add_cell-first-requires-clause-clusters c).In-loop-i in
    let w = width d c.loop-i-test.true in
    let f = fits d c.loop-i-test.true in
    simp to_z-of_z (next d c.loop-i-test.true).behind

pub loop-i-preserved : goal.loop-i-preserved
loop-i-preserved c =
    let d = (goal.at.loop-i-preserved c).In-loop-i in
    let w = width d c.loop-i-test.true in
    let f = fits d c.loop-i-test.true in
    let made = simp to_z-of_z at c.add_cell-first.ensures.clusters in
    simp to_z-of_z (record {
      sizes = omega arith;
      low = c.add_cell-first.ensures.at_least;
      high = c.add_cell-first.ensures.at_most;
      wide = (next d c.loop-i-test.true).wide;
      clusters = made;
    })
