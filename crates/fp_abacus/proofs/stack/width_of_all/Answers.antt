use Rattle.std.proofs.Common.{pos, ◌+ℤ◌, FitsSigned, w64, to_z, get_or, arith}
use Rattle.std.proofs.lemmas.Int.{ints, to_z-of_z}
use Rattle.std.proofs.lemmas.List.Elements.{recursion_from_All}
use Rattle.fp_rows.specs.declared.RowCell.{RowCell}
use Rattle.fp_rows.specs.Squares.{IsCell, width_of}
use Rattle.fp_rows.specs.SquaresLaws.{squares_sized}
use Rattle.fp_rows.specs.RunsLaws.{wide_start, wide_next, wide_most}
use Rattle.fp_abacus.proofs.stack.width_of_all.Goals as goal

abbrev none : RowCell
none = record { width = pos 0; target = pos 0; weight = pos 0 }

pub loop-cell-init : goal.loop-cell-init
loop-cell-init c = wide_start width_of c.args.cells.now (squares_sized c.args.cells.now (recursion_from_All IsCell c.args.cells.now c.requires.cells.each))

pub overflow_add-width : goal.overflow_add-width
overflow_add-width c =
    let cell = c.requires.cells.each c.loop-cell.cell-index none c.loop-cell-test.true in
    let next = wide_next width_of c.args.cells.now c.loop-cell.cell-index _ none c.loop-cell-test.true c.loop-cell.invariant in
    let low = next.low in
    let high = wide_most width_of c.args.cells.now _ _ next in
    let a : FitsSigned w64 (get_or c.args.cells.now c.loop-cell.cell-index none).width = omega (arith, ints, cell.width_from, cell.width_to) in
    simp to_z-of_z (omega (arith, ints))

pub loop-cell-preserved : goal.loop-cell-preserved
loop-cell-preserved c =
    let cell = c.requires.cells.each c.loop-cell.cell-index none c.loop-cell-test.true in
    let next = wide_next width_of c.args.cells.now c.loop-cell.cell-index _ none c.loop-cell-test.true c.loop-cell.invariant in
    let low = next.low in
    let high = wide_most width_of c.args.cells.now _ _ next in
    let a : FitsSigned w64 (get_or c.args.cells.now c.loop-cell.cell-index none).width = omega (arith, ints, cell.width_from, cell.width_to) in
    let b : FitsSigned w64 (to_z w64 c.loop-cell.width-bits +ℤ (get_or c.args.cells.now c.loop-cell.cell-index none).width) = omega (arith, ints) in
    simp to_z-of_z next
