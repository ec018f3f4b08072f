use Rattle.std.proofs.Common.{◌+◌, ◌-◌, ◌∙◌, pos, ◌+ℤ◌, ◌-ℤ◌, FitsSigned, w64, get_or, arith, rules}
use Rattle.std.proofs.lemmas.Int.{ints, to_z-of_z}
use Rattle.fp_rows.specs.declared.RowCell.{RowCell}
use Rattle.fp_rows.specs.Squares.{squared_rise}
use Rattle.fp_rows.specs.Weights.{weight_at}
use Rattle.fp_rows.specs.NeedsLaws.{one_needed, saturated}
use Rattle.fp_abacus.proofs.Rises.{most_of, small_rises}
use Rattle.fp_abacus.proofs.duals.set_needs.Goals as goal

abbrev no_cell : RowCell
no_cell = record { width = pos 0; target = pos 0; weight = pos 0 }

pub rise_at-requires-clause-weight : goal.rise_at-requires-clause-weight
rise_at-requires-clause-weight c = weight_at c.args.cells.now (c.loop-i.i - 1) no_cell c.requires.cells (omega arith)

pub loop-i-preserved : goal.loop-i-preserved
loop-i-preserved c =
    let i = c.loop-i.i - 1 in
    let one = one_needed squared_rise most_of c.args.cells.now c.args.xs.now c.loop-i.duals c.loop-i.i no_cell (pos 0) (small_rises c.args.cells.now c.args.xs.now c.requires.cells c.requires.places) c.loop-i-test.true (omega arith) c.loop-i.invariant in
    let spot = c.requires.places.range i (pos 0) (omega arith) in
    let x = get_or c.args.xs.now i (pos 0) in
    let a : FitsSigned w64 x = omega (arith, ints, spot.0, spot.1) in
    let b : FitsSigned w64 (x -ℤ pos 1) = omega (arith, ints, spot.0, spot.1) in
    let d : FitsSigned w64 c.rise_at.result = search rules in
    let rise = simp to_z-of_z at c.rise_at.ensures in
    let sum = rw rise at (simp to_z-of_z at c.saturating_add_signed.ensures) in
    let value = sum ∙ saturated (pos (get_or c.loop-i.duals (i + 1) 0) +ℤ squared_rise (get_or c.args.cells.now i no_cell) (x -ℤ pos 1)) one.small in
    rw value one.next
