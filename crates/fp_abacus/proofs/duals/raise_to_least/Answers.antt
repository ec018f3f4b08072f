use Rattle.std.proofs.Common.{◌≡◌, ◌∙◌, ap, pos, ◌+ℤ◌, ◌-ℤ◌, FitsSigned, w64, get_or, arith, rules}
use Rattle.std.proofs.lemmas.Int.{ints, to_z-of_z}
use Rattle.std.specs.Int.{saturate_unsigned}
use Rattle.fp_rows.specs.declared.RowCell.{RowCell}
use Rattle.fp_rows.specs.Squares.{squared_rise}
use Rattle.fp_rows.specs.Weights.{weight_at}
use Rattle.fp_rows.specs.NeedsLaws.{raising_start, one_raised, raising_end, saturated}
use Rattle.fp_abacus.proofs.Rises.{rise_range, most_of, small_rises}
use Rattle.fp_abacus.proofs.duals.raise_to_least.Goals as goal
use Rattle.fp_abacus.proofs.duals.raise_to_least.Goals.{After-rise_at}

abbrev no_cell : RowCell
no_cell = record { width = pos 0; target = pos 0; weight = pos 0 }

pub loop-i-init : goal.loop-i-init
loop-i-init c = raising_start squared_rise most_of c.args.cells.now c.args.xs.now c.args.duals.now (small_rises c.args.cells.now c.args.xs.now c.requires.cells c.requires.places) c.requires.duals c.requires.needs

pub rise_at-requires-clause-weight : goal.rise_at-requires-clause-weight
rise_at-requires-clause-weight c = weight_at c.args.cells.now c.loop-i.i no_cell c.requires.cells c.loop-i-test.true

rise : (c : After-rise_at) → c.rise_at.result ≡ squared_rise (get_or c.args.cells.now c.loop-i.i no_cell) (get_or c.args.xs.now c.loop-i.i (pos 0))
rise c =
    let spot = c.requires.places.range c.loop-i.i (pos 0) (omega (arith, c.requires.places.count)) in
    let a : FitsSigned w64 (get_or c.args.xs.now c.loop-i.i (pos 0)) = omega (arith, ints, spot.0, spot.1) in
    simp to_z-of_z at c.rise_at.ensures

fits : (c : After-rise_at) → FitsSigned w64 (pos 0 -ℤ c.rise_at.result)
fits c =
    let cell = c.requires.cells.each c.loop-i.i no_cell c.loop-i-test.true in
    let spot = c.requires.places.range c.loop-i.i (pos 0) (omega (arith, c.requires.places.count)) in
    let range = rise_range (get_or c.args.cells.now c.loop-i.i no_cell) (get_or c.args.xs.now c.loop-i.i (pos 0)) cell (omega (arith, ints, spot.0)) spot.1 in
    let light = weight_at c.args.cells.now c.loop-i.i no_cell c.requires.cells c.loop-i-test.true in
    let e = rise c in
    omega (arith, ints, range.0, range.1)

pub overflow_sub-rise_at : goal.overflow_sub-rise_at
overflow_sub-rise_at c =
    let a : FitsSigned w64 c.rise_at.result = search rules in
    simp to_z-of_z (fits (goal.at.overflow_sub-rise_at c).After-rise_at)

pub loop-i-preserved : goal.loop-i-preserved
loop-i-preserved c =
    let d = (goal.at.loop-i-preserved c).After-rise_at in
    let here = get_or c.args.cells.now c.loop-i.i no_cell in
    let x = get_or c.args.xs.now c.loop-i.i (pos 0) in
    let one = one_raised squared_rise most_of c.args.cells.now c.args.xs.now c.loop-i.duals c.loop-i.i c.loop-i.spare no_cell (pos 0) (small_rises c.args.cells.now c.args.xs.now c.requires.cells c.requires.places) c.loop-i-test.true c.loop-i.invariant in
    let a : FitsSigned w64 c.rise_at.result = search rules in
    let b = fits d in
    let sum = rw (rise d) at (simp to_z-of_z at c.saturating_add_signed-spare.ensures) in
    let turn : pos c.loop-i.spare +ℤ (pos 0 -ℤ squared_rise here x) ≡ pos c.loop-i.spare -ℤ squared_rise here x = omega (arith, ints) in
    let value = sum ∙ ap (saturate_unsigned w64) turn ∙ saturated (pos c.loop-i.spare -ℤ squared_rise here x) one.small in
    rw (c.max.ensures, value) one.next

pub returns : goal.returns
returns c = rw c.max-2.ensures (raising_end squared_rise most_of c.args.cells.now c.args.xs.now c.loop-i.duals c.loop-i.i c.loop-i.spare (omega arith) (omega arith) c.loop-i.invariant)
