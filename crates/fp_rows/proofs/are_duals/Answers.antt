use Rattle.std.proofs.Common.{◌<◌, pos, ◌+ℤ◌, FitsSigned, w64, length, get_or, arith, rules}
use Rattle.std.proofs.lemmas.Int.{ints, to_z-of_z}
use Rattle.fp_rows.specs.declared.RowCell.{RowCell}
use Rattle.fp_rows.specs.Weights.{weight_at}
use Rattle.fp_rows.specs.Squares.{width_of, squared_rise}
use Rattle.fp_rows.specs.SeenLaws.{IsShownFrom, sight, shown_next, shown_end, shown_are_duals}
use Rattle.fp_rows.proofs.are_duals.Goals as goal
use Rattle.fp_rows.proofs.are_duals.Goals.{In-loop-i}

abbrev none : RowCell
none = record { width = pos 0; target = pos 0; weight = pos 0 }

inv : (c : In-loop-i) → IsShownFrom width_of squared_rise c.args.cells.now c.args.lo c.args.hi c.args.xs.now c.args.duals.now c.loop-i.i c.loop-i.from
inv c =
    let d : FitsSigned w64 c.args.lo = search rules in
    let e : FitsSigned w64 c.args.hi = search rules in
    rw c.loop-i.from-is at (simp to_z-of_z at c.loop-i.invariant)

pub returns-then-not-is_touching : goal.returns-then-not-is_touching
returns-then-not-is_touching c =
    let place : FitsSigned w64 (get_or c.args.xs.now c.loop-i.i (pos 0)) = search rules in
    let told = rw c.loop-i.from-is at (simp to_z-of_z at c.is_touching.ensures.1) in
    let some : 0 < length c.args.cells.now = omega arith in
    let here = inv (goal.at.returns-then-not-is_touching c).In-loop-i in
    (λ h. cc, λ all. let touching = told ((sight width_of squared_rise c.args.cells.now c.args.lo c.args.hi c.args.xs.now c.args.duals.now c.loop-i.i c.loop-i.from none c.loop-i-test.true c.requires.places.count c.requires.duals here).touching ((shown_are_duals width_of squared_rise c.args.cells.now c.args.lo c.args.hi c.args.xs.now c.args.duals.now some).1 all)) in cc)

pub is_falling-requires-clause-weight : goal.is_falling-requires-clause-weight
is_falling-requires-clause-weight c = weight_at c.args.cells.now c.loop-i.i _ c.requires.row.each c.loop-i-test.true

pub returns-then-not-is_falling : goal.returns-then-not-is_falling
returns-then-not-is_falling c =
    let place : FitsSigned w64 (get_or c.args.xs.now c.loop-i.i (pos 0)) = search rules in
    let told = simp to_z-of_z at c.is_falling.ensures.1 in
    let some : 0 < length c.args.cells.now = omega arith in
    let here = inv (goal.at.returns-then-not-is_falling c).In-loop-i in
    (λ h. cc, λ all. let falling = told ((sight width_of squared_rise c.args.cells.now c.args.lo c.args.hi c.args.xs.now c.args.duals.now c.loop-i.i c.loop-i.from none c.loop-i-test.true c.requires.places.count c.requires.duals here).falling ((shown_are_duals width_of squared_rise c.args.cells.now c.args.lo c.args.hi c.args.xs.now c.args.duals.now some).1 all)) in cc)

pub overflow_add-from : goal.overflow_add-from
overflow_add-from c =
    let place = c.requires.places.range c.loop-i.i (pos 0) (omega arith) in
    let cell = c.requires.row.each.each c.loop-i.i none c.loop-i-test.true in
    omega (arith, ints, place.0, place.1, cell.width_from, cell.width_to)

pub loop-i-preserved : goal.loop-i-preserved
loop-i-preserved c =
    let place = c.requires.places.range c.loop-i.i (pos 0) (omega arith) in
    let cell = c.requires.row.each.each c.loop-i.i none c.loop-i-test.true in
    let x : FitsSigned w64 (get_or c.args.xs.now c.loop-i.i (pos 0)) = search rules in
    let w : FitsSigned w64 (get_or c.args.cells.now c.loop-i.i none).width = omega (arith, ints, cell.width_from, cell.width_to) in
    let d : FitsSigned w64 c.args.lo = search rules in
    let e : FitsSigned w64 c.args.hi = search rules in
    let f : FitsSigned w64 (get_or c.args.xs.now c.loop-i.i (pos 0) +ℤ (get_or c.args.cells.now c.loop-i.i none).width) = omega (arith, ints, place.0, place.1, cell.width_from, cell.width_to) in
    let touching = rw c.loop-i.from-is at (simp to_z-of_z at c.is_touching.ensures.0) in
    let falling = simp to_z-of_z at c.is_falling.ensures.0 in
    let here = inv (goal.at.loop-i-preserved c).In-loop-i in
    simp to_z-of_z (shown_next width_of squared_rise c.args.cells.now c.args.lo c.args.hi c.args.xs.now c.args.duals.now c.loop-i.i c.loop-i.from none c.loop-i-test.true c.requires.places.count c.requires.duals here (touching c.if-not-is_touching.false) (falling c.if-not-is_falling.false))

pub returns : goal.returns
returns c =
    let e : FitsSigned w64 c.args.hi = search rules in
    let told = rw c.loop-i.from-is at (simp to_z-of_z at c.is_touching-2.ensures) in
    let d : FitsSigned w64 c.args.lo = search rules in
    let some : 0 < length c.args.cells.now = grind arith in
    let here = rw c.loop-i.from-is at (simp to_z-of_z at c.loop-i.invariant) in
    let same = shown_are_duals width_of squared_rise c.args.cells.now c.args.lo c.args.hi c.args.xs.now c.args.duals.now some in
    let last = shown_end width_of squared_rise c.args.cells.now c.args.lo c.args.hi c.args.xs.now c.args.duals.now c.loop-i.i c.loop-i.from (omega arith) (omega arith) c.requires.places.count c.requires.duals here in
    (λ h. same.0 (last.0 (told.0 h)), λ all. told.1 (last.1 (same.1 all)))
