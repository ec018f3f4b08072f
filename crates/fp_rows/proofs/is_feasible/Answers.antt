use Rattle.std.proofs.Common.{pos, ◌+ℤ◌, ◌<ℤ◌, FitsSigned, w64, get_or, arith, rules}
use Rattle.std.proofs.lemmas.Int.{ints, to_z-of_z}
use Rattle.fp_rows.specs.SeenLaws.{too_early, from_next}
use Rattle.fp_rows.specs.Squares.{width_of}
use Rattle.fp_rows.proofs.is_feasible.Goals as goal

pub returns-then-xs-i : goal.returns-then-xs-i
returns-then-xs-i c =
    let d : FitsSigned w64 c.args.lo = search rules in
    let e : FitsSigned w64 c.args.hi = search rules in
    let inv = simp to_z-of_z at c.loop-i.invariant in
    let early : get_or c.args.xs.now c.loop-i.i (pos 0) <ℤ c.loop-i.from = omega (arith, ints) in
    (λ h. cc, λ f. absurd (too_early width_of c.args.cells.now c.args.lo c.args.hi c.args.xs.now c.loop-i.i c.loop-i.from (record { width = pos 0; target = pos 0; weight = pos 0 }) (pos 0) c.loop-i-test.true c.requires.places.count (rw c.loop-i.from-is at inv) early f))

pub overflow_add-from : goal.overflow_add-from
overflow_add-from c =
    let place = c.requires.places.range c.loop-i.i (pos 0) (omega arith) in
    let cell = c.requires.row.each.each c.loop-i.i (record { width = pos 0; target = pos 0; weight = pos 0 }) c.loop-i-test.true in
    omega (arith, ints, place.0, place.1, cell.width_from, cell.width_to)

pub loop-i-preserved : goal.loop-i-preserved
loop-i-preserved c =
    let place = c.requires.places.range c.loop-i.i (pos 0) (omega arith) in
    let cell = c.requires.row.each.each c.loop-i.i (record { width = pos 0; target = pos 0; weight = pos 0 }) c.loop-i-test.true in
    let a : FitsSigned w64 (get_or c.args.xs.now c.loop-i.i (pos 0)) = search rules in
    let b : FitsSigned w64 (get_or c.args.cells.now c.loop-i.i (record { width = pos 0; target = pos 0; weight = pos 0 })).width = omega (arith, ints, cell.width_from, cell.width_to) in
    let f : FitsSigned w64 (get_or c.args.xs.now c.loop-i.i (pos 0) +ℤ (get_or c.args.cells.now c.loop-i.i (record { width = pos 0; target = pos 0; weight = pos 0 })).width) = omega (arith, ints, place.0, place.1, cell.width_from, cell.width_to) in
    let d : FitsSigned w64 c.args.lo = search rules in
    let e : FitsSigned w64 c.args.hi = search rules in
    let inv = simp to_z-of_z at c.loop-i.invariant in
    let late = c.if-xs-i.false in
    simp to_z-of_z (from_next width_of c.args.cells.now c.args.lo c.args.hi c.args.xs.now c.loop-i.i c.loop-i.from (record { width = pos 0; target = pos 0; weight = pos 0 }) (pos 0) c.loop-i-test.true c.requires.places.count (rw c.loop-i.from-is at inv) (omega (arith, ints)))
