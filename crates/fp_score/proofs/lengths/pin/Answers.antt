use Rattle.std.proofs.Common.{◌+ℤ◌, FitsSigned, w64, arith, rules}
use Rattle.std.proofs.lemmas.Int.{ints, to_z-of_z}
use Rattle.fp_score.proofs.Pins.{pin_die, pin_point, pin_near}
use Rattle.fp_score.proofs.lengths.pin.Goals as goal

pub overflow_add-result : goal.overflow_add-result
overflow_add-result c =
    let a : FitsSigned w64 c.spot-spot.result.x = search rules in
    let b : FitsSigned w64 c.offset-offset.result.x = search rules in
    let is = pin_near c.args.problem.now c.args.placement.now c.conn.result.cell.0 c.spot-spot.result c.offset-offset.result c.requires.of_problem c.spot-spot.ensures.spot c.offset-offset.ensures.x c.offset-offset.ensures.y in
    simp to_z-of_z (omega (arith, ints, is.left, is.right))

pub overflow_add-result-2 : goal.overflow_add-result-2
overflow_add-result-2 c =
    let a : FitsSigned w64 c.spot-spot.result.y = search rules in
    let b : FitsSigned w64 c.offset-offset.result.y = search rules in
    let is = pin_near c.args.problem.now c.args.placement.now c.conn.result.cell.0 c.spot-spot.result c.offset-offset.result c.requires.of_problem c.spot-spot.ensures.spot c.offset-offset.ensures.x c.offset-offset.ensures.y in
    simp to_z-of_z (omega (arith, ints, is.low, is.high))

pub returns-clause-die : goal.returns-clause-die
returns-clause-die c = pin_die c.args.problem.now c.args.placement.now c.args.conn.0 c.conn.result c.spot-spot.result c.conn.ensures.conn c.spot-spot.ensures.spot

pub returns-clause-point : goal.returns-clause-point
returns-clause-point c =
    let a : FitsSigned w64 c.spot-spot.result.x = search rules in
    let b : FitsSigned w64 c.spot-spot.result.y = search rules in
    let d : FitsSigned w64 c.offset-offset.result.x = search rules in
    let e : FitsSigned w64 c.offset-offset.result.y = search rules in
    let is = pin_near c.args.problem.now c.args.placement.now c.conn.result.cell.0 c.spot-spot.result c.offset-offset.result c.requires.of_problem c.spot-spot.ensures.spot c.offset-offset.ensures.x c.offset-offset.ensures.y in
    let x : FitsSigned w64 (c.spot-spot.result.x +ℤ c.offset-offset.result.x) = omega (arith, ints, is.left, is.right) in
    let y : FitsSigned w64 (c.spot-spot.result.y +ℤ c.offset-offset.result.y) = omega (arith, ints, is.low, is.high) in
    simp to_z-of_z (pin_point c.args.problem.now c.args.placement.now c.args.conn.0 c.conn.result c.spot-spot.result c.offset-offset.result c.conn.ensures.conn c.spot-spot.ensures.spot c.offset-offset.ensures.offset)

pub returns-clause-near : goal.returns-clause-near
returns-clause-near c =
    let a : FitsSigned w64 c.spot-spot.result.x = search rules in
    let b : FitsSigned w64 c.spot-spot.result.y = search rules in
    let d : FitsSigned w64 c.offset-offset.result.x = search rules in
    let e : FitsSigned w64 c.offset-offset.result.y = search rules in
    let is = pin_near c.args.problem.now c.args.placement.now c.conn.result.cell.0 c.spot-spot.result c.offset-offset.result c.requires.of_problem c.spot-spot.ensures.spot c.offset-offset.ensures.x c.offset-offset.ensures.y in
    let x : FitsSigned w64 (c.spot-spot.result.x +ℤ c.offset-offset.result.x) = omega (arith, ints, is.left, is.right) in
    let y : FitsSigned w64 (c.spot-spot.result.y +ℤ c.offset-offset.result.y) = omega (arith, ints, is.low, is.high) in
    simp to_z-of_z is
