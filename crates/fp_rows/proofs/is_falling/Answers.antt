use Rattle.std.proofs.Common.{◌≡◌, pos, ◌-ℤ◌, FitsSigned, w64, to_z, of_z, true, sym, arith, rules}
use Rattle.std.proofs.lemmas.Int.{ints, to_z-of_z}
use lib.Signed.{le_z}
use mir.Syntax.{w128}
use Rattle.fp_rows.specs.Squares.{squared_rise}
use Rattle.fp_rows.proofs.is_falling.Goals as goal
use Rattle.fp_rows.proofs.is_falling.Goals.{After-from-most}

fall : (c : After-from-most) → c.from.result -ℤ c.from-2.result ≡ pos c.args.before -ℤ pos c.args.after
fall c = omega (arith, ints)

least : (c : After-from-most) → c.from-least.result ≡ squared_rise c.args.cell (c.args.x -ℤ pos 1)
least c =
    let a : FitsSigned w64 c.args.x = search rules in
    let b : FitsSigned w64 (c.args.x -ℤ pos 1) = omega (arith, ints) in
    let e = simp to_z-of_z at c.rise_at.ensures in
    omega (arith, ints, e)

most : (c : After-from-most) → c.from-most.result ≡ squared_rise c.args.cell c.args.x
most c =
    let a : FitsSigned w64 c.args.x = search rules in
    let e = simp to_z-of_z at c.rise_at-2.ensures in
    omega (arith, ints, e)

pub returns-then-least-fall : goal.returns-then-least-fall
returns-then-least-fall c =
    let d = (goal.at.returns-then-least-fall c).After-from-most in
    let e = fall d in
    let f = least d in
    let g = most d in
    (λ h. (omega (arith, ints), omega (arith, ints)), λ h. sym (let le : true ≡ le_z (to_z w128 (of_z w128 (to_z w128 (of_z w128 c.from.result) -ℤ to_z w128 (of_z w128 c.from-2.result)))) (to_z w128 (of_z w128 c.from-most.result)) = omega (arith, ints, h.1) in le))

pub returns-else-least-fall : goal.returns-else-least-fall
returns-else-least-fall c =
    let d = (goal.at.returns-else-least-fall c).After-from-most in
    let e = fall d in
    let f = least d in
    let g = most d in
    (λ h. absurd (omega (arith, ints)), λ h. absurd (omega (arith, ints, h.0)))
