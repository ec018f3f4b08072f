use Rattle.std.proofs.Common.{◌≡◌, pos, ◌-ℤ◌, FitsSigned, w64, to_z, of_z, true, sym, arith, rules}
use Rattle.std.proofs.lemmas.Int.{ints, to_z-of_z}
use lib.Signed.{le_z}
use mir.Syntax.{w128}
use Rattle.fp_absrow.specs.ConvexCells.{cell_at}
use Rattle.fp_absrow.proofs.shown.is_falling.Goals as goal

pub returns-then-rise-fall : goal.returns-then-rise-fall
returns-then-rise-fall g c =
    let cell = cell_at (g.C.RowCost.cells_of c.args.costs.now) c.args.cell in
    let a : FitsSigned w64 c.args.x = search rules in
    let b : FitsSigned w64 (c.args.x -ℤ pos 1) = omega (arith, ints) in
    let least : c.rise.result ≡ cell.rise (c.args.x -ℤ pos 1) = simp to_z-of_z at c.rise.ensures in
    let most : c.rise-then-rise-fall.result ≡ cell.rise c.args.x = simp to_z-of_z at c.rise-then-rise-fall.ensures in
    let fall : c.from.result -ℤ c.from-2.result ≡ pos c.args.before -ℤ pos c.args.after = omega (arith, ints) in
    (λ h. (omega (arith, ints), omega (arith, ints)), λ h. sym (let le : true ≡ le_z (to_z w128 (of_z w128 (to_z w128 (of_z w128 c.from.result) -ℤ to_z w128 (of_z w128 c.from-2.result)))) (to_z w128 (of_z w128 c.rise-then-rise-fall.result)) = omega (arith, ints, h.1) in le))
