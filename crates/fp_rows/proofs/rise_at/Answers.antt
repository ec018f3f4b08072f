use Rattle.std.proofs.Common.{pos, ◌+ℤ◌, ◌-ℤ◌, ◌*ℤ◌, FitsSigned, w64, arith}
use Rattle.std.proofs.lemmas.Int.{ints, to_z-of_z}
use Rattle.fp_rows.specs.Squares.{squared_rise}
use Rattle.fp_rows.specs.Ranges.{rise_fits}
use Rattle.fp_rows.proofs.rise_at.Goals as goal

pub overflow_mul-result-2 : goal.overflow_mul-result-2
overflow_mul-result-2 c =
    let w = c.args.cell.weight in
    let t = c.args.cell.target in
    let x = c.args.x in
    let r = c.requires in
    let a : FitsSigned w64 w = omega (arith, ints) in
    let b : FitsSigned w64 t = omega (arith, ints) in
    let d : FitsSigned w64 x = omega (arith, ints) in
    let e : FitsSigned w64 (x -ℤ t) = omega (arith, ints) in
    let f : FitsSigned w64 (pos 2 *ℤ (x -ℤ t)) = omega (arith, ints) in
    let g : FitsSigned w64 (pos 2 *ℤ (x -ℤ t) +ℤ pos 1) = omega (arith, ints) in
    simp to_z-of_z (rise_fits w x t r.cell.weight_from r.weight r.from r.to r.cell.target_from r.cell.target_to)

pub returns : goal.returns
unfolding squared_rise
returns c =
    let w = c.args.cell.weight in
    let t = c.args.cell.target in
    let x = c.args.x in
    let r = c.requires in
    let a : FitsSigned w64 w = omega (arith, ints) in
    let b : FitsSigned w64 t = omega (arith, ints) in
    let d : FitsSigned w64 x = omega (arith, ints) in
    let e : FitsSigned w64 (x -ℤ t) = omega (arith, ints) in
    let f : FitsSigned w64 (pos 2 *ℤ (x -ℤ t)) = omega (arith, ints) in
    let g : FitsSigned w64 (pos 2 *ℤ (x -ℤ t) +ℤ pos 1) = omega (arith, ints) in
    let h = rise_fits w x t r.cell.weight_from r.weight r.from r.to r.cell.target_from r.cell.target_to in
    simp to_z-of_z
