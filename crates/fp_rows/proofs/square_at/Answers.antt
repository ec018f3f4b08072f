use Rattle.std.proofs.Common.{◌≡◌, ◌-ℤ◌, ◌*ℤ◌, FitsSigned, arith}
use Rattle.std.proofs.lemmas.Int.{ints, to_z-of_z}
use Rattle.fp_rows.specs.Squares.{squared_cost}
use Rattle.fp_rows.specs.Ranges.{square_fits, cost_fits}
use Rattle.fp_rows.proofs.square_at.Goals as goal
use mir.Syntax.{w128}

pub overflow_mul-result : goal.overflow_mul-result
overflow_mul-result c =
    let d = c.from-distance.result in
    let fits : FitsSigned w128 d = omega (arith, ints) in
    simp to_z-of_z (square_fits d (omega (arith, ints)) (omega (arith, ints)))

pub overflow_mul-result-2 : goal.overflow_mul-result-2
overflow_mul-result-2 c =
    let w = c.from.result in
    let d = c.from-distance.result in
    let fits : FitsSigned w128 d = omega (arith, ints) in
    let weight : FitsSigned w128 w = omega (arith, ints) in
    let square : FitsSigned w128 (d *ℤ d) = square_fits d (omega (arith, ints)) (omega (arith, ints)) in
    simp to_z-of_z (cost_fits w d (omega (arith, ints)) (omega (arith, ints)) (omega (arith, ints)) (omega (arith, ints)))

pub returns : goal.returns
unfolding squared_cost
returns c =
    let w = c.from.result in
    let d = c.from-distance.result in
    let fits : FitsSigned w128 d = omega (arith, ints) in
    let weight : FitsSigned w128 w = omega (arith, ints) in
    let square : FitsSigned w128 (d *ℤ d) = square_fits d (omega (arith, ints)) (omega (arith, ints)) in
    let whole : FitsSigned w128 (w *ℤ (d *ℤ d)) = cost_fits w d (omega (arith, ints)) (omega (arith, ints)) (omega (arith, ints)) (omega (arith, ints)) in
    let distance : d ≡ c.args.x -ℤ c.args.cell.target = omega (arith, ints) in
    let same : w ≡ c.args.cell.weight = omega (arith, ints) in
    simp to_z-of_z (cc)
