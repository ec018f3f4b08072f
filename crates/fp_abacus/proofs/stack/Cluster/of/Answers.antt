use Rattle.std.proofs.Common.{◌-ℤ◌, ◌*ℤ◌, FitsSigned, w64, arith, rules}
use Rattle.std.proofs.lemmas.Int.{ints, to_z-of_z}
use Rattle.fp_abacus.proofs.Levels.{moment_fits, moment_of_one}
use Rattle.fp_abacus.proofs.stack.Cluster.of.Goals as goal

pub overflow_mul-cell : goal.overflow_mul-cell
overflow_mul-cell c =
    let w = c.args.cell.weight in
    let d = c.args.cell.target -ℤ c.args.before in
    let r = c.requires in
    let a : FitsSigned w64 w = omega (arith, ints) in
    let b : FitsSigned w64 c.args.cell.target = omega (arith, ints) in
    let e : FitsSigned w64 c.args.before = search rules in
    let f : FitsSigned w64 d = omega (arith, ints) in
    simp to_z-of_z (moment_fits w d r.cell.weight_from r.weight (omega (arith, ints)) (omega (arith, ints)))

pub new-requires : goal.new-requires
new-requires c =
    let w = c.args.cell.weight in
    let d = c.args.cell.target -ℤ c.args.before in
    let r = c.requires in
    let a : FitsSigned w64 w = omega (arith, ints) in
    let b : FitsSigned w64 c.args.cell.target = omega (arith, ints) in
    let e : FitsSigned w64 c.args.before = search rules in
    let f : FitsSigned w64 d = omega (arith, ints) in
    let g : FitsSigned w64 (w *ℤ d) = moment_fits w d r.cell.weight_from r.weight (omega (arith, ints)) (omega (arith, ints)) in
    simp to_z-of_z (moment_of_one w d r.cell.weight_from r.weight (omega (arith, ints)) (omega (arith, ints)))

pub returns : goal.returns
returns c =
    let w = c.args.cell.weight in
    let d = c.args.cell.target -ℤ c.args.before in
    let r = c.requires in
    let a : FitsSigned w64 w = omega (arith, ints) in
    let b : FitsSigned w64 c.args.cell.target = omega (arith, ints) in
    let e : FitsSigned w64 c.args.before = search rules in
    let f : FitsSigned w64 d = omega (arith, ints) in
    let g : FitsSigned w64 (w *ℤ d) = moment_fits w d r.cell.weight_from r.weight (omega (arith, ints)) (omega (arith, ints)) in
    simp to_z-of_z at c.new.ensures
