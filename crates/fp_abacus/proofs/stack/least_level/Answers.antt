use Rattle.std.proofs.Common.{pos, ◌-ℤ◌, ◌*ℤ◌, FitsSigned, w64, arith, rules}
use Rattle.std.proofs.lemmas.Int.{ints, to_z-of_z}
use Rattle.fp_abacus.proofs.Levels.{level_is_least, level_fits}
use Rattle.fp_abacus.proofs.stack.least_level.Goals as goal

pub overflow_sub-result : goal.overflow_sub-result
overflow_sub-result c =
    let h = c.requires in
    let w = c.args.weight in
    let m = c.args.moment in
    let a : FitsSigned w64 w = search rules in
    let b : FitsSigned w64 m = search rules in
    let d : FitsSigned w64 (pos 2 *ℤ m) = omega (arith, ints) in
    let e : FitsSigned w64 (w -ℤ pos 2 *ℤ m) = omega (arith, ints) in
    let f : FitsSigned w64 (pos 2 *ℤ w) = omega (arith, ints) in
    let g : FitsSigned w64 c.div_euclid.result = search rules in
    let q = simp to_z-of_z at c.div_euclid.ensures in
    simp to_z-of_z (rw q (level_fits w m h))

pub returns : goal.returns
returns c =
    let h = c.requires in
    let w = c.args.weight in
    let m = c.args.moment in
    let a : FitsSigned w64 w = search rules in
    let b : FitsSigned w64 m = search rules in
    let d : FitsSigned w64 (pos 2 *ℤ m) = omega (arith, ints) in
    let e : FitsSigned w64 (w -ℤ pos 2 *ℤ m) = omega (arith, ints) in
    let f : FitsSigned w64 (pos 2 *ℤ w) = omega (arith, ints) in
    let g : FitsSigned w64 c.div_euclid.result = search rules in
    let q = simp to_z-of_z at c.div_euclid.ensures in
    let whole : FitsSigned w64 (pos 0 -ℤ c.div_euclid.result) = rw q (level_fits w m h) in
    simp to_z-of_z (rw q (level_is_least w m h))
