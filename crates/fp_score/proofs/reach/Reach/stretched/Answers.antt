use Rattle.std.proofs.Common.{◌≡◌, FitsSigned, w64, rules}
use Rattle.std.specs.Int.{int_min, int_max}
use Rattle.std.proofs.lemmas.Int.{to_z-of_z}
use Rattle.fp_score.proofs.reach.Reach.stretched.Goals as goal

pub returns : goal.returns
returns c =
    let left : FitsSigned w64 c.args.self.left = search rules in
    let right : FitsSigned w64 c.args.self.right = search rules in
    let low : FitsSigned w64 c.args.self.low = search rules in
    let high : FitsSigned w64 c.args.self.high = search rules in
    let x : FitsSigned w64 c.args.point.x = search rules in
    let y : FitsSigned w64 c.args.point.y = search rules in
    let a : FitsSigned w64 c.min.result = search rules in
    let b : FitsSigned w64 c.max.result = search rules in
    let d : FitsSigned w64 c.min-2.result = search rules in
    let e : FitsSigned w64 c.max-2.result = search rules in
    let least : c.min.result ≡ int_min c.args.self.left c.args.point.x = simp to_z-of_z at c.min.ensures.value in
    let most : c.max.result ≡ int_max c.args.self.right c.args.point.x = simp to_z-of_z at c.max.ensures.value in
    let lowest : c.min-2.result ≡ int_min c.args.self.low c.args.point.y = simp to_z-of_z at c.min-2.ensures.value in
    let highest : c.max-2.result ≡ int_max c.args.self.high c.args.point.y = simp to_z-of_z at c.max-2.ensures.value in
    simp to_z-of_z (λ i. record { left = least i; right = most i; low = lowest i; high = highest i })
