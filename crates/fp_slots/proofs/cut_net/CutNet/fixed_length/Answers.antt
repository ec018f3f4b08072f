use Rattle.std.proofs.Common.{◌≡◌, ◌∙◌, subst, sym, ◌+ℤ◌, FitsSigned, w64, rules}
use Rattle.std.proofs.lemmas.Int.{to_z-of_z}
use Rattle.fp_score.specs.Reaches.{IsNearReach}
use Rattle.fp_score.specs.Score.{stretched, half_perimeter}
use Rattle.fp_slots.proofs.Windows.{fixed_by_axes, left_near}
use Rattle.fp_slots.proofs.cut_net.CutNet.fixed_length.Goals as goal

pub half_perimeter-requires : goal.half_perimeter-requires
half_perimeter-requires c =
    let x_fits : FitsSigned w64 c.args.self.top.left = search rules in
    let y_fits : FitsSigned w64 c.args.y = c.ranges.y in
    let is : c.stretched.result ≡ stretched c.args.self.top (record { x = c.args.self.top.left; y = c.args.y }) = simp to_z-of_z at c.stretched.ensures in
    subst IsNearReach (sym is) (left_near c.args.self.top c.args.y c.requires.net.top c.requires.least c.requires.most)

pub half_perimeter-requires-2 : goal.half_perimeter-requires-2
half_perimeter-requires-2 c =
    let x_fits : FitsSigned w64 c.args.self.bottom.left = search rules in
    let y_fits : FitsSigned w64 c.args.y = c.ranges.y in
    let is : c.stretched-2.result ≡ stretched c.args.self.bottom (record { x = c.args.self.bottom.left; y = c.args.y }) = simp to_z-of_z at c.stretched-2.ensures in
    subst IsNearReach (sym is) (left_near c.args.self.bottom c.args.y c.requires.net.bottom c.requires.least c.requires.most)

pub returns : goal.returns
returns c =
    let top_fits : FitsSigned w64 c.args.self.top.left = search rules in
    let bottom_fits : FitsSigned w64 c.args.self.bottom.left = search rules in
    let y_fits : FitsSigned w64 c.args.y = c.ranges.y in
    let top : c.stretched.result ≡ stretched c.args.self.top (record { x = c.args.self.top.left; y = c.args.y }) = simp to_z-of_z at c.stretched.ensures in
    let bottom : c.stretched-2.result ≡ stretched c.args.self.bottom (record { x = c.args.self.bottom.left; y = c.args.y }) = simp to_z-of_z at c.stretched-2.ensures in
    (λ i. c.half_perimeter.ensures.length i +ℤ c.half_perimeter-2.ensures.length i)
    ∙ (λ i. half_perimeter (top i) +ℤ half_perimeter (bottom i))
    ∙ fixed_by_axes c.args.self c.args.y c.requires.net
