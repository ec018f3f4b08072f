use Rattle.std.proofs.Common.{rules, FitsSigned, w64}
use Rattle.std.proofs.lemmas.Int.{to_z-of_z}
use Rattle.fp_place.proofs.JoiningLemmas.{or_else}
use Rattle.fp_place.proofs.joining.are_apart.Goals as goal

pub returns-else-are_far : goal.returns-else-are_far
returns-else-are_far c =
    let ax_fits : FitsSigned w64 c.args.a.x = search rules in
    let ay_fits : FitsSigned w64 c.args.a.y = search rules in
    let bx_fits : FitsSigned w64 c.args.b.x = search rules in
    let by_fits : FitsSigned w64 c.args.b.y = search rules in
    or_else _ _ c.are_far.result _ (simp to_z-of_z at c.are_far.ensures) c.if-are_far.false (simp to_z-of_z at c.are_far-else-are_far.ensures)
