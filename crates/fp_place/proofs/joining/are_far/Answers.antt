use Rattle.std.proofs.Common.{rules, FitsSigned, w64}
use Rattle.std.proofs.lemmas.Int.{to_z-of_z}
use Rattle.fp_place.proofs.JoiningLemmas.{or_else}
use Rattle.fp_place.proofs.joining.are_far.Goals as goal

pub returns-else-is_behind : goal.returns-else-is_behind
returns-else-is_behind c =
    let a_fits : FitsSigned w64 c.args.a = search rules in
    let b_fits : FitsSigned w64 c.args.b = search rules in
    or_else _ _ c.is_behind.result _ (simp to_z-of_z at c.is_behind.ensures) c.if-is_behind.false (simp to_z-of_z at c.is_behind-else-is_behind.ensures)
