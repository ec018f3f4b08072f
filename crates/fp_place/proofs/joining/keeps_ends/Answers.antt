use Rattle.std.proofs.Common.{rules, FitsSigned, w64}
use Rattle.std.proofs.lemmas.Int.{to_z-of_z}
use Rattle.fp_place.proofs.JoiningLemmas.{and_then}
use Rattle.fp_place.proofs.joining.keeps_ends.Goals as goal

pub returns-then-keeps_low : goal.returns-then-keeps_low
returns-then-keeps_low c =
    let fits : FitsSigned w64 c.args.at = search rules in
    and_then _ _ c.keeps_low.result _ (simp to_z-of_z at c.keeps_low.ensures) c.if-keeps_low.true (simp to_z-of_z at c.keeps_high.ensures)
