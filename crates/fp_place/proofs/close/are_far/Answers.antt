use Rattle.std.proofs.Common.{w64, FitsSigned}
use Rattle.std.proofs.lemmas.Int.{to_z-of_z}
use Rattle.fp_place.proofs.CloseLemmas.{far_decided}
use Rattle.fp_place.proofs.close.are_far.Goals as goal

pub returns : goal.returns
returns c =
    let a : FitsSigned w64 c.args.a = c.ranges.a in
    let b : FitsSigned w64 c.args.b = c.ranges.b in
    far_decided c.args.a c.args.b c.args.pitch _ _ (simp to_z-of_z at c.abs_diff.ensures) c.from.ensures
