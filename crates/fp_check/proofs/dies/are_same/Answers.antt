use Rattle.std.proofs.Common.{refl}
use Rattle.std.proofs.lemmas.Slice.Eq.{slice_eq-Decides}
use Rattle.fp_check.proofs.Settling.{dies_decided}
use Rattle.fp_check.proofs.dies.are_same.Goals as goal

pub returns : goal.returns
returns c = slice_eq-Decides (dies_decided _ refl refl refl refl) _ _ _ c.eq.ensures
