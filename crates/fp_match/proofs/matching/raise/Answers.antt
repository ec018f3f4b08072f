use Rattle.std.proofs.Common.{arith}
use Rattle.fp_match.proofs.Augment.{raise_step}
use Rattle.fp_match.proofs.matching.raise.Goals as goal

pub loop-place-preserved : goal.loop-place-preserved
loop-place-preserved c =
    raise_step _ _ _ _ _ _ _ c.requires c.loop-place.invariant (omega arith) (omega arith) c.index.ensures c.index-in-loop-place.ensures
