use Rattle.std.proofs.Common.{refl, arith}
use Rattle.fp_match.proofs.Augment.{back_row, back_less, back_step}
use Rattle.fp_match.proofs.matching.augment.Goals as goal

pub index-place-requires : goal.index-place-requires
index-place-requires g c =
    omega (arith, c.requires.room, (back_row _ _ _ _ _ _ _ c.requires c.loop-place.invariant.within c.loop-place-test.true c.index-current.ensures).1)

pub loop-place-smaller : goal.loop-place-smaller
loop-place-smaller g c =
    (back_less _ _ _ _ _ _ _ _ c.requires c.loop-place.invariant.within c.loop-place-test.true c.index-current.ensures c.index-place.ensures).1

pub loop-place-preserved : goal.loop-place-preserved
loop-place-preserved g c =
    back_step _ _ _ _ _ _ _ _ _ _ _ _ c.requires c.loop-place.invariant c.loop-place-test.true c.index-current.ensures c.index-left.ensures
    c.index-place.ensures refl refl refl
