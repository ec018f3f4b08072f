use Rattle.std.proofs.Common.{arith}
use Rattle.std.proofs.lemmas.Grind.{common_steps}
use Rattle.fp_slots.proofs.SmallLanes.{small_once}
use Rattle.fp_slots.proofs.tests.placed.Goals as goal

pub build-requires-clause-once : goal.build-requires-clause-once
build-requires-clause-once g c = small_once _ _ _ (grind (arith, common_steps)) c.in_ok-top.ensures c.in_ok-bottom.ensures
