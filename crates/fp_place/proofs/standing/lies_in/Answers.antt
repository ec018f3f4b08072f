use Rattle.std.proofs.Common.{arith}
use Rattle.std.proofs.lemmas.Int.{ints}
use Rattle.fp_place.proofs.standing.lies_in.Goals as goal

pub returns-then-segment-x : goal.returns-then-segment-x
returns-then-segment-x c = (λ h. (omega (arith, ints), grind (arith, ints)), λ h. grind (arith, ints, h.1))
