use Rattle.std.proofs.Common.{arith}
use Rattle.std.proofs.lemmas.Int.{ints}
use Rattle.fp_place.proofs.joining.keeps_high.Goals as goal

pub returns : goal.returns
returns c = (λ h. omega (arith, ints, c.is_at_most.ensures.0 h), λ h. c.is_at_most.ensures.1 (omega (arith, ints)))
