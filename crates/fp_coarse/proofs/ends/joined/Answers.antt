use Rattle.std.proofs.Common.{IfSome, subst, arith}
use Rattle.std.proofs.lemmas.Int.{ints}
use Rattle.fp_coarse.specs.EndsOfNets.{IsWithin}
use Rattle.fp_coarse.proofs.ends.joined.Goals as goal

pub returns-in-Some-clause-within : goal.returns-in-Some-clause-within
returns-in-Some-clause-within c = λ from to inside low high.
    c.with.ensures.within from to (subst (λ o. IfSome o (IsWithin from to)) c.in-Some.is inside) (omega (arith, ints)) (omega (arith, ints))
