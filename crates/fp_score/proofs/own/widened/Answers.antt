use Rattle.std.proofs.Common.{IfSome, subst, arith}
use Rattle.std.proofs.lemmas.Int.{ints, clamps}
use Rattle.fp_score.specs.Ends.{AreNearEnds}
use Rattle.fp_score.proofs.own.widened.Goals as goal

pub returns-in-Some-clause-near : goal.returns-in-Some-clause-near
returns-in-Some-clause-near c =
    let is : AreNearEnds c.in-Some.ends = subst (λ ends. IfSome ends AreNearEnds) c.in-Some.is c.requires.ends in
    record {
      least = omega (arith, ints, clamps, is.least, is.wide, is.most, c.min.ensures.value, c.max.ensures.value);
      wide = omega (arith, ints, clamps, is.least, is.wide, is.most, c.min.ensures.value, c.max.ensures.value);
      most = omega (arith, ints, clamps, is.least, is.wide, is.most, c.min.ensures.value, c.max.ensures.value);
    }
