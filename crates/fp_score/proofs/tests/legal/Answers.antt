use Rattle.std.proofs.Common.{subst}
use Rattle.fp_place.specs.declared.judge.Judged.TheVariants.{Legal}
use Rattle.fp_place.specs.Breaks.{Judges}
use Rattle.fp_place.specs.BreaksLaws.{legal_terminals}
use Rattle.fp_score.proofs.tests.legal.Goals as goal

pub returns-clause-on_cuts : goal.returns-clause-on_cuts
returns-clause-on_cuts g c =
    let judges : Judges c.args.problem.now c.args.drawn.now (Legal c.in-Legal.placement) =
    subst (Judges c.args.problem.now c.args.drawn.now) c.in-Legal.is c.in_ok-placement.ensures.judges in
    legal_terminals c.args.problem.now c.args.drawn.now c.in-Legal.placement judges
