use Rattle.std.proofs.Common.{subst}
use Rattle.fp_place.specs.Breaks.{Judges}
use Rattle.fp_place.specs.BreaksLaws.{not_both}
use Rattle.fp_check.proofs.Drawing.{alike_draws}
use Rattle.fp_check.proofs.Scored.{never}
use Rattle.fp_check.proofs.answer.draws.Goals as goal

pub returns-in-Legal : goal.returns-in-Legal
returns-in-Legal c =
    let judges = subst (Judges c.args.problem.now c.args.drawn.now) c.in-Legal.is c.in_ok-other.ensures.judges in
    let draws = alike_draws c.args.problem.now c.args.drawn.now c.in-Legal.other c.args.placement.now judges c.requires.of_problem c.requires.on_cuts in
    (λ yes. draws.0 (c.are_alike-same.ensures.0 yes), λ drawn. c.are_alike-same.ensures.1 (draws.1 drawn))

pub returns-in-Breaks : goal.returns-in-Breaks
returns-in-Breaks c =
    let judges = subst (Judges c.args.problem.now c.args.drawn.now) c.in-Breaks.is c.in_ok-other.ensures.judges in
    (never _, λ drawn. absurd (not_both c.args.problem.now c.args.drawn.now c.in-Breaks.rule c.in-Breaks.subject (c.requires.legal drawn) judges))
