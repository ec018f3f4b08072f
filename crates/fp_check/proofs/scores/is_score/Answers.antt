use Rattle.fp_check.proofs.Scored.{layout_of, placed_on_cuts}
use Rattle.fp_check.proofs.scores.is_score.Goals as goal

pub score-requires-clause-terminals : goal.score-requires-clause-terminals
score-requires-clause-terminals c =
    let layout = layout_of c.args.problem.now c.requires.view.0 c.args.trial.now c.args.view.now c.in-Some.layout c.requires.view.1 c.in-Some.is in
    placed_on_cuts c.args.problem.now c.requires.view.0 c.args.trial.now c.in-Some.layout.placement layout.has (c.requires.listed layout.has) layout.placement_is
