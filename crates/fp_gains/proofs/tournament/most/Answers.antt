use Rattle.fp_gains.proofs.TournamentLemmas.{more_of, four_most}
use Rattle.fp_gains.proofs.tournament.most.Goals as goal

pub returns : goal.returns
returns c =
    four_most c.args.nodes.now c.args.start c.args.last c.min-second.result c.min-third.result c.min-fourth.result c.max-early.result c.max-late.result c.max.result c.requires.order
    c.min-second.ensures c.min-third.ensures c.min-fourth.ensures (more_of _ _ _ c.max-early.ensures) (more_of _ _ _ c.max-late.ensures) (more_of _ _ _ c.max.ensures)
