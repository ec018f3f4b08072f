use Rattle.fp_gains.proofs.TournamentLemmas.{more_of, asked_none, asked_more}
use Rattle.fp_gains.proofs.tournament.best_of.Goals as goal

pub loop-low-init : goal.loop-low-init
loop-low-init c = asked_none c.args.inner c.args.count c.args.nodes.now c.requires.tree c.requires.some c.requires.within

pub loop-low-preserved : goal.loop-low-preserved
loop-low-preserved c =
    asked_more c.args.inner c.args.count c.args.nodes.now c.loop-low.best c.loop-low.low c.loop-low.high c.outermost.result c.max-best.result c.requires.tree c.loop-low.invariant
    c.loop-low-test.true c.outermost.ensures (more_of _ _ _ c.max-best.ensures)
