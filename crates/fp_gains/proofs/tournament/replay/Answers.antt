use Rattle.std.proofs.Common.{◌<◌, ◌∙◌, arith}
use Rattle.std.proofs.lemmas.List.{drop-set-lt}
use Rattle.fp_gains.proofs.TournamentLemmas.{above_inner, replayed}
use Rattle.fp_gains.proofs.tournament.replay.Goals as goal

pub loop-node-preserved : goal.loop-node-preserved
loop-node-preserved c =
    let waiting = c.loop-node.invariant.0 in
    let below : 0 < c.loop-node.node = omega (arith, c.loop-node-test.true) in
    let inside = above_inner c.args.inner c.loop-node.nodes c.loop-node.node c.loop-node.held waiting below in (
      replayed c.args.inner c.loop-node.nodes c.loop-node.node c.loop-node.held c.winner_above-best.result waiting below c.winner_above-best.ensures,
      drop-set-lt c.args.inner c.loop-node.nodes _ _ inside ∙ c.loop-node.invariant.1,
    )
