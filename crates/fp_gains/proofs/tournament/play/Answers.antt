use Rattle.std.proofs.Common.{◌∙◌, arith}
use Rattle.std.proofs.lemmas.List.{drop-set-lt}
use Rattle.fp_gains.proofs.TournamentLemmas.{played_more}
use Rattle.fp_gains.proofs.tournament.play.Goals as goal

pub loop-node-preserved : goal.loop-node-preserved
loop-node-preserved c = (
  played_more c.args.inner c.loop-node.nodes _ c.loop-node.node c.greatest.result c.loop-node.invariant.0 (omega arith) (omega arith) c.greatest.ensures,
  drop-set-lt c.args.inner c.loop-node.nodes _ _ (omega arith) ∙ c.loop-node.invariant.1,
)
