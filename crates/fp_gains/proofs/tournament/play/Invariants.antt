use Rattle.std.proofs.Common.{◌≡◌, drop}
use Rattle.fp_gains.proofs.TournamentLemmas.{ArePlayed}
use Rattle.fp_gains.proofs.tournament.play.Given as goal

abbrev pub invariant-loop-node : goal.invariant-loop-node
invariant-loop-node l = ArePlayed l.inner l.nodes l.node × (drop l.inner l.nodes ≡ drop l.inner l.initial.nodes)
