use Rattle.fp_gains.proofs.TournamentLemmas.{IsAsked}
use Rattle.fp_gains.proofs.tournament.best_of.Given as goal

abbrev pub invariant-loop-low : goal.invariant-loop-low
invariant-loop-low l = IsAsked l.inner l.count l.nodes l.best l.low l.high

abbrev pub decreases-loop-low : goal.decreases-loop-low
decreases-loop-low l = l.high
