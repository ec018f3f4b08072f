use Rattle.fp_gains.proofs.TournamentLemmas.{IsDealt}
use Rattle.fp_gains.proofs.tournament.rekey_all.Given as goal

abbrev pub invariant-loop-slot : goal.invariant-loop-slot
invariant-loop-slot l = IsDealt l.inner l.slot l.keys l.nodes l.initial.nodes
