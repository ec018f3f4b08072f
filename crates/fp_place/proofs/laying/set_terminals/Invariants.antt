use Rattle.fp_place.proofs.LinedUpLemmas.{AreSetBelow}
use Rattle.fp_place.proofs.laying.set_terminals.Given as goal

abbrev pub invariant-loop-net : goal.invariant-loop-net
invariant-loop-net l = AreSetBelow l.initial.placement l.placement l.centres l.net
