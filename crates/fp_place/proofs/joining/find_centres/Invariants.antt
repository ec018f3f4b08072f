use Rattle.fp_place.proofs.JoiningLemmas.{AreJoinedBelow}
use Rattle.fp_place.proofs.joining.find_centres.Given as goal

abbrev pub invariant-loop-net : goal.invariant-loop-net
invariant-loop-net l = AreJoinedBelow l.problem l.dies l.lines l.centres.items l.net
