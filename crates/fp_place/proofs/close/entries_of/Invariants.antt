use Rattle.fp_place.proofs.CloseLemmas.{AreEntriesBelow}
use Rattle.fp_place.proofs.close.entries_of.Given as goal

abbrev pub invariant-loop-net : goal.invariant-loop-net
invariant-loop-net l = AreEntriesBelow l.terminal l.centres l.entries.items l.net
