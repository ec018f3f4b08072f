use Rattle.std.proofs.Common.{[]}
use Rattle.fp_text.specs.Reading.{many_next}
use Rattle.fp_contest_in.specs.Growing.{net_item}
use Rattle.fp_contest_in.proofs.ProblemLoops.{NetsSoFar}
use Rattle.fp_contest_in.proofs.nets.many_nets.Given as goal

abbrev pub invariant-loop : goal.invariant-loop
invariant-loop l = NetsSoFar l.count l.counter l.initial.builder l.builder l.tokens (many_next (net_item l.initial.builder) l.count [] l.initial.tokens)
