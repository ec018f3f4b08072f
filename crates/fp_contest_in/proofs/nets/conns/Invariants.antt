use Rattle.std.proofs.Common.{[]}
use Rattle.fp_text.specs.Reading.{many_next}
use Rattle.fp_contest_in.specs.Growing.{conn_item}
use Rattle.fp_contest_in.proofs.ProblemLoops.{ConnsSoFar}
use Rattle.fp_contest_in.proofs.nets.conns.Given as goal

abbrev pub invariant-loop : goal.invariant-loop
invariant-loop l = ConnsSoFar l.net.0 l.count l.counter l.initial.builder l.builder l.tokens (many_next (conn_item l.initial.builder) l.count [] l.initial.tokens)
