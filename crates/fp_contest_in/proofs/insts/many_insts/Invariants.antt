use Rattle.std.proofs.Common.{[]}
use Rattle.fp_text.specs.Reading.{many_next}
use Rattle.fp_contest_in.specs.Growing.{inst_item}
use Rattle.fp_contest_in.proofs.ProblemLoops.{InstsSoFar}
use Rattle.fp_contest_in.proofs.insts.many_insts.Given as goal

abbrev pub invariant-loop : goal.invariant-loop
invariant-loop l = InstsSoFar l.count l.counter l.initial.builder l.builder l.tokens (many_next (inst_item l.initial.builder.plan) l.count [] l.initial.tokens)
