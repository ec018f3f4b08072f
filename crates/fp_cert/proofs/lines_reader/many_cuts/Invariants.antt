use Rattle.std.proofs.Common.{[]}
use Rattle.fp_text.specs.Reading.{many_next}
use Rattle.fp_cert.specs.CertReading.{cut_next}
use Rattle.fp_cert.specs.Growing.{with_cuts}
use Rattle.fp_cert.proofs.ReadLoops.{SoFar}
use Rattle.fp_cert.proofs.lines_reader.many_cuts.Given as goal

abbrev pub invariant-loop : goal.invariant-loop
invariant-loop l = SoFar with_cuts (λ before. cut_next l.problem l.slots) l.count l.counter l.initial.trial l.trial l.tokens (many_next (λ before. cut_next l.problem l.slots) l.count [] l.initial.tokens)
