use Rattle.std.proofs.Common.{[]}
use Rattle.fp_text.specs.Reading.{many_next}
use Rattle.fp_cert.specs.CertReading.{top_next}
use Rattle.fp_cert.specs.Growing.{with_tops}
use Rattle.fp_cert.proofs.ReadLoops.{SoFar}
use Rattle.fp_cert.proofs.lines_reader.many_tops.Given as goal

abbrev pub invariant-loop : goal.invariant-loop
invariant-loop l = SoFar with_tops (λ before. top_next l.problem) l.count l.counter l.initial.trial l.trial l.tokens (many_next (λ before. top_next l.problem) l.count [] l.initial.tokens)
