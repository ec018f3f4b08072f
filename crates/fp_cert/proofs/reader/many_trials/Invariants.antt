use Rattle.std.proofs.Common.{[]}
use Rattle.fp_text.specs.Reading.{many_next}
use Rattle.fp_cert.specs.CertReading.{trial_item}
use Rattle.fp_cert.specs.Growing.{with_trials}
use Rattle.fp_cert.proofs.ReadLoops.{SoFar}
use Rattle.fp_cert.proofs.reader.many_trials.Given as goal

abbrev pub invariant-loop : goal.invariant-loop
invariant-loop l = SoFar with_trials (trial_item l.problem l.slots) l.count l.counter l.initial.run l.run l.tokens (many_next (trial_item l.problem l.slots) l.count [] l.initial.tokens)
