use Rattle.std.proofs.Common.{[]}
use Rattle.fp_text.specs.Reading.{many_next}
use Rattle.fp_cert.specs.CertReading.{cell_next}
use Rattle.fp_cert.specs.Growing.{with_cells}
use Rattle.fp_cert.proofs.ReadLoops.{SoFar}
use Rattle.fp_cert.proofs.lines_reader.many_cells.Given as goal

abbrev pub invariant-loop : goal.invariant-loop
invariant-loop l = SoFar with_cells (λ before. cell_next l.problem) l.count l.counter l.initial.row l.row l.tokens (many_next (λ before. cell_next l.problem) l.count [] l.initial.tokens)
