use Rattle.std.proofs.Common.{[]}
use Rattle.fp_text.specs.Reading.{many_next}
use Rattle.fp_out.specs.OutReading.{terminal_next}
use Rattle.fp_out.specs.Growing.{with_terminals}
use Rattle.fp_out.proofs.LinesRead.{SoFar}
use Rattle.fp_out.proofs.reader.many_terminals.Given as goal

abbrev pub invariant-loop : goal.invariant-loop
invariant-loop l = SoFar with_terminals (terminal_next l.problem) l.count l.counter l.initial.drawn l.drawn l.tokens (many_next (λ before. terminal_next l.problem) l.count [] l.initial.tokens)
