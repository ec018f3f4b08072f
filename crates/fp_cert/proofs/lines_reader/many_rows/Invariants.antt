use Rattle.std.proofs.Common.{◌^◌, ◌≤◌, []}
use Rattle.fp_text.specs.Reading.{many_next}
use Rattle.fp_cert.specs.CertReading.{row_item}
use Rattle.fp_cert.proofs.ReadLoops.{RowsSoFar}
use Rattle.fp_cert.proofs.lines_reader.many_rows.Given as goal

abbrev pub invariant-loop : goal.invariant-loop
invariant-loop l = record {
  rows : RowsSoFar l.problem l.die l.initial.taken l.taken l.count l.counter l.initial.trial l.trial l.tokens
      (many_next (row_item l.problem l.initial.taken) l.count [] l.initial.tokens);
  few : l.taken ≤ 2 ^ 18;
}
