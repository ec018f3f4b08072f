use Rattle.std.proofs.Common.{[]}
use Rattle.std.proofs.lemmas.Result.{err_from_is_err_and}
use Rattle.fp_text.specs.Reading.{many_next}
use Rattle.fp_cert.specs.CertReading.{row_item}
use Rattle.fp_cert.specs.Growing.{with_rows}
use Rattle.fp_cert.proofs.ReadLoops.{rows_none, rows_more, rows_fault, so_far_all}
use Rattle.fp_cert.proofs.lines_reader.many_rows.Goals as goal

pub loop-init : goal.loop-init
loop-init c = record {
  rows = rows_none c.args.problem.now c.args.die c.args.taken c.args.count c.args.trial.now c.args.tokens.now;
  few = c.requires;
}

pub returns-in_err-taken-clause-grows : goal.returns-in_err-taken-clause-grows
returns-in_err-taken-clause-grows c =
    let p = err_from_is_err_and c.from_residual.result c.from_residual.ensures.1 in
    rw (p.1, p.2) (rows_fault c.in_err-taken.field-0.0 c.args.problem.now c.args.die c.args.taken c.loop.taken c.args.count c.loop.counter c.args.trial.now c.loop.trial c.loop.tokens
    (many_next (row_item c.args.problem.now c.args.taken) c.args.count [] c.args.tokens.now) c.loop-test.true c.loop.invariant.rows c.in_err-taken.ensures.grows)

pub loop-preserved : goal.loop-preserved
loop-preserved c = record {
  rows = rows_more c.args.problem.now c.args.die c.args.taken c.loop.taken c.in_ok-taken.taken c.args.count c.loop.counter c.args.trial.now c.loop.trial c.add_row.new.trial
      c.loop.tokens c.add_row.new.tokens (many_next (row_item c.args.problem.now c.args.taken) c.args.count [] c.args.tokens.now) c.loop-test.true c.loop.invariant.rows
      c.in_ok-taken.ensures.grows;
  few = c.in_ok-taken.ensures.few;
}

pub returns-clause-grows : goal.returns-clause-grows
returns-clause-grows c = (
  c.loop.invariant.rows.so_far.items,
  so_far_all (with_rows c.args.die) (row_item c.args.problem.now c.args.taken) c.args.count c.loop.counter c.args.trial.now c.loop.trial c.loop.tokens
      (many_next (row_item c.args.problem.now c.args.taken) c.args.count [] c.args.tokens.now) c.loop-test.false c.loop.invariant.rows.so_far,
  c.loop.invariant.rows.so_far.value,
  c.loop.invariant.rows.taken_is,
)
