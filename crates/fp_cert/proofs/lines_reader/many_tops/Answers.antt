use Rattle.std.proofs.Common.{[]}
use Rattle.std.proofs.lemmas.Result.{err_from_is_err_and}
use Rattle.fp_text.specs.Reading.{many_next}
use Rattle.fp_cert.specs.CertReading.{top_next}
use Rattle.fp_cert.specs.Growing.{with_tops}
use Rattle.fp_cert.proofs.ReadLoops.{tops_none, tops_more, so_far_fault, so_far_all}
use Rattle.fp_cert.proofs.lines_reader.many_tops.Goals as goal

pub loop-init : goal.loop-init
loop-init c = tops_none (top_next c.args.problem.now) c.args.count c.args.trial.now c.args.tokens.now

pub returns-in_err-add_top : goal.returns-in_err-add_top
returns-in_err-add_top c =
    let p = err_from_is_err_and c.from_residual.result c.from_residual.ensures.1 in
    rw (p.1, p.2) (so_far_fault c.in_err-add_top.field-0.0 with_tops (λ before. top_next c.args.problem.now) c.args.count c.loop.counter c.args.trial.now c.loop.trial c.loop.tokens
    (many_next (λ before. top_next c.args.problem.now) c.args.count [] c.args.tokens.now) c.loop-test.true c.loop.invariant c.in_err-add_top.ensures)

pub loop-preserved : goal.loop-preserved
loop-preserved c =
    tops_more (top_next c.args.problem.now) c.args.count c.loop.counter c.args.trial.now c.loop.trial c.add_top.new.trial c.loop.tokens c.add_top.new.tokens
    (many_next (λ before. top_next c.args.problem.now) c.args.count [] c.args.tokens.now) c.loop-test.true c.loop.invariant c.in_ok-add_top.ensures

pub returns : goal.returns
returns c = (
  c.loop.invariant.items,
  so_far_all with_tops (λ before. top_next c.args.problem.now) c.args.count c.loop.counter c.args.trial.now c.loop.trial c.loop.tokens
      (many_next (λ before. top_next c.args.problem.now) c.args.count [] c.args.tokens.now) c.loop-test.false c.loop.invariant,
  c.loop.invariant.value,
)
