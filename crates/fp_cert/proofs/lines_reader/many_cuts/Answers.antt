use Rattle.std.proofs.Common.{[]}
use Rattle.std.proofs.lemmas.Result.{err_from_is_err_and}
use Rattle.fp_text.specs.Reading.{many_next}
use Rattle.fp_cert.specs.CertReading.{cut_next}
use Rattle.fp_cert.specs.Growing.{with_cuts}
use Rattle.fp_cert.proofs.ReadLoops.{cuts_none, cuts_more, so_far_fault, so_far_all}
use Rattle.fp_cert.proofs.lines_reader.many_cuts.Goals as goal

pub loop-init : goal.loop-init
loop-init c = cuts_none (cut_next c.args.problem.now c.args.slots) c.args.count c.args.trial.now c.args.tokens.now

pub returns-in_err-add_cut : goal.returns-in_err-add_cut
returns-in_err-add_cut c =
    let p = err_from_is_err_and c.from_residual.result c.from_residual.ensures.1 in
    rw (p.1, p.2) (so_far_fault c.in_err-add_cut.field-0.0 with_cuts (λ before. cut_next c.args.problem.now c.args.slots) c.args.count c.loop.counter c.args.trial.now c.loop.trial c.loop.tokens
    (many_next (λ before. cut_next c.args.problem.now c.args.slots) c.args.count [] c.args.tokens.now) c.loop-test.true c.loop.invariant c.in_err-add_cut.ensures)

pub loop-preserved : goal.loop-preserved
loop-preserved c =
    cuts_more (cut_next c.args.problem.now c.args.slots) c.args.count c.loop.counter c.args.trial.now c.loop.trial c.add_cut.new.trial c.loop.tokens c.add_cut.new.tokens
    (many_next (λ before. cut_next c.args.problem.now c.args.slots) c.args.count [] c.args.tokens.now) c.loop-test.true c.loop.invariant c.in_ok-add_cut.ensures

pub returns : goal.returns
returns c = (
  c.loop.invariant.items,
  so_far_all with_cuts (λ before. cut_next c.args.problem.now c.args.slots) c.args.count c.loop.counter c.args.trial.now c.loop.trial c.loop.tokens
      (many_next (λ before. cut_next c.args.problem.now c.args.slots) c.args.count [] c.args.tokens.now) c.loop-test.false c.loop.invariant,
  c.loop.invariant.value,
)
