use Rattle.std.proofs.Common.{[]}
use Rattle.std.proofs.lemmas.Result.{err_from_is_err_and}
use Rattle.fp_text.specs.Reading.{many_next}
use Rattle.fp_cert.specs.CertReading.{trial_item}
use Rattle.fp_cert.specs.Growing.{with_trials}
use Rattle.fp_cert.proofs.ReadLoops.{trials_none, trials_more, trials_fault, so_far_all}
use Rattle.fp_cert.proofs.reader.many_trials.Goals as goal

pub loop-init : goal.loop-init
loop-init c = trials_none c.args.problem.now c.args.slots c.args.count c.args.run.now c.args.tokens.now

pub returns-in_err-add_trial : goal.returns-in_err-add_trial
returns-in_err-add_trial c =
    let p = err_from_is_err_and c.from_residual.result c.from_residual.ensures.1 in
    rw (p.1, p.2) (trials_fault c.in_err-add_trial.field-0.0 c.args.problem.now c.args.slots c.args.count c.loop.counter c.args.run.now c.loop.run c.loop.tokens
    (many_next (trial_item c.args.problem.now c.args.slots) c.args.count [] c.args.tokens.now) c.loop-test.true c.requires c.loop.invariant c.in_err-add_trial.ensures)

pub loop-preserved : goal.loop-preserved
loop-preserved c =
    trials_more c.args.problem.now c.args.slots c.args.count c.loop.counter c.args.run.now c.loop.run c.add_trial.new.run c.loop.tokens c.add_trial.new.tokens
    (many_next (trial_item c.args.problem.now c.args.slots) c.args.count [] c.args.tokens.now) c.loop-test.true c.requires c.loop.invariant c.in_ok-add_trial.ensures

pub returns : goal.returns
returns c = (
  c.loop.invariant.items,
  so_far_all with_trials (trial_item c.args.problem.now c.args.slots) c.args.count c.loop.counter c.args.run.now c.loop.run c.loop.tokens
      (many_next (trial_item c.args.problem.now c.args.slots) c.args.count [] c.args.tokens.now) c.loop-test.false c.loop.invariant,
  c.loop.invariant.value,
)
