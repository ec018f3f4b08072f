use Rattle.std.proofs.lemmas.Result.{err_from_is_err_and}
use Rattle.fp_cert.proofs.TrialRead.{count_fails, trials_fail, answer_fails, run_ends}
use Rattle.fp_cert.proofs.reader.fill_run.Goals as goal

pub returns-in_err-count : goal.returns-in_err-count
returns-in_err-count c =
    let p = err_from_is_err_and c.from_residual.result c.from_residual.ensures.1 in
    rw (p.1, p.2) (count_fails c.in_err-count.field-0.0 c.args.problem.now c.args.slots c.args.run.now c.args.tokens.now c.in_err-count.ensures.gives)

pub returns-in_err-many_trials : goal.returns-in_err-many_trials
returns-in_err-many_trials c =
    let p = err_from_is_err_and c.from_residual-in_err-many_trials.result c.from_residual-in_err-many_trials.ensures.1 in
    rw (p.1, p.2) (trials_fail c.in_err-many_trials.field-0.0 c.args.problem.now c.args.slots c.in_ok-count.count c.args.run.now c.args.tokens.now c.number_line.new.tokens c.in_ok-count.ensures.gives
    c.in_err-many_trials.ensures)

pub returns-in_err-answer : goal.returns-in_err-answer
returns-in_err-answer c =
    let p = err_from_is_err_and c.from_residual-in_err-answer.result c.from_residual-in_err-answer.ensures.1 in
    rw (p.1, p.2) (answer_fails c.in_err-answer.field-0.0 c.args.problem.now c.args.slots c.in_ok-count.count c.args.run.now c.many_trials.new.run c.args.tokens.now c.number_line.new.tokens
    c.many_trials.new.tokens c.in_ok-count.ensures.gives c.in_ok-many_trials.ensures c.in_err-answer.ensures.gives)

pub returns : goal.returns
returns c =
    run_ends c.end.result c.args.problem.now c.args.slots c.in_ok-count.count c.in_ok-answer.answer c.args.run.now c.many_trials.new.run c.set_answer.new.self c.args.tokens.now
    c.number_line.new.tokens c.many_trials.new.tokens c.number_line-2.new.tokens c.end.new.self c.requires c.in_ok-count.ensures.gives c.in_ok-many_trials.ensures c.in_ok-answer.ensures.gives
    c.set_answer.ensures c.end.ensures.ends
