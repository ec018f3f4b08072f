use Rattle.std.proofs.lemmas.Result.{err_from_is_err_and}
use Rattle.fp_cert.proofs.TrialRead.{top_fails, bottom_fails, cuts_fail, score_fails, lines_read}
use Rattle.fp_cert.proofs.lines_reader.fill_lines.Goals as goal

pub returns-in_err-taken : goal.returns-in_err-taken
returns-in_err-taken c =
    let p = err_from_is_err_and c.from_residual.result c.from_residual.ensures.1 in
    rw (p.1, p.2) (top_fails c.in_err-taken.field-0.0 c.args.problem.now c.args.slots c.args.ending c.args.tokens.now c.in_err-taken.ensures.grows)

pub returns-in_err-rows : goal.returns-in_err-rows
returns-in_err-rows c =
    let p = err_from_is_err_and c.from_residual-in_err-rows.result c.from_residual-in_err-rows.ensures.1 in
    rw (p.1, p.2) (bottom_fails c.in_err-rows.field-0.0 c.args.problem.now c.args.slots c.args.ending c.args.trial.now c.rows.new.trial c.in_ok-taken.taken c.args.tokens.now c.rows.new.tokens
    c.in_ok-taken.ensures.grows c.in_err-rows.ensures.grows)

pub returns-in_err-cuts : goal.returns-in_err-cuts
returns-in_err-cuts c =
    let p = err_from_is_err_and c.from_residual-in_err-cuts.result c.from_residual-in_err-cuts.ensures.1 in
    rw (p.1, p.2) (cuts_fail c.in_err-cuts.field-0.0 c.args.problem.now c.args.slots c.args.ending c.args.trial.now c.rows.new.trial c.rows-2.new.trial c.in_ok-taken.taken c.in_ok-rows.field-0
    c.args.tokens.now c.rows.new.tokens c.rows-2.new.tokens c.in_ok-taken.ensures.grows c.in_ok-rows.ensures.grows c.in_err-cuts.ensures)

pub returns-in_err-score : goal.returns-in_err-score
returns-in_err-score c =
    let p = err_from_is_err_and c.from_residual-in_err-score.result c.from_residual-in_err-score.ensures.1 in
    rw (p.1, p.2) (score_fails c.in_err-score.field-0.0 c.args.problem.now c.args.slots c.args.ending c.args.trial.now c.rows.new.trial c.rows-2.new.trial c.cuts.new.trial c.in_ok-taken.taken
    c.in_ok-rows.field-0 c.args.tokens.now c.rows.new.tokens c.rows-2.new.tokens c.cuts.new.tokens c.in_ok-taken.ensures.grows c.in_ok-rows.ensures.grows c.in_ok-cuts.ensures c.in_err-score.ensures)

pub returns : goal.returns
returns c =
    lines_read c.args.problem.now c.args.slots c.args.ending c.args.trial.now c.rows.new.trial c.rows-2.new.trial c.cuts.new.trial c.end.new.self c.in_ok-taken.taken c.in_ok-rows.field-0
    c.in_ok-score.score c.args.tokens.now c.rows.new.tokens c.rows-2.new.tokens c.cuts.new.tokens c.score.new.tokens c.requires c.in_ok-taken.ensures.grows c.in_ok-rows.ensures.grows
    c.in_ok-cuts.ensures c.in_ok-score.ensures c.end.ensures
