use Rattle.std.proofs.Common.{◌≡◌, Ok, Err, subst}
use Rattle.std.proofs.lemmas.Result.{err_from_is_err_and}
use Rattle.fp_text.specs.Reading.{Left, GivesFault}
use Rattle.fp_cert.specs.CertReading.{version_next}
use Rattle.fp_cert.proofs.TrialRead.{version_fails, limit_fails, whole_read}
use Rattle.fp_cert.proofs.reader.whole_run.Goals as goal

pub returns-in_err-cost : goal.returns-in_err-cost
returns-in_err-cost c =
    let p = err_from_is_err_and c.from_residual.result c.from_residual.ensures.1 in
    let fails = subst (λ (l : Left). GivesFault c.in_err-cost.field-0.0 (version_next l)) c.new-tokens.ensures.whole c.in_err-cost.ensures.gives in
    rw (p.1, p.2) (version_fails c.in_err-cost.field-0.0 c.args.problem.now c.args.slots c.args.bytes.now fails)

pub returns-in_err-limit : goal.returns-in_err-limit
returns-in_err-limit c =
    let p = err_from_is_err_and c.from_residual-in_err-limit.result c.from_residual-in_err-limit.ensures.1 in
    let version = subst (λ (l : Left). version_next l ≡ Ok (c.in_ok-cost.cost, c.version.new.tokens)) c.new-tokens.ensures.whole c.in_ok-cost.ensures.gives in
    rw (p.1, p.2) (limit_fails c.in_err-limit.field-0.0 c.args.problem.now c.args.slots c.in_ok-cost.cost c.args.bytes.now c.version.new.tokens version c.in_err-limit.ensures.gives)

pub returns-in_err-fill_run : goal.returns-in_err-fill_run
returns-in_err-fill_run c =
    let p = err_from_is_err_and c.from_residual-in_err-fill_run.result c.from_residual-in_err-fill_run.ensures.1 in
    let version = subst (λ (l : Left). version_next l ≡ Ok (c.in_ok-cost.cost, c.version.new.tokens)) c.new-tokens.ensures.whole c.in_ok-cost.ensures.gives in
    rw (p.1, p.2) (whole_read {U = Unit {0}} (Err c.in_err-fill_run.field-0.0) c.args.problem.now c.args.slots c.in_ok-cost.cost c.in_ok-limit.limit c.args.bytes.now c.new-run.result
    c.fill_run.new.run c.version.new.tokens c.number_line.new.tokens c.new-run.ensures version c.in_ok-limit.ensures.gives c.in_err-fill_run.ensures)

pub returns : goal.returns
returns c =
    let version = subst (λ (l : Left). version_next l ≡ Ok (c.in_ok-cost.cost, c.version.new.tokens)) c.new-tokens.ensures.whole c.in_ok-cost.ensures.gives in
    whole_read {U = Unit {0}} (Ok tt) c.args.problem.now c.args.slots c.in_ok-cost.cost c.in_ok-limit.limit c.args.bytes.now c.new-run.result c.fill_run.new.run c.version.new.tokens
    c.number_line.new.tokens c.new-run.ensures version c.in_ok-limit.ensures.gives c.in_ok-fill_run.ensures
