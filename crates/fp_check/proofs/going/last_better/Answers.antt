use Rattle.std.proofs.Common.{sym, ap, ◌∙◌, ◌≡◌, if◌then◌else◌, cond}
use Rattle.fp_cert.specs.Trials.{is_better}
use Rattle.fp_check.proofs.Betters.{better_more, better_all}
use Rattle.fp_check.proofs.going.last_better.Goals as goal
use Rattle.fp_check.proofs.going.last_better.Goals.{then-is_better, else-is_better}

pub loop-number-preserved : goal.loop-number-preserved
loop-number-preserved c =
    let ending = sym (ap is_better c.ending.ensures) ∙ sym c.is_better.ensures.is in
    let next : (if is_better c.index-trials-number.result.ending then c.loop-number.number else c.loop-number.last) ≡ c.if-is_better.last = elim c.if-is_better.branch [
      | then-is_better w ↦ ap (λ b. cond b c.loop-number.number c.loop-number.last) (ending ∙ w.if-is_better.true) ∙ sym w.last-is
      | else-is_better w ↦ ap (λ b. cond b c.loop-number.number c.loop-number.last) (ending ∙ w.if-is_better.false) ∙ sym w.last-is
    ] in
    better_more c.args.trials.now c.loop-number.number c.loop-number.last c.if-is_better.last c.index-trials-number.result c.loop-number-test.true c.index-trials-number.is next c.loop-number.invariant

pub returns : goal.returns
returns c = better_all c.args.trials.now c.loop-number.number c.loop-number.last c.loop-number-test.false c.loop-number.invariant
