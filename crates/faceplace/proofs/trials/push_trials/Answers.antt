use Rattle.std.proofs.Common.{◌≡◌, ◌+◌, ◌++◌, take, Some, slice_get, sym, ap, ◌∙◌, append_assoc, arith}
use Rattle.std.proofs.lemmas.List.{append-nil}
use Rattle.std.proofs.lemmas.Option.{slice_get-get_or}
use Rattle.faceplace.specs.Trials.{trial_line, trial_lines}
use Rattle.faceplace.proofs.Placings.{no_trials, trials_more}
use Rattle.faceplace.proofs.trials.push_trials.Goals as goal

pub loop-number-init : goal.loop-number-init
loop-number-init c = sym (ap (λ lines. c.args.report.now.items ++ lines) (no_trials c.args.problem.now 0) ∙ append-nil c.args.report.now.items)

pub trial_line-requires : goal.trial_line-requires
trial_line-requires c =
    let number = c.loop-number.number in
    let trial = c.index-trials-number.result in
    let at : slice_get c.args.trials.now number ≡ Some trial = slice_get-get_or c.args.trials.now number trial c.loop-number-test.true ∙ ap Some (sym c.index-trials-number.is) in
    c.requires number trial at

pub loop-number-preserved : goal.loop-number-preserved
loop-number-preserved c =
    let p = c.args.problem.now in
    let trials = c.args.trials.now in
    let number = c.loop-number.number in
    let trial = c.index-trials-number.result in
    let at : slice_get trials number ≡ Some trial = slice_get-get_or trials number trial c.loop-number-test.true ∙ ap Some (sym c.index-trials-number.is) in
    let from : number ≡ 0 + number = omega arith in
    c.in_ok-extend_from_slice.ensures.items
    ∙ ap (λ line. c.loop-number.report.items ++ line) (c.deref.ensures.value ∙ c.in_ok-line.ensures)
    ∙ ap (λ before. before ++ trial_line p number trial) c.loop-number.invariant
    ∙ append_assoc c.args.report.now.items (trial_lines p 0 (take number trials)) (trial_line p number trial)
    ∙ ap (λ lines. c.args.report.now.items ++ lines)
    (ap (λ n. trial_lines p 0 (take number trials) ++ trial_line p n trial) from ∙ trials_more p 0 trials number trial at)
