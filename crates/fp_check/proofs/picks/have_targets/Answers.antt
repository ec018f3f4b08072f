use Rattle.std.proofs.Common.{◌≡◌, ◌+◌, ◌-◌, ◌<◌, true, length, ap, arith}
use Rattle.std.proofs.lemmas.Option.{slice_get_within}
use Rattle.fp_score.specs.Target.{AreTargets}
use Rattle.fp_cert.specs.Endings.{has_rows}
use Rattle.fp_cert.specs.Shown.{ShownTrial}
use Rattle.fp_cert.specs.Standing.{dies_shown, places_shown, targets_shown}
use Rattle.fp_check.proofs.Pairs.{at_both, next_more, refuted, none_where, all_where}
use Rattle.fp_check.proofs.Pickings.{AreNext, are_next, layout_placed, layout_targets, targets_same}
use Rattle.fp_check.proofs.picks.have_targets.Goals as goal
use Rattle.fp_check.proofs.picks.have_targets.Goals.{After-index-views-number-in-loop-number}

-- the trial that is looked at, and the one before it
next : (c : After-index-views-number-in-loop-number)
    → AreNext c.args.problem.now c.requires.views.0 c.args.run.now (c.loop-number.number - 1) c.loop-number.number c.index-views-number.result c.index-views-number-in-loop-number.result
next c =
    are_next c.args.problem.now c.requires.views.0 c.args.run.now c.args.views.now c.loop-number.number c.index-views-number.result c.index-views-number-in-loop-number.result
    c.requires.views.1 c.requires.bases c.loop-number.auto.number (omega (arith, ap length c.trials-number-end.ensures, c.loop-number-test.true)) c.index-views-number.is c.index-views-number-in-loop-number.is

pub has_targets-requires-clause-base : goal.has_targets-requires-clause-base
has_targets-requires-clause-base c = layout_placed c.args.problem.now c.requires.views.0 (next c).base c.index-views-number.result (next c).base_is

pub has_targets-requires-clause-dies : goal.has_targets-requires-clause-dies
has_targets-requires-clause-dies c = (next c).trial_is.many

pub has_targets-requires-clause-targets : goal.has_targets-requires-clause-targets
has_targets-requires-clause-targets c = layout_targets c.args.problem.now c.requires.views.0 (next c).trial c.index-views-number-in-loop-number.result (next c).trial_is

pub returns-then-not-branch : goal.returns-then-not-branch
returns-then-not-branch c =
    let n = next ((goal.at.returns-then-not-branch c).After-index-views-number-in-loop-number) in
    let same = targets_same c.args.problem.now c.requires.views.0 c.args.run.now (c.loop-number.number - 1) c.loop-number.number c.index-views-number.result c.index-views-number-in-loop-number.result n in
    none_where (λ all. refuted c.in_ok-has_targets.field-0 c.in_ok-has_targets.ensures c.if-not-branch.true
    (same.1 (all (c.loop-number.number - 1) n.base n.trial n.base_there n.trial_there)))

pub loop-number-preserved : goal.loop-number-preserved
loop-number-preserved c =
    let p = c.args.problem.now in
    let n = next ((goal.at.loop-number-preserved c).After-index-views-number-in-loop-number) in
    let same = targets_same p c.requires.views.0 c.args.run.now (c.loop-number.number - 1) c.loop-number.number c.index-views-number.result c.index-views-number-in-loop-number.result n in
    next_more _ c.loop-number.number c.loop-number.auto.number c.loop-number.invariant
    (at_both (λ (base trial : ShownTrial). has_rows trial.ending ≡ true → AreTargets p (places_shown p base) (dies_shown p trial) (targets_shown p trial))
    c.args.run.now.trials c.args.run.now.trials (c.loop-number.number - 1) (c.loop-number.number - 1 + 1) n.base n.trial n.base_there n.trial_there
    (same.0 (c.in_ok-has_targets.ensures.0 c.if-not-branch.false)))

pub returns : goal.returns
returns c =
    all_where (λ number base trial there also.
    let below : number + 1 < c.loop-number.number =
    omega (arith, slice_get_within c.args.run.now.trials (number + 1) trial also, ap length c.trials-number-end.ensures, c.loop-number-test.false) in
    c.loop-number.invariant number below base trial there also)
