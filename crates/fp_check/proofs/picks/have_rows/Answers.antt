use Rattle.std.proofs.Common.{◌≡◌, ◌+◌, ◌-◌, ◌<◌, length, ap, sym, subst, ◌∙◌, arith}
use Rattle.std.proofs.lemmas.Option.{same_Some, slice_get_within}
use Rattle.fp_place.specs.Settled.{KeepRules}
use Rattle.fp_cert.specs.Shown.{ShownTrial}
use Rattle.fp_check.specs.Conditions.{IsPick}
use Rattle.fp_check.proofs.Pairs.{at_both, read_at, next_more, refuted, none_where, all_where}
use Rattle.fp_check.proofs.Pickings.{AreNext, are_next, layout_placed, layout_near, rows_same}
use Rattle.fp_check.proofs.picks.have_rows.Goals as goal
use Rattle.fp_check.proofs.picks.have_rows.Goals.{After-index-views-number-in-loop-number}

-- the trial that is looked at, and the one before it
next : (c : After-index-views-number-in-loop-number)
    → AreNext c.args.problem.now c.requires.views.0 c.args.run.now (c.loop-number.number - 1) c.loop-number.number c.index-views-number.result c.index-views-number-in-loop-number.result
next c =
    are_next c.args.problem.now c.requires.views.0 c.args.run.now c.args.views.now c.loop-number.number c.index-views-number.result c.index-views-number-in-loop-number.result
    c.requires.views.1 c.requires.bases c.loop-number.auto.number (omega (arith, ap length c.trials-trials.ensures, c.loop-number-test.true)) c.index-views-number.is c.index-views-number-in-loop-number.is

-- the ending that is looked at is the trial's
ending_is : (c : After-index-views-number-in-loop-number) → c.ending.result ≡ (next c).trial.ending
ending_is c =
    let read = read_at c.trials-trials.result.now c.args.run.now.trials c.loop-number.number c.index-trials-number.result c.trials-trials.ensures c.loop-number-test.true c.index-trials-number.is in
    c.ending.ensures ∙ ap (λ (trial : ShownTrial). trial.ending) (same_Some c.index-trials-number.result (next c).trial (sym read ∙ (next c).trial_at))

pub has_rows-requires-clause-base : goal.has_rows-requires-clause-base
has_rows-requires-clause-base c = layout_placed c.args.problem.now c.requires.views.0 (next c).base c.index-views-number.result (next c).base_is

pub has_rows-requires-clause-layout : goal.has_rows-requires-clause-layout
has_rows-requires-clause-layout c =
    let n = next c in
    layout_near c.args.problem.now c.requires.views.0 c.args.run.now (c.loop-number.number - 1) c.loop-number.number c.index-views-number.result c.index-views-number-in-loop-number.result n
    c.cells-cells.ensures.sound (c.requires.targets (c.loop-number.number - 1) n.base n.trial n.base_there n.trial_there)

pub has_rows-requires-clause-rules : goal.has_rows-requires-clause-rules
has_rows-requires-clause-rules c =
    let n = next c in
    subst (KeepRules c.args.problem.now) (sym n.trial_is.dies_are) (c.requires.rules (c.loop-number.number - 1) n.base n.trial n.base_there n.trial_there)

pub returns-then-not-branch : goal.returns-then-not-branch
returns-then-not-branch c =
    let at = (goal.at.returns-then-not-branch c).After-index-views-number-in-loop-number in
    let n = next at in
    let same = rows_same c.args.problem.now c.requires.views.0 c.args.run.now (c.loop-number.number - 1) c.loop-number.number c.index-views-number.result c.index-views-number-in-loop-number.result n
    c.ending.result (ending_is at) in
    none_where (λ all. refuted c.in_ok-has_rows.field-0 c.in_ok-has_rows.ensures c.if-not-branch.true
    (same.1 (all (c.loop-number.number - 1) n.base n.trial n.base_there n.trial_there)))

pub loop-number-preserved : goal.loop-number-preserved
loop-number-preserved c =
    let p = c.args.problem.now in
    let at = (goal.at.loop-number-preserved c).After-index-views-number-in-loop-number in
    let n = next at in
    let same = rows_same p c.requires.views.0 c.args.run.now (c.loop-number.number - 1) c.loop-number.number c.index-views-number.result c.index-views-number-in-loop-number.result n
    c.ending.result (ending_is at) in
    next_more _ c.loop-number.number c.loop-number.auto.number c.loop-number.invariant
    (at_both (λ (base trial : ShownTrial). IsPick p base trial trial.ending)
    c.args.run.now.trials c.args.run.now.trials (c.loop-number.number - 1) (c.loop-number.number - 1 + 1) n.base n.trial n.base_there n.trial_there
    (same.0 (c.in_ok-has_rows.ensures.0 c.if-not-branch.false)))

pub returns : goal.returns
returns c =
    all_where (λ number base trial there also.
    let below : number + 1 < c.loop-number.number =
    omega (arith, slice_get_within c.args.run.now.trials (number + 1) trial also, ap length c.trials-trials.ensures, c.loop-number-test.false) in
    c.loop-number.invariant number below base trial there also)
