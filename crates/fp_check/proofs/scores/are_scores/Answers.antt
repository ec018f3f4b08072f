use Rattle.std.proofs.Common.{◌≡◌, List, length, true, refl, sym, ap, ◌∙◌, arith}
use Rattle.fp_tech.specs.Slots.{Slots}
use Rattle.fp_netlist.specs.Netlist.{Netlist}
use Rattle.fp_cert.specs.Endings.{has_rows}
use Rattle.fp_cert.specs.Shown.{ShownTrial}
use Rattle.fp_check.specs.Conditions.{IsScoreOf}
use Rattle.fp_check.proofs.Scored.{never, there, view_of, one_more, of_all}
use Rattle.fp_check.proofs.scores.are_scores.Goals as goal

abbrev Fact : Netlist → Slots → ShownTrial → Type 0
Fact p grid trial = has_rows trial.ending ≡ true → IsScoreOf p grid trial

pub is_score-requires-clause-view : goal.is_score-requires-clause-view
is_score-requires-clause-view c =
    let at = there c.args.run.now.trials c.trials-trials.result.now c.loop-number.number c.index-trials-number.result c.trials-trials.ensures c.loop-number-test.true c.index-trials-number.is in (
      c.requires.views.0,
      view_of c.args.problem.now c.requires.views.0 c.args.run.now c.args.views.now c.loop-number.number c.index-trials-number.result c.index-views-number.result c.requires.views.1 at c.index-views-number.is,
    )

pub is_score-requires-clause-listed : goal.is_score-requires-clause-listed
is_score-requires-clause-listed c =
    let at = there c.args.run.now.trials c.trials-trials.result.now c.loop-number.number c.index-trials-number.result c.trials-trials.ensures c.loop-number-test.true c.index-trials-number.is in
    c.requires.listed c.loop-number.number c.index-trials-number.result at

pub returns-then-not-is_score : goal.returns-then-not-is_score
returns-then-not-is_score c = λ grid are.
    let at = there c.args.run.now.trials c.trials-trials.result.now c.loop-number.number c.index-trials-number.result c.trials-trials.ensures c.loop-number-test.true c.index-trials-number.is in
    let view = view_of c.args.problem.now grid c.args.run.now c.args.views.now c.loop-number.number c.index-trials-number.result c.index-views-number.result are at c.index-views-number.is in
    (never _, λ all. sym c.if-not-is_score.true ∙ (c.is_score.ensures grid view).1 (all c.loop-number.number c.index-trials-number.result at))

pub loop-number-preserved : goal.loop-number-preserved
loop-number-preserved c = λ grid are.
    let at = there c.args.run.now.trials c.trials-trials.result.now c.loop-number.number c.index-trials-number.result c.trials-trials.ensures c.loop-number-test.true c.index-trials-number.is in
    let view = view_of c.args.problem.now grid c.args.run.now c.args.views.now c.loop-number.number c.index-trials-number.result c.index-views-number.result are at c.index-views-number.is in
    one_more (Fact c.args.problem.now grid) c.args.run.now.trials c.loop-number.number c.index-trials-number.result at ((c.is_score.ensures grid view).0 c.if-not-is_score.false) (c.loop-number.invariant grid are)

pub returns : goal.returns
returns c = λ grid are.
    let end = ap (λ (trials : List ShownTrial). length trials) c.trials-trials.ensures in
    (λ _. of_all (Fact c.args.problem.now grid) c.args.run.now.trials c.loop-number.number (omega (arith, c.loop-number-test.false, end)) (c.loop-number.invariant grid are), λ _. refl)
