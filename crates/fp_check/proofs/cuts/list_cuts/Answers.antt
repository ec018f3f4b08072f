use Rattle.std.proofs.Common.{◌≡◌, List, length, true, refl, sym, ap, ◌∙◌, arith}
use Rattle.fp_cert.specs.Endings.{has_rows}
use Rattle.fp_cert.specs.Shown.{ShownTrial}
use Rattle.fp_netlist.specs.Netlist.{Netlist}
use Rattle.fp_check.specs.Conditions.{AreCutsListed}
use Rattle.fp_check.proofs.Scored.{never, there, view_of, one_more, of_all}
use Rattle.fp_check.proofs.cuts.list_cuts.Goals as goal

abbrev Fact : Netlist → ShownTrial → Type 0
Fact p trial = has_rows trial.ending ≡ true → AreCutsListed p trial

pub lists_cuts-requires-clause-view : goal.lists_cuts-requires-clause-view
lists_cuts-requires-clause-view c =
    let at = there c.args.run.now.trials c.trials-trials.result.now c.loop-number.number c.index-trials-number.result c.trials-trials.ensures c.loop-number-test.true c.index-trials-number.is in
    view_of c.args.problem.now c.args.grid.now c.args.run.now c.args.views.now c.loop-number.number c.index-trials-number.result c.index-views-number.result c.requires.views at c.index-views-number.is

pub returns-then-not-branch : goal.returns-then-not-branch
returns-then-not-branch c =
    let at = there c.args.run.now.trials c.trials-trials.result.now c.loop-number.number c.index-trials-number.result c.trials-trials.ensures c.loop-number-test.true c.index-trials-number.is in
    (never _, λ all. sym c.if-not-branch.true ∙ c.in_ok-lists_cuts.ensures.1 (all c.loop-number.number c.index-trials-number.result at))

pub loop-number-preserved : goal.loop-number-preserved
loop-number-preserved c =
    let at = there c.args.run.now.trials c.trials-trials.result.now c.loop-number.number c.index-trials-number.result c.trials-trials.ensures c.loop-number-test.true c.index-trials-number.is in
    one_more (Fact c.args.problem.now) c.args.run.now.trials c.loop-number.number c.index-trials-number.result at (c.in_ok-lists_cuts.ensures.0 c.if-not-branch.false) c.loop-number.invariant

pub returns : goal.returns
returns c =
    let end = ap (λ (trials : List ShownTrial). length trials) c.trials-trials.ensures in
    (λ _. of_all (Fact c.args.problem.now) c.args.run.now.trials c.loop-number.number (omega (arith, c.loop-number-test.false, end)) c.loop-number.invariant, λ _. refl)
