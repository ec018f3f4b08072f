use Rattle.std.proofs.Common.{◌≡◌, ◌∙◌, ◌<◌, ◌+◌, ℕ, List, Some, length, slice_get, ap, sym, subst, arith}
use Rattle.std.specs.Prelude.{Bool}
use Rattle.std.proofs.lemmas.Option.{slice_get-get_or}
use Rattle.fp_cert.specs.Shown.{ShownTrial}
use Rattle.fp_flow.specs.Chains.{IsAdded}
use Rattle.fp_flow.proofs.Chaining.{added_goes, added_ends, added_behind, ends_full}
use Rattle.fp_flow.proofs.chain.go_on.Goals as goal
use Rattle.fp_flow.proofs.chain.go_on.Goals.{After-trials, After-index-trials-number, In_ok-add}

below : (c : After-trials) → c.loop-number.number < length c.trials.result.now
below c = omega (arith, ap length c.trials.ensures, c.loop-number.invariant.0.answer_is, c.loop-number.invariant.1)

pub bounds-trials-number : goal.bounds-trials-number
bounds-trials-number c = below c

-- the last trial so far
base_at : (c : After-index-trials-number) → slice_get c.loop-number.run.trials c.loop-number.run.answer ≡ Some c.index-trials-number.result
base_at c =
    ap (slice_get c.loop-number.run.trials) c.loop-number.invariant.1 ∙ ap (λ (list : List ShownTrial). slice_get list c.loop-number.number) (sym c.trials.ensures)
    ∙ slice_get-get_or c.trials.result.now c.loop-number.number c.index-trials-number.result
    (omega (arith, ap length c.trials.ensures, c.loop-number.invariant.0.answer_is, c.loop-number.invariant.1))
    ∙ ap Some (sym c.index-trials-number.is)

pub step-requires-clause-base : goal.step-requires-clause-base
step-requires-clause-base c = c.loop-number.invariant.0.last c.index-trials-number.result (base_at (goal.at.step-requires-clause-base c).After-index-trials-number)

pub returns-then-not-branch-clause-whole : goal.returns-then-not-branch-clause-whole
returns-then-not-branch-clause-whole c =
    let run = c.loop-number.run in
    let made = c.in_ok-made.made in
    added_ends c.args.problem.now c.args.grid.now c.args.dies.now c.args.limit (c.loop-number.number + 1) run c.add.new.run c.loop-number.answer c.add.new.answer c.index-trials-number.result
    made.trial made.better c.loop-number.invariant.0 (base_at (goal.at.returns-then-not-branch-clause-whole c).After-index-trials-number) c.in_ok-made.ensures.next
    (omega (arith, c.loop-number-test.true, c.loop-number.invariant.1))
    (subst (λ (goes : Bool). IsAdded (c.loop-number.number + 1) made.trial made.better goes run c.add.new.run c.loop-number.answer c.add.new.answer) c.if-not-branch.true c.in_ok-add.ensures)

first_stays : (c : In_ok-add) → slice_get c.add.new.run.trials 0 ≡ slice_get c.args.run.now.trials 0
first_stays c =
    added_behind (c.loop-number.number + 1) c.loop-number.run c.add.new.run c.loop-number.answer c.add.new.answer c.in_ok-made.made.trial c.in_ok-made.made.better c.in_ok-add.field-0
    (omega (arith, c.loop-number.invariant.0.answer_is)) c.in_ok-add.ensures ∙ c.loop-number.invariant.2

pub returns-then-not-branch-clause-first : goal.returns-then-not-branch-clause-first
returns-then-not-branch-clause-first c = first_stays (goal.at.returns-then-not-branch-clause-first c).In_ok-add

pub loop-number-preserved : goal.loop-number-preserved
loop-number-preserved c =
    let run = c.loop-number.run in
    let made = c.in_ok-made.made in
    let goes = added_goes c.args.problem.now c.args.grid.now c.args.dies.now c.args.limit (c.loop-number.number + 1) run c.add.new.run c.loop-number.answer c.add.new.answer c.index-trials-number.result
    made.trial made.better c.loop-number.invariant.0 (base_at (goal.at.loop-number-preserved c).After-index-trials-number) c.in_ok-made.ensures.next
    (ap (λ (n : ℕ). n + 1) (sym c.loop-number.invariant.1))
    (subst (λ (b : Bool). IsAdded (c.loop-number.number + 1) made.trial made.better b run c.add.new.run c.loop-number.answer c.add.new.answer) c.if-not-branch.false c.in_ok-add.ensures) in
    (goes.0, goes.1, first_stays (goal.at.loop-number-preserved c).In_ok-add, c.in_ok-made.ensures.room)

pub returns-clause-whole : goal.returns-clause-whole
returns-clause-whole c =
    ends_full c.args.problem.now c.args.grid.now c.args.dies.now c.args.limit c.loop-number.run c.loop-number.answer c.loop-number.invariant.0
    (omega (arith, c.loop-number.invariant.1, c.loop-number-test.false, c.loop-number.auto.number-end)) c.requires.some
