use Rattle.std.proofs.Common.{◌≡◌, ◌∙◌, length, map, ap, sym, subst}
use Rattle.fp_place.specs.declared.placement.Spot.{Spot}
use Rattle.fp_cert.specs.Shown.{ShownTrial}
use Rattle.fp_cert.specs.Standing.{spots_shown}
use Rattle.fp_flow.specs.Steps.{IsLaidFrom}
use Rattle.fp_flow.proofs.Layouts.{AreBest, both_best, both_else, both_tops}
use Rattle.fp_flow.proofs.Laying.{length-xs, xs_range, laid_from}
use Rattle.fp_flow.proofs.layout.lay.Goals as goal
use Rattle.fp_flow.proofs.layout.lay.Goals.{After-deref}

best : (c : After-deref) → AreBest c.args.problem.now c.args.targets.now c.args.top c.args.bottom c.place_both.new.trial
best c =
    both_best c.args.problem.now c.args.targets.now c.args.top c.args.bottom c.new-trial.result c.place_both.new.trial c.requires.top_lanes c.requires.bottom_lanes
    (ap (λ (t : ShownTrial). t.top) c.new-trial.ensures) (ap (λ (t : ShownTrial). t.bottom) c.new-trial.ensures) c.in_ok-xs.ensures.rows

xs_are : (c : After-deref) → c.deref.result.now ≡ map (λ (spot : Spot). spot.x) (spots_shown c.args.problem.now c.place_both.new.trial)
xs_are c = c.deref.ensures.value ∙ c.in_ok-xs.ensures.xs

pub build-placement-requires-clause-xs : goal.build-placement-requires-clause-xs
build-placement-requires-clause-xs c = ap length (xs_are c) ∙ length-xs c.args.problem.now c.place_both.new.trial

pub build-placement-requires-clause-range : goal.build-placement-requires-clause-range
build-placement-requires-clause-range c =
    xs_range c.args.problem.now c.args.targets.now c.args.top c.args.bottom c.place_both.new.trial c.deref.result.now c.cells-cells.ensures.sound (best c) c.requires.once (xs_are c)

pub returns : goal.returns
returns c =
    let at = (goal.at.returns c).After-deref in
    let p = c.args.problem.now in
    let placed = c.in_ok-placement.field-0 in
    let is = c.in_ok-placement.ensures in
    subst (λ (t : ShownTrial). IsLaidFrom p c.args.top c.args.bottom c.args.targets.now t placed) (sym c.trial.view_is)
    (laid_from p c.args.targets.now c.args.top c.args.bottom c.place_both.new.trial placed c.deref.result.now (best at) c.requires.once c.requires.targets c.requires.near
    (both_else p c.args.targets.now c.args.top c.args.bottom c.new-trial.result c.place_both.new.trial c.in_ok-xs.ensures.rows ∙ ap (λ (t : ShownTrial). t.cuts) c.new-trial.ensures)
    (both_tops p c.args.targets.now c.args.top c.args.bottom c.new-trial.result c.place_both.new.trial c.in_ok-xs.ensures.rows ∙ ap (λ (t : ShownTrial). t.top_cells) c.new-trial.ensures)
    (xs_are at) is.of_problem is.top is.bottom is.xs is.terminals is.agree)
