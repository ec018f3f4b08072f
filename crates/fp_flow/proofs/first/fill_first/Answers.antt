use Rattle.std.proofs.Common.{◌∙◌, ap, sym, subst}
use Rattle.fp_place.specs.Placed.{Placed}
use Rattle.fp_cert.specs.Shown.{ShownTrial}
use Rattle.fp_flow.specs.Slotted.{IsSlotted}
use Rattle.fp_flow.specs.Still.{with_still}
use Rattle.fp_flow.proofs.Firsts.{IsFirst, first_is, slotted_of, slotted_on_cuts}
use Rattle.fp_flow.proofs.first.fill_first.Goals as goal

pub score-requires-clause-of_problem : goal.score-requires-clause-of_problem
score-requires-clause-of_problem c =
    slotted_of c.args.problem.now c.args.grid.now c.args.placement.now c.place_terminals.new.placement _ _ c.cells-cells.ensures.sound.plan c.requires.grid c.requires.of_problem c.in_ok-place_terminals.ensures.slotted

pub score-requires-clause-terminals : goal.score-requires-clause-terminals
score-requires-clause-terminals c =
    slotted_on_cuts c.args.problem.now c.args.grid.now c.args.placement.now c.place_terminals.new.placement _ _ c.in_ok-place_terminals.ensures.slotted

first : (c : goal.After-end) → IsFirst c.args.problem.now c.args.grid.now c.end.new.self c.place_terminals.new.placement
first c =
    let p = c.args.problem.now in
    let placed = c.args.placement.now in
    let slotted = c.place_terminals.new.placement in
    let before = c.in_ok-show_still.ensures ∙ ap (with_still placed) c.requires.empty in
    let s = subst (λ (trial : ShownTrial). IsSlotted p c.args.grid.now placed slotted trial c.place_terminals.new.trial) before c.in_ok-place_terminals.ensures.slotted in
    subst (λ (trial : ShownTrial). IsFirst p c.args.grid.now trial slotted) (sym c.end.ensures)
    (first_is p c.args.grid.now placed slotted c.place_terminals.new.trial c.score.result c.cells-cells.ensures.sound c.requires.grid c.requires.of_problem c.requires.agree c.requires.in_order c.requires.rules c.requires.seed s c.score.ensures.score c.score.ensures.small)

pub returns-clause-start : goal.returns-clause-start
returns-clause-start c = (first c).start

pub returns-clause-in_range : goal.returns-clause-in_range
returns-clause-in_range c = (first c).of_problem

pub returns-clause-base : goal.returns-clause-base
returns-clause-base c = (first c).base

pub returns-clause-spots : goal.returns-clause-spots
returns-clause-spots c = ap (λ (pl : Placed). pl.spots) c.in_ok-place_terminals.ensures.slotted.slotted_is
