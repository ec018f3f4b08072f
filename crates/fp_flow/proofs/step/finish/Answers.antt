use Rattle.fp_flow.proofs.Finishing.{finished}
use Rattle.fp_flow.proofs.Firsts.{slotted_of, slotted_on_cuts}
use Rattle.fp_flow.proofs.step.finish.Goals as goal

pub ended-requires-clause-of_problem : goal.ended-requires-clause-of_problem
ended-requires-clause-of_problem c =
    slotted_of c.args.problem.now c.args.grid.now c.args.laid.placement c.place_terminals.new.placement c.args.laid.trial c.place_terminals.new.trial c.cells-cells.ensures.sound.plan
    c.requires.grid c.requires.laid.of_problem c.in_ok-place_terminals.ensures.slotted

pub ended-requires-clause-on_cuts : goal.ended-requires-clause-on_cuts
ended-requires-clause-on_cuts c =
    slotted_on_cuts c.args.problem.now c.args.grid.now c.args.laid.placement c.place_terminals.new.placement c.args.laid.trial c.place_terminals.new.trial
    c.in_ok-place_terminals.ensures.slotted

pub returns-clause-made : goal.returns-clause-made
returns-clause-made c =
    finished c.args.problem.now c.args.grid.now c.args.before c.args.laid.trial c.place_terminals.new.trial c.ended.result.trial c.args.laid.placement c.place_terminals.new.placement
    c.ended.result.better _ c.cells-cells.ensures.sound c.requires.grid c.requires.laid c.requires.rules c.in_ok-place_terminals.ensures.slotted c.ended.ensures
