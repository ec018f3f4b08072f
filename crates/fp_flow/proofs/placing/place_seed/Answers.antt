use Rattle.std.proofs.Common.{subst}
use Rattle.fp_tech.specs.Plan.{Plan}
use Rattle.fp_tech.specs.Slots.{IsGrid}
use Rattle.fp_flow.specs.Chains.{CanStart}
use Rattle.fp_flow.proofs.Answering.{can_start, placed_is}
use Rattle.fp_flow.proofs.placing.place_seed.Goals as goal
use Rattle.fp_flow.proofs.placing.place_seed.Goals.{After-of-grid}

is_grid : (c : After-of-grid) → IsGrid c.args.problem.now.plan.frame c.args.problem.now.plan.terminal c.of-grid.result
is_grid c = subst (λ (plan : Plan). IsGrid plan.frame plan.terminal c.of-grid.result) c.dies.ensures c.of-grid.ensures.grid

can : (c : After-of-grid) → CanStart c.args.problem.now c.of-grid.result c.args.seeded.placement
can c =
    can_start c.args.problem.now c.of-grid.result c.args.seeded (is_grid c) c.requires.seed c.requires.of_problem c.requires.agree c.requires.in_order c.requires.on_cuts c.requires.rules
    c.requires.slots

pub run_from-requires-clause-seed : goal.run_from-requires-clause-seed
run_from-requires-clause-seed c = can (goal.at.run_from-requires-clause-seed c).After-of-grid

pub returns : goal.returns
returns c =
    let at = (goal.at.returns c).After-of-grid in (
      c.of-grid.result,
      placed_is c.args.problem.now c.of-grid.result c.args.limit c.args.seeded.placement c.in_ok-run.run' c.run_from.new.answer c.score-seed_score.result c.cells-cells.ensures.sound c.requires.some c.requires.few (is_grid at)
          (can at) c.score-seed_score.ensures.score c.in_ok-run.ensures,
    )
