use Rattle.std.proofs.Common.{subst, ap, arith, length}
use Rattle.fp_tech.specs.Plan.{IsPlan}
use Rattle.fp_place.specs.Placed.{places_of}
use Rattle.fp_slots.proofs.Rows.{few_cut}
use Rattle.fp_slots.proofs.SlotLemmas.{centre_near, step_of_grid, rise_of_grid}
use Rattle.fp_slots.proofs.Tables.{costs_of}
use Rattle.fp_slots.proofs.slot_costs.SlotCosts.new.Goals as goal

pub invariant_of-result : goal.invariant_of-result
invariant_of-result c =
    let plan : IsPlan c.args.problem.now.plan = subst IsPlan c.dies.ensures c.frame-ranges.ensures.plan in
    record {
      few_rows = omega (arith, ap length c.in_ok-rows.ensures.nets, few_cut c.args.problem.now (places_of c.args.placement.now) (length c.args.problem.now.nets), c.in_ok-rows.ensures.few);
      near_rows = c.in_ok-rows.ensures.near;
      few_slots = c.requires.grid.few;
      near_slots = centre_near _ _ _ plan.setup.frame plan.setup.terminal c.requires.grid;
      some_step = step_of_grid _ _ _ plan.setup.terminal c.requires.grid;
      some_rise = rise_of_grid _ _ _ plan.setup.terminal c.requires.grid;
    }

pub returns : goal.returns
returns c =
    let plan : IsPlan c.args.problem.now.plan = subst IsPlan c.dies.ensures c.frame-ranges.ensures.plan in
    costs_of _ _ _ c.requires.of_problem c.in_ok-rows.ensures.nets c.in_ok-rows.ensures.near (centre_near _ _ _ plan.setup.frame plan.setup.terminal c.requires.grid)
