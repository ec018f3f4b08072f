use Rattle.std.proofs.Common.{subst}
use Rattle.std.proofs.lemmas.Result.{IfOk-weaker}
use Rattle.fp_tech.specs.Plan.{Plan}
use Rattle.fp_tech.specs.Slots.{IsGrid}
use Rattle.fp_check.specs.Conditions.{Finds}
use Rattle.fp_check.specs.Finding.{FindsAt}
use Rattle.fp_check.specs.SeedsLaws.{seed_placed}
use Rattle.fp_check.specs.SoundLaws.{sound}
use Rattle.fp_check.proofs.Driving.{finds_by, no_seed_first}
use Rattle.fp_check.proofs.checking.check.Goals as goal

pub check_run-found-requires-clause-seed : goal.check_run-found-requires-clause-seed
check_run-found-requires-clause-seed c =
    let p = c.args.problem.now in
    let is_grid : IsGrid p.plan.frame p.plan.terminal c.of-grid.result = subst (λ (plan : Plan). IsGrid plan.frame plan.terminal c.of-grid.result) c.dies.ensures c.of-grid.ensures.grid in
    seed_placed p c.of-grid.result c.in-Ok.seeded is_grid c.in-Ok.ensures.seed c.in-Ok.ensures.of_problem c.in-Ok.ensures.rules c.in-Ok.ensures.slots

pub returns-in-Ok-clause-finds : goal.returns-in-Ok-clause-finds
returns-in-Ok-clause-finds c =
    let p = c.args.problem.now in
    let is_grid : IsGrid p.plan.frame p.plan.terminal c.of-grid.result = subst (λ (plan : Plan). IsGrid plan.frame plan.terminal c.of-grid.result) c.dies.ensures c.of-grid.ensures.grid in
    IfOk-weaker c.check_run-found.result (FindsAt p c.of-grid.result c.args.drawn.now c.args.run.now) (Finds p c.args.drawn.now c.args.run.now)
    (λ finding found. finds_by p c.of-grid.result c.args.drawn.now c.args.run.now finding is_grid found) c.check_run-found.ensures

pub returns-in-Ok-clause-sound : goal.returns-in-Ok-clause-sound
returns-in-Ok-clause-sound c = sound c.args.problem.now c.args.drawn.now c.args.run.now c.cells-cells.ensures.sound c.requires.nets c.requires.run

pub returns-in-Err-Unfit-clause-finds : goal.returns-in-Err-Unfit-clause-finds
returns-in-Err-Unfit-clause-finds c =
    let p = c.args.problem.now in
    let is_grid : IsGrid p.plan.frame p.plan.terminal c.of-grid.result = subst (λ (plan : Plan). IsGrid plan.frame plan.terminal c.of-grid.result) c.dies.ensures c.of-grid.ensures.grid in
    no_seed_first p c.of-grid.result c.args.drawn.now c.args.run.now c.in-Err-Unfit.field-0-0 c.in-Err-Unfit.field-0-1 is_grid (rw c.in-Err-Unfit.field-0-is at c.in-Err-Unfit.ensures.seed)

pub returns-in-Err-Unfit-clause-sound : goal.returns-in-Err-Unfit-clause-sound
returns-in-Err-Unfit-clause-sound c = sound c.args.problem.now c.args.drawn.now c.args.run.now c.cells-cells.ensures.sound c.requires.nets c.requires.run

pub returns-in-Err-Memory-clause-sound : goal.returns-in-Err-Memory-clause-sound
returns-in-Err-Memory-clause-sound c = sound c.args.problem.now c.args.drawn.now c.args.run.now c.cells-cells.ensures.sound c.requires.nets c.requires.run
