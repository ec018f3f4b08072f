use Rattle.std.proofs.Common.{◌∙◌, ap}
use Rattle.fp_place.specs.Settled.{settled}
use Rattle.fp_flow.proofs.Chaining.{begun_going}
use Rattle.fp_flow.proofs.placing.run_over.Goals as goal

pub go_on-made-requires-clause-going : goal.go_on-made-requires-clause-going
go_on-made-requires-clause-going c =
    begun_going c.args.problem.now c.args.grid.now c.deref.result.now c.args.limit c.args.answer.now c.first_run.new.answer c.in_ok-run.run' c.in_ok-run.ensures.begun
    (c.deref.ensures.value ∙ c.in_ok-dies.ensures.settled ∙ ap (settled c.args.problem.now) c.requires.from)
