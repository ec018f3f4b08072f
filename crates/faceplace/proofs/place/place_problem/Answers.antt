use Rattle.std.proofs.Common.{Ok, Err, refl, inr}
use Rattle.fp_tech.specs.Slots.{slot_count}
use Rattle.fp_score.specs.FirstFitLaws.{stop_within}
use Rattle.fp_base.specs.declared.ids.Die.TheVariants as dies
use Rattle.fp_flow.specs.Outcomes.{FlowGives}
use Rattle.fp_flow.specs.declared.placing.FlowFault.TheVariants as faults
use Rattle.faceplace.specs.Report.{unfit_report}
use Rattle.faceplace.specs.Run.{outside}
use Rattle.faceplace.proofs.Endings.{refused}
use Rattle.faceplace.proofs.Placings.{place_stops}
use Rattle.faceplace.proofs.Rowless.{trials_of}
use Rattle.faceplace.proofs.place.place_problem.Goals as goal

pub write_outcome-requires-clause-of_problem : goal.write_outcome-requires-clause-of_problem
write_outcome-requires-clause-of_problem g c =
    let gives : FlowGives c.args.problem.now c.args.trials (Ok c.in-Ok.outcome) = c.in-Ok.ensures.gives in
    gives.1.of_problem

pub write_outcome-requires-clause-trials : goal.write_outcome-requires-clause-trials
write_outcome-requires-clause-trials g c =
    let gives : FlowGives c.args.problem.now c.args.trials (Ok c.in-Ok.outcome) = c.in-Ok.ensures.gives in
    trials_of c.args.problem.now (slot_count gives.0) c.in-Ok.outcome.run gives.1.run_of_problem

pub returns-in-Ok : goal.returns-in-Ok
returns-in-Ok g c = c.write_outcome.ensures c.args.trials c.in-Ok.ensures.gives

pub unfit-requires-clause-top : goal.unfit-requires-clause-top
unfit-requires-clause-top g c =
    let gives : FlowGives c.args.problem.now c.args.trials (Err (faults.Unfit c.in-Err-Unfit.top_first c.in-Err-Unfit.bottom_first)) = rw c.in-Err-Unfit.field-0-is at c.in-Err-Unfit.ensures.gives in
    stop_within c.args.problem.now (slot_count gives.0) dies.Top c.in-Err-Unfit.top_first gives.2

pub unfit-requires-clause-bottom : goal.unfit-requires-clause-bottom
unfit-requires-clause-bottom g c =
    let gives : FlowGives c.args.problem.now c.args.trials (Err (faults.Unfit c.in-Err-Unfit.top_first c.in-Err-Unfit.bottom_first)) = rw c.in-Err-Unfit.field-0-is at c.in-Err-Unfit.ensures.gives in
    stop_within c.args.problem.now (slot_count gives.0) dies.Bottom c.in-Err-Unfit.bottom_first gives.3

pub returns-in-Err-Unfit : goal.returns-in-Err-Unfit
returns-in-Err-Unfit g c = λ asked makes.
    let held = g.F.Folder.held in
    let folder_faults = g.F.Folder.faults in
    let put = g.S.Sink.written in
    let sink_faults = g.S.Sink.faults in
    let top = c.in-Err-Unfit.top_first in
    let bottom = c.in-Err-Unfit.bottom_first in
    let gives : FlowGives c.args.problem.now c.args.trials (Err (faults.Unfit top bottom)) = rw c.in-Err-Unfit.field-0-is at c.in-Err-Unfit.ensures.gives in
    refused asked 4 _ (unfit_report c.args.problem.now top bottom)
    (outside (held c.args.folder.now) (put c.args.out.now) (folder_faults c.args.folder.now) (sink_faults c.args.out.now))
    (outside (held c.args.folder.now) (put c.unfit.new.out) (folder_faults c.args.folder.now) (sink_faults c.unfit.new.out))
    (makes _ (inr (place_stops c.args.problem.now c.args.trials top bottom gives)))
    refl c.unfit.ensures
