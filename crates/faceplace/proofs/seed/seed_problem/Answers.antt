use Rattle.std.proofs.Common.{Some, Ok, Err, refl, inr}
use Rattle.fp_tech.specs.Slots.{slot_count}
use Rattle.fp_score.specs.FirstFitLaws.{stop_within}
use Rattle.fp_base.specs.declared.ids.Die.TheVariants as dies
use Rattle.fp_seed.specs.Seeded.{SeedGives}
use Rattle.fp_seed.specs.declared.seeding.SeedFault.TheVariants as faults
use Rattle.faceplace.specs.Request.{Seed}
use Rattle.faceplace.specs.Report.{unfit_report}
use Rattle.faceplace.specs.Run.{outside}
use Rattle.faceplace.proofs.Endings.{refused}
use Rattle.faceplace.proofs.Seeds.{stopping, is_stopping}
use Rattle.faceplace.proofs.seed.seed_problem.Goals as goal

pub unfit-requires-clause-top : goal.unfit-requires-clause-top
unfit-requires-clause-top g c =
    let gives : SeedGives c.args.problem.now (Err (faults.Unfit c.in-Err-Unfit.top_first c.in-Err-Unfit.bottom_first)) = rw c.in-Err-Unfit.field-0-is at c.in-Err-Unfit.ensures.seed in
    stop_within c.args.problem.now (slot_count gives.0) dies.Top c.in-Err-Unfit.top_first gives.2

pub unfit-requires-clause-bottom : goal.unfit-requires-clause-bottom
unfit-requires-clause-bottom g c =
    let gives : SeedGives c.args.problem.now (Err (faults.Unfit c.in-Err-Unfit.top_first c.in-Err-Unfit.bottom_first)) = rw c.in-Err-Unfit.field-0-is at c.in-Err-Unfit.ensures.seed in
    stop_within c.args.problem.now (slot_count gives.0) dies.Bottom c.in-Err-Unfit.bottom_first gives.3

pub returns-in-Err-Unfit : goal.returns-in-Err-Unfit
returns-in-Err-Unfit g c = λ input says.
    let held = g.F.Folder.held in
    let folder_faults = g.F.Folder.faults in
    let put = g.S.Sink.written in
    let sink_faults = g.S.Sink.faults in
    let top = c.in-Err-Unfit.top_first in
    let bottom = c.in-Err-Unfit.bottom_first in
    let gives : SeedGives c.args.problem.now (Err (faults.Unfit top bottom)) = rw c.in-Err-Unfit.field-0-is at c.in-Err-Unfit.ensures.seed in
    refused (Some (Seed input c.args.output.now)) 4 _ (unfit_report c.args.problem.now top bottom)
    (outside (held c.args.folder.now) (put c.args.out.now) (folder_faults c.args.folder.now) (sink_faults c.args.out.now))
    (outside (held c.args.folder.now) (put c.unfit.new.out) (folder_faults c.args.folder.now) (sink_faults c.unfit.new.out))
    (Ok c.args.problem.now, says.says, (says.sound, inr (record { stopping = stopping c.args.problem.now top bottom gives; stops = is_stopping c.args.problem.now top bottom gives; is = refl })))
    refl c.unfit.ensures
