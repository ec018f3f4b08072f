use Rattle.std.proofs.Common.{Some, Ok, Err, refl, subst, ap, inr}
use Rattle.fp_tech.specs.Plan.{Plan}
use Rattle.fp_tech.specs.Slots.{IsGrid}
use Rattle.faceplace.specs.Causes.{cause_of}
use Rattle.faceplace.specs.Request.{Check}
use Rattle.faceplace.specs.Report.{input_report}
use Rattle.faceplace.specs.Sources.{most_cert}
use Rattle.faceplace.specs.Run.{outside}
use Rattle.faceplace.specs.Status.{code_of}
use Rattle.faceplace.proofs.Endings.{refused, unread}
use Rattle.faceplace.proofs.Findings.{found}
use Rattle.faceplace.proofs.check.check_drawn.Goals as goal

pub returns-in-Ok : goal.returns-in-Ok
returns-in-Ok g c = λ input says draws.
    let is_grid : IsGrid c.args.problem.now.plan.frame c.args.problem.now.plan.terminal c.of-grid.result = subst (λ (plan : Plan). IsGrid plan.frame plan.terminal c.of-grid.result) c.dies.ensures c.of-grid.ensures.grid in
    let held = g.F.Folder.held in
    let folder_faults = g.F.Folder.faults in
    let put = g.S.Sink.written in
    let sink_faults = g.S.Sink.faults in
    found input c.args.output.now c.args.cert.now c.args.problem.now c.of-grid.result c.args.drawn.now c.in-Ok.run' (code_of c.check_run.result)
    (outside (held c.args.folder.now) (put c.args.out.now) (folder_faults c.args.folder.now) (sink_faults c.args.out.now))
    (outside (held c.read_certificate.new.folder) (put c.check_run.new.out) (folder_faults c.read_certificate.new.folder) (sink_faults c.check_run.new.out))
    says draws is_grid (c.in-Ok.ensures.gives c.of-grid.result is_grid) c.in-Ok.ensures.of_problem c.requires c.read_certificate.ensures.held c.check_run.ensures

pub returns-in-Err-Refused : goal.returns-in-Err-Refused
returns-in-Err-Refused g c = λ input says draws.
    let is_grid : IsGrid c.args.problem.now.plan.frame c.args.problem.now.plan.terminal c.of-grid.result = subst (λ (plan : Plan). IsGrid plan.frame plan.terminal c.of-grid.result) c.dies.ensures c.of-grid.ensures.grid in
    let held = g.F.Folder.held in
    let folder_faults = g.F.Folder.faults in
    let put = g.S.Sink.written in
    let sink_faults = g.S.Sink.faults in
    let cause = cause_of c.in-Err-Refused.cause in
    refused (Some (Check input c.args.output.now c.args.cert.now)) 3 _ (input_report most_cert c.args.cert.now cause)
    (outside (held c.args.folder.now) (put c.args.out.now) (folder_faults c.args.folder.now) (sink_faults c.args.out.now))
    (outside (held c.read_certificate.new.folder) (put c.refuse.new.out) (folder_faults c.read_certificate.new.folder) (sink_faults c.refuse.new.out))
    (Ok c.args.problem.now, says.says, (says.sound, (Ok c.args.drawn.now, draws.says, (c.of-grid.result, is_grid, (Err cause, rw c.in-Err-Refused.field-0-is at (c.in-Err-Refused.ensures.gives c.of-grid.result is_grid), refl)))))
    c.read_certificate.ensures.held c.refuse.ensures

pub returns-in-Err-Device : goal.returns-in-Err-Device
returns-in-Err-Device g c = λ input says draws.
    let held = g.F.Folder.held in
    let folder_faults = g.F.Folder.faults in
    let put = g.S.Sink.written in
    let sink_faults = g.S.Sink.faults in
    unread (Check input c.args.output.now c.args.cert.now) c.args.cert.now
    (outside (held c.args.folder.now) (put c.args.out.now) (folder_faults c.args.folder.now) (sink_faults c.args.out.now))
    (outside (held c.read_certificate.new.folder) (put c.args.out.now) (folder_faults c.read_certificate.new.folder) (sink_faults c.args.out.now))
    (inr (Ok c.args.problem.now, says.says, inr (Ok c.args.drawn.now, draws.says, refl))) (c.in-Err-Device.ensures.device (ap Err c.in-Err-Device.field-0-is)) c.read_certificate.ensures.held refl refl
