use Rattle.std.proofs.Common.{Some, Err, refl, sym, subst, ap, inl}
use Rattle.faceplace.specs.Causes.{cause_of}
use Rattle.faceplace.specs.Request.{Check}
use Rattle.faceplace.specs.Report.{input_report}
use Rattle.faceplace.specs.Sources.{most_input}
use Rattle.faceplace.specs.Run.{outside, InputSays}
use Rattle.faceplace.specs.Status.{code_of}
use Rattle.faceplace.proofs.Endings.{refused, since_read, unread}
use Rattle.faceplace.proofs.check.run_check.Goals as goal

pub returns-in-Ok : goal.returns-in-Ok
returns-in-Ok g c =
    let held = g.F.Folder.held in
    let folder_faults = g.F.Folder.faults in
    let put = g.S.Sink.written in
    let sink_faults = g.S.Sink.faults in
    since_read (Some (Check c.args.input.now c.args.output.now c.args.cert.now)) (code_of c.check_problem.result)
    (outside (held c.args.folder.now) (put c.args.out.now) (folder_faults c.args.folder.now) (sink_faults c.args.out.now))
    (outside (held c.read_input.new.folder) (put c.args.out.now) (folder_faults c.read_input.new.folder) (sink_faults c.args.out.now))
    (outside (held c.check_problem.new.folder) (put c.check_problem.new.out) (folder_faults c.check_problem.new.folder) (sink_faults c.check_problem.new.out))
    c.read_input.ensures.held c.read_input.ensures.later refl refl
    (c.check_problem.ensures c.args.input.now (subst (InputSays c.in-Ok.problem c.args.input.now) (sym c.read_input.ensures.held) (record { sound = c.in-Ok.ensures.sound; says = c.in-Ok.ensures.gives })))

pub returns-in-Err-Refused : goal.returns-in-Err-Refused
returns-in-Err-Refused g c =
    let held = g.F.Folder.held in
    let folder_faults = g.F.Folder.faults in
    let put = g.S.Sink.written in
    let sink_faults = g.S.Sink.faults in
    refused (Some (Check c.args.input.now c.args.output.now c.args.cert.now)) 3 _ (input_report most_input c.args.input.now (cause_of c.in-Err-Refused.cause))
    (outside (held c.args.folder.now) (put c.args.out.now) (folder_faults c.args.folder.now) (sink_faults c.args.out.now))
    (outside (held c.read_input.new.folder) (put c.refuse.new.out) (folder_faults c.read_input.new.folder) (sink_faults c.refuse.new.out))
    (Err (cause_of c.in-Err-Refused.cause), rw c.in-Err-Refused.field-0-is at c.in-Err-Refused.ensures.gives, refl)
    c.read_input.ensures.held c.refuse.ensures

pub returns-in-Err-Device : goal.returns-in-Err-Device
returns-in-Err-Device g c =
    let held = g.F.Folder.held in
    let folder_faults = g.F.Folder.faults in
    let put = g.S.Sink.written in
    let sink_faults = g.S.Sink.faults in
    unread (Check c.args.input.now c.args.output.now c.args.cert.now) c.args.input.now
    (outside (held c.args.folder.now) (put c.args.out.now) (folder_faults c.args.folder.now) (sink_faults c.args.out.now))
    (outside (held c.read_input.new.folder) (put c.args.out.now) (folder_faults c.read_input.new.folder) (sink_faults c.args.out.now))
    (inl refl) (c.in-Err-Device.ensures.device (ap Err c.in-Err-Device.field-0-is)) c.read_input.ensures.held refl refl
