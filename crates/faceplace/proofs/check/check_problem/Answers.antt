use Rattle.std.proofs.Common.{Some, Ok, Err, refl, sym, subst, ap, inl, inr}
use Rattle.faceplace.specs.Causes.{cause_of}
use Rattle.faceplace.specs.Request.{Check}
use Rattle.faceplace.specs.Report.{input_report}
use Rattle.faceplace.specs.Sources.{most_input}
use Rattle.faceplace.specs.Run.{outside, InputSays, OutputSays}
use Rattle.faceplace.specs.Status.{code_of}
use Rattle.faceplace.proofs.Endings.{refused, since_read, unread}
use Rattle.faceplace.proofs.check.check_problem.Goals as goal

pub returns-in-Ok : goal.returns-in-Ok
returns-in-Ok g c = λ input says.
    let held = g.F.Folder.held in
    let folder_faults = g.F.Folder.faults in
    let put = g.S.Sink.written in
    let sink_faults = g.S.Sink.faults in
    let p = c.args.problem.now in
    since_read (Some (Check input c.args.output.now c.args.cert.now)) (code_of c.check_drawn.result)
    (outside (held c.args.folder.now) (put c.args.out.now) (folder_faults c.args.folder.now) (sink_faults c.args.out.now))
    (outside (held c.read_output.new.folder) (put c.args.out.now) (folder_faults c.read_output.new.folder) (sink_faults c.args.out.now))
    (outside (held c.check_drawn.new.folder) (put c.check_drawn.new.out) (folder_faults c.check_drawn.new.folder) (sink_faults c.check_drawn.new.out))
    c.read_output.ensures.held c.read_output.ensures.later refl refl
    (c.check_drawn.ensures input (subst (InputSays p input) (sym c.read_output.ensures.held) says)
    (subst (OutputSays p c.in-Ok.drawn c.args.output.now) (sym c.read_output.ensures.held) (record { says = c.in-Ok.ensures.gives })))

pub returns-in-Err-Refused : goal.returns-in-Err-Refused
returns-in-Err-Refused g c = λ input says.
    let held = g.F.Folder.held in
    let folder_faults = g.F.Folder.faults in
    let put = g.S.Sink.written in
    let sink_faults = g.S.Sink.faults in
    let cause = cause_of c.in-Err-Refused.cause in
    refused (Some (Check input c.args.output.now c.args.cert.now)) 3 _ (input_report most_input c.args.output.now cause)
    (outside (held c.args.folder.now) (put c.args.out.now) (folder_faults c.args.folder.now) (sink_faults c.args.out.now))
    (outside (held c.read_output.new.folder) (put c.refuse.new.out) (folder_faults c.read_output.new.folder) (sink_faults c.refuse.new.out))
    (Ok c.args.problem.now, says.says, (says.sound, (Err cause, rw c.in-Err-Refused.field-0-is at c.in-Err-Refused.ensures.gives, refl)))
    c.read_output.ensures.held c.refuse.ensures

pub returns-in-Err-Device : goal.returns-in-Err-Device
returns-in-Err-Device g c = λ input says.
    let held = g.F.Folder.held in
    let folder_faults = g.F.Folder.faults in
    let put = g.S.Sink.written in
    let sink_faults = g.S.Sink.faults in
    unread (Check input c.args.output.now c.args.cert.now) c.args.output.now
    (outside (held c.args.folder.now) (put c.args.out.now) (folder_faults c.args.folder.now) (sink_faults c.args.out.now))
    (outside (held c.read_output.new.folder) (put c.args.out.now) (folder_faults c.read_output.new.folder) (sink_faults c.args.out.now))
    (inr (Ok c.args.problem.now, says.says, inl refl)) (c.in-Err-Device.ensures.device (ap Err c.in-Err-Device.field-0-is)) c.read_output.ensures.held refl refl
