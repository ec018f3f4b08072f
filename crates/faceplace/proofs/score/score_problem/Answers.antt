use Rattle.std.proofs.Common.{Some, Ok, Err, refl, ap, inr}
use Rattle.faceplace.specs.Causes.{cause_of}
use Rattle.faceplace.specs.Request.{Score}
use Rattle.faceplace.specs.Report.{input_report}
use Rattle.faceplace.specs.Sources.{most_input}
use Rattle.faceplace.specs.Status.{code_of}
use Rattle.faceplace.specs.Run.{outside}
use Rattle.faceplace.proofs.Endings.{refused, unread}
use Rattle.faceplace.proofs.Verdicts.{judged}
use Rattle.faceplace.proofs.score.score_problem.Goals as goal

pub returns-in-Ok : goal.returns-in-Ok
returns-in-Ok g c = λ input says.
    let held = g.F.Folder.held in
    let folder_faults = g.F.Folder.faults in
    let put = g.S.Sink.written in
    let sink_faults = g.S.Sink.faults in
    judged input c.args.output.now c.args.problem.now c.in-Ok.drawn (code_of c.judge.result)
    (outside (held c.args.folder.now) (put c.args.out.now) (folder_faults c.args.folder.now) (sink_faults c.args.out.now))
    (outside (held c.read_output.new.folder) (put c.judge.new.out) (folder_faults c.read_output.new.folder) (sink_faults c.judge.new.out))
    says c.in-Ok.ensures.gives c.read_output.ensures.held c.judge.ensures

pub returns-in-Err-Device : goal.returns-in-Err-Device
returns-in-Err-Device g c = λ input says.
    let held = g.F.Folder.held in
    let folder_faults = g.F.Folder.faults in
    let put = g.S.Sink.written in
    let sink_faults = g.S.Sink.faults in
    unread (Score input c.args.output.now) c.args.output.now
    (outside (held c.args.folder.now) (put c.args.out.now) (folder_faults c.args.folder.now) (sink_faults c.args.out.now))
    (outside (held c.read_output.new.folder) (put c.args.out.now) (folder_faults c.read_output.new.folder) (sink_faults c.args.out.now))
    (inr (Ok c.args.problem.now, says.says, refl)) (c.in-Err-Device.ensures.device (ap Err c.in-Err-Device.field-0-is)) c.read_output.ensures.held refl refl

pub returns-in-Err-Refused : goal.returns-in-Err-Refused
returns-in-Err-Refused g c = λ input says.
    let held = g.F.Folder.held in
    let folder_faults = g.F.Folder.faults in
    let put = g.S.Sink.written in
    let sink_faults = g.S.Sink.faults in
    let cause = cause_of c.in-Err-Refused.cause in
    refused (Some (Score input c.args.output.now)) 3 _ (input_report most_input c.args.output.now cause)
    (outside (held c.args.folder.now) (put c.args.out.now) (folder_faults c.args.folder.now) (sink_faults c.args.out.now))
    (outside (held c.read_output.new.folder) (put c.refuse.new.out) (folder_faults c.read_output.new.folder) (sink_faults c.refuse.new.out))
    (Ok c.args.problem.now, says.says, (says.sound, (Err cause, rw c.in-Err-Refused.field-0-is at c.in-Err-Refused.ensures.gives, refl)))
    c.read_output.ensures.held c.refuse.ensures
