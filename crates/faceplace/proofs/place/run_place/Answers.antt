use Rattle.std.proofs.Common.{Option, Some, Ok, Err, refl, sym, subst, ap, inl}
use Rattle.fp_base.specs.Files.{Files}
use Rattle.faceplace.specs.Due.{IsDue}
use Rattle.faceplace.specs.Causes.{cause_of}
use Rattle.faceplace.specs.Request.{Place}
use Rattle.faceplace.specs.Report.{input_report}
use Rattle.faceplace.specs.Sources.{most_input}
use Rattle.faceplace.specs.Run.{outside}
use Rattle.faceplace.specs.Status.{code_of}
use Rattle.faceplace.proofs.Endings.{refused, since_read, unread}
use Rattle.faceplace.proofs.place.run_place.Goals as goal

pub returns-in-Ok : goal.returns-in-Ok
returns-in-Ok g c =
    let held = g.F.Folder.held in
    let folder_faults = g.F.Folder.faults in
    let put = g.S.Sink.written in
    let sink_faults = g.S.Sink.faults in
    since_read (Some (Place c.args.input.now c.args.output.now c.args.cert.now c.args.trials)) (code_of c.place_problem.result)
    (outside (held c.args.folder.now) (put c.args.out.now) (folder_faults c.args.folder.now) (sink_faults c.args.out.now))
    (outside (held c.read_input.new.folder) (put c.args.out.now) (folder_faults c.read_input.new.folder) (sink_faults c.args.out.now))
    (outside (held c.place_problem.new.folder) (put c.place_problem.new.out) (folder_faults c.place_problem.new.folder) (sink_faults c.place_problem.new.out))
    c.read_input.ensures.held c.read_input.ensures.later refl refl
    (c.place_problem.ensures (Some (Place c.args.input.now c.args.output.now c.args.cert.now c.args.trials))
    (λ outcome due. subst (λ (files : Option Files). IsDue (Some (Place c.args.input.now c.args.output.now c.args.cert.now c.args.trials)) files outcome) (sym c.read_input.ensures.held)
    (Ok c.in-Ok.problem, c.in-Ok.ensures.gives, (c.in-Ok.ensures.sound, due))))

pub returns-in-Err-Refused : goal.returns-in-Err-Refused
returns-in-Err-Refused g c =
    let held = g.F.Folder.held in
    let folder_faults = g.F.Folder.faults in
    let put = g.S.Sink.written in
    let sink_faults = g.S.Sink.faults in
    refused (Some (Place c.args.input.now c.args.output.now c.args.cert.now c.args.trials)) 3 _ (input_report most_input c.args.input.now (cause_of c.in-Err-Refused.cause))
    (outside (held c.args.folder.now) (put c.args.out.now) (folder_faults c.args.folder.now) (sink_faults c.args.out.now))
    (outside (held c.read_input.new.folder) (put c.refuse.new.out) (folder_faults c.read_input.new.folder) (sink_faults c.refuse.new.out))
    (Err (cause_of c.in-Err-Refused.cause), rw c.in-Err-Refused.field-0-is at c.in-Err-Refused.ensures.gives, refl)
    c.read_input.ensures.held c.refuse.ensures

pub returns-in-Err-Device : goal.returns-in-Err-Device
returns-in-Err-Device g c =
    let held = g.F.Folder.held in
    let folder_faults = g.F.Folder.faults in
    let put = g.S.Sink.written in
    let sink_faults = g.S.Sink.faults in
    unread (Place c.args.input.now c.args.output.now c.args.cert.now c.args.trials) c.args.input.now
    (outside (held c.args.folder.now) (put c.args.out.now) (folder_faults c.args.folder.now) (sink_faults c.args.out.now))
    (outside (held c.read_input.new.folder) (put c.args.out.now) (folder_faults c.read_input.new.folder) (sink_faults c.args.out.now))
    (inl refl) (c.in-Err-Device.ensures.device (ap Err c.in-Err-Device.field-0-is)) c.read_input.ensures.held refl refl
