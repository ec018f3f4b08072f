use Rattle.std.proofs.Common.{Some, [], refl, sym, ◌∙◌}
use Rattle.faceplace.specs.Request.{Gen}
use Rattle.faceplace.specs.Made.{text_made}
use Rattle.faceplace.specs.Outcome.{Writing}
use Rattle.faceplace.specs.Due.{generating}
use Rattle.faceplace.specs.Run.{outside}
use Rattle.faceplace.proofs.Endings.{unwritten}
use Rattle.faceplace.proofs.generate.write_text.Goals as goal

pub returns-then-is_err : goal.returns-then-is_err
returns-then-is_err g c =
    let held = g.F.Folder.held in
    let folder_faults = g.F.Folder.faults in
    let put = g.S.Sink.written in
    let sink_faults = g.S.Sink.faults in
    let making = c.args.making in
    let output = c.args.output.now in
    let writing : Writing = record { name = output; text = text_made making } in
    unwritten c.write_whole.result (Some (Gen making output)) (generating making output) [] writing []
    (outside (held c.args.folder.now) (put c.args.out.now) (folder_faults c.args.folder.now) (sink_faults c.args.out.now))
    (outside (held c.write_whole.new.folder) (put c.args.out.now) (folder_faults c.write_whole.new.folder) (sink_faults c.args.out.now))
    (sym c.is_err.ensures.value ∙ c.if-is_err.true) refl refl c.write_whole.ensures.others c.write_whole.ensures.cause refl refl
