use Rattle.std.proofs.Common.{Some, Ok, [], ◌∷◌, refl, sym, ◌∙◌, inl}
use Rattle.std.specs.Prelude.{string_bytes}
use Rattle.fp_place.specs.Placed.{drawn_of}
use Rattle.fp_out.specs.OutText.{out_text}
use Rattle.faceplace.specs.Request.{Seed}
use Rattle.faceplace.specs.Outcome.{Writing}
use Rattle.faceplace.specs.Run.{outside}
use Rattle.faceplace.proofs.Endings.{unwritten, was_done, written}
use Rattle.faceplace.proofs.Seeds.{stands_due}
use Rattle.faceplace.proofs.seed.write_seed.Goals as goal

pub returns-then-is_err : goal.returns-then-is_err
returns-then-is_err g c = λ input says.
    let held = g.F.Folder.held in
    let folder_faults = g.F.Folder.faults in
    let put = g.S.Sink.written in
    let sink_faults = g.S.Sink.faults in
    let p = c.args.problem.now in
    let found = c.args.seeded.now in
    let writing : Writing = record { name = c.args.output.now; text = out_text p (drawn_of found.placement) } in
    let line = c.in-Ok.line in
    unwritten c.write_out.result (Some (Seed input c.args.output.now)) (record { status = 0; report = string_bytes line; writings = writing ∷ [] }) [] writing []
    (outside (held c.args.folder.now) (put c.args.out.now) (folder_faults c.args.folder.now) (sink_faults c.args.out.now))
    (outside (held c.write_out.new.folder) (put c.args.out.now) (folder_faults c.write_out.new.folder) (sink_faults c.args.out.now))
    (sym c.is_err.ensures.value ∙ c.if-is_err.true)
    (Ok p, says.says, (says.sound, inl (stands_due p found c.args.output.now (string_bytes line) c.requires.seed c.in-Ok.ensures)))
    refl
    c.write_out.ensures.others c.write_out.ensures.cause refl refl

pub returns : goal.returns
returns g c = λ input says.
    let held = g.F.Folder.held in
    let folder_faults = g.F.Folder.faults in
    let put = g.S.Sink.written in
    let sink_faults = g.S.Sink.faults in
    let p = c.args.problem.now in
    let found = c.args.seeded.now in
    let line = c.as_bytes.result.now in
    let writing : Writing = record { name = c.args.output.now; text = out_text p (drawn_of found.placement) } in
    written (Some (Seed input c.args.output.now)) line (writing ∷ []) c.tell.result
    (outside (held c.args.folder.now) (put c.args.out.now) (folder_faults c.args.folder.now) (sink_faults c.args.out.now))
    (outside (held c.write_out.new.folder) (put c.tell.new.out) (folder_faults c.write_out.new.folder) (sink_faults c.tell.new.out))
    (Ok p, says.says, (says.sound, inl (stands_due p found c.args.output.now line c.requires.seed (rw c.as_bytes.ensures.value c.in-Ok.ensures))))
    (was_done c.write_out.result _ (sym c.is_err.ensures.value ∙ c.if-is_err.false) c.write_out.ensures.written)
    c.tell.ensures.tells
