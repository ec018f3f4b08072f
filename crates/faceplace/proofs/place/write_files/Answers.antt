use Rattle.std.proofs.Common.{◌≡◌, [], ◌∷◌, Option, refl, sym, ap, subst, ◌∙◌}
use Rattle.fp_base.specs.Files.{Files, OthersStay}
use Rattle.fp_place.specs.Placed.{drawn_of}
use Rattle.fp_out.specs.OutText.{out_text}
use Rattle.fp_cert.specs.CertText.{cert_text}
use Rattle.faceplace.specs.Outcome.{Writing, with_writings}
use Rattle.faceplace.specs.Due.{placing}
use Rattle.faceplace.specs.Run.{outside}
use Rattle.faceplace.proofs.Endings.{unwritten, was_done, since_earlier, written}
use Rattle.faceplace.proofs.place.write_files.Goals as goal

pub returns-then-is_err : goal.returns-then-is_err
returns-then-is_err g c = λ asked due.
    let held = g.F.Folder.held in
    let folder_faults = g.F.Folder.faults in
    let put = g.S.Sink.written in
    let sink_faults = g.S.Sink.faults in
    let p = c.args.problem.now in
    let found = c.args.outcome.now in
    let placed : Writing = record { name = c.args.output.now; text = out_text p (drawn_of found.answer) } in
    let shown : Writing = record { name = c.args.cert.now; text = cert_text found.run } in
    unwritten c.write_out.result asked (placing p found.run found.answer c.args.output.now c.args.cert.now c.args.report.now) [] placed (shown ∷ [])
    (outside (held c.args.folder.now) (put c.args.out.now) (folder_faults c.args.folder.now) (sink_faults c.args.out.now))
    (outside (held c.write_out.new.folder) (put c.args.out.now) (folder_faults c.write_out.new.folder) (sink_faults c.args.out.now))
    (sym c.is_err.ensures.value ∙ c.if-is_err.true) due refl c.write_out.ensures.others c.write_out.ensures.cause refl refl

pub returns-then-is_err-2 : goal.returns-then-is_err-2
returns-then-is_err-2 g c = λ asked due.
    let held = g.F.Folder.held in
    let folder_faults = g.F.Folder.faults in
    let put = g.S.Sink.written in
    let sink_faults = g.S.Sink.faults in
    let p = c.args.problem.now in
    let found = c.args.outcome.now in
    let placed : Writing = record { name = c.args.output.now; text = out_text p (drawn_of found.answer) } in
    let shown : Writing = record { name = c.args.cert.now; text = cert_text found.run } in
    let before : held c.write_out.new.folder ≡ with_writings (placed ∷ []) (held c.args.folder.now) =
    was_done c.write_out.result _ (sym c.is_err.ensures.value ∙ c.if-is_err.false) c.write_out.ensures.written in
    unwritten c.write_cert.result asked (placing p found.run found.answer c.args.output.now c.args.cert.now c.args.report.now) (placed ∷ []) shown []
    (outside (held c.args.folder.now) (put c.args.out.now) (folder_faults c.args.folder.now) (sink_faults c.args.out.now))
    (outside (held c.write_cert.new.folder) (put c.args.out.now) (folder_faults c.write_cert.new.folder) (sink_faults c.args.out.now))
    (sym c.is_err-2.ensures.value ∙ c.if-is_err-2.true) due refl
    (subst (λ (files : Option Files). OthersStay c.args.cert.now files (held c.write_cert.new.folder)) before c.write_cert.ensures.others)
    (since_earlier c.write_cert.result (folder_faults c.args.folder.now) (folder_faults c.write_out.new.folder) (folder_faults c.write_cert.new.folder)
    c.write_out.ensures.later c.write_cert.ensures.cause)
    refl refl

pub returns : goal.returns
returns g c = λ asked due.
    let held = g.F.Folder.held in
    let folder_faults = g.F.Folder.faults in
    let put = g.S.Sink.written in
    let sink_faults = g.S.Sink.faults in
    let p = c.args.problem.now in
    let found = c.args.outcome.now in
    let placed : Writing = record { name = c.args.output.now; text = out_text p (drawn_of found.answer) } in
    let shown : Writing = record { name = c.args.cert.now; text = cert_text found.run } in
    let before : held c.write_out.new.folder ≡ with_writings (placed ∷ []) (held c.args.folder.now) =
    was_done c.write_out.result _ (sym c.is_err.ensures.value ∙ c.if-is_err.false) c.write_out.ensures.written in
    written asked c.args.report.now (placed ∷ shown ∷ []) c.tell.result
    (outside (held c.args.folder.now) (put c.args.out.now) (folder_faults c.args.folder.now) (sink_faults c.args.out.now))
    (outside (held c.write_cert.new.folder) (put c.tell.new.out) (folder_faults c.write_cert.new.folder) (sink_faults c.tell.new.out))
    due
    (was_done c.write_cert.result _ (sym c.is_err-2.ensures.value ∙ c.if-is_err-2.false) c.write_cert.ensures.written ∙ ap (with_writings (shown ∷ [])) before)
    c.tell.ensures.tells
