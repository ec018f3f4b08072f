use Rattle.std.proofs.Common.{◌≡◌, ◌++◌, [], List, ℕ, Bool, false, ap, ◌∙◌}
use Rattle.fp_base.specs.Files.{sets_file}
use Rattle.fp_text.specs.Writing.{Waiting}
use Rattle.fp_text.specs.WritingLaws.{adds_flush}
use Rattle.fp_text.proofs.writing.Writer.flush.Goals as goal

pub returns-in-Ok-clause-adds : goal.returns-in-Ok-clause-adds
returns-in-Ok-clause-adds g c =
    let view = c.self.view_is in
    let running : c.self.inside.stopped ≡ false = ap (λ (w : Waiting). w.failed) view
    ∙ c.requires.running in
    adds_flush c.args.name.now _ _ c.args.self.now _ c.requires.running
    (ap (λ (b : Bool). record { bytes = []; failed = b }) running)
    (c.in-Ok.ensures.appended
    ∙ ap
    (λ (p : List ℕ). sets_file c.args.name.now (λ bytes. bytes ++ p)
    (g.F.Folder.held c.args.folder.now)) (ap (λ (w : Waiting). w.bytes) view))
    c.in-Ok.ensures.others c.in-Ok.ensures.made c.in-Ok.ensures.later
