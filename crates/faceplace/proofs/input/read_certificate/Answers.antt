use Rattle.std.proofs.Common.{◌≡◌, Err, subst, sym}
use Rattle.fp_tech.specs.Slots.{slot_count}
use Rattle.fp_cert.specs.CertReading.{cert_of}
use Rattle.faceplace.specs.Sources.{most_cert, cert_in}
use Rattle.faceplace.specs.Input.{GivesRead}
use Rattle.faceplace.proofs.Inputs.{was_read, was_wrong}
use Rattle.faceplace.proofs.input.read_certificate.Goals as goal

pub returns-in-Ok-clause-gives : goal.returns-in-Ok-clause-gives
returns-in-Ok-clause-gives g c = λ grid is_grid.
    let bytes = c.in_ok-bytes.bytes.items in
    let same : c.deref.result.now ≡ bytes = c.deref.ensures.value in
    was_read most_cert (cert_of c.args.problem.now (slot_count grid)) (g.F.Folder.held c.args.folder.now) c.args.name.now bytes c.in-Ok.run' c.in_ok-bytes.ensures.gives
    (rw same at (c.in-Ok.ensures.gives grid is_grid))

pub returns-clause-gives : goal.returns-clause-gives
returns-clause-gives g c = λ grid is_grid.
    let bytes = c.in_ok-bytes.bytes.items in
    let same : c.deref.result.now ≡ bytes = c.deref.ensures.value in
    subst (λ stop. GivesRead (λ d. d) (g.F.Folder.held c.args.folder.now) (cert_in c.args.problem.now (slot_count grid) c.args.name.now) (Err stop)) (sym c.stop_of.ensures)
    (was_wrong (λ d. d) most_cert (cert_of c.args.problem.now (slot_count grid)) (g.F.Folder.held c.args.folder.now) c.args.name.now bytes c.in-Err.fault c.in_ok-bytes.ensures.gives
    (rw same at (c.in-Err.ensures.gives grid is_grid)))
