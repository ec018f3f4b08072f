use Rattle.std.proofs.Common.{◌≡◌, Err, subst, sym}
use Rattle.fp_out.specs.OutReading.{out_of}
use Rattle.faceplace.specs.Sources.{most_input, drawing_in}
use Rattle.faceplace.specs.Input.{GivesRead}
use Rattle.faceplace.proofs.Inputs.{was_read, was_wrong}
use Rattle.faceplace.proofs.Nets.{nets_read}
use Rattle.faceplace.proofs.input.read_output.Goals as goal

pub returns-in-Ok-clause-gives : goal.returns-in-Ok-clause-gives
returns-in-Ok-clause-gives g c =
    let bytes = c.in_ok-bytes.bytes.items in
    let same : c.deref.result.now ≡ bytes = c.deref.ensures.value in
    was_read most_input (out_of c.args.problem.now) (g.F.Folder.held c.args.folder.now) c.args.name.now bytes c.in-Ok.drawn c.in_ok-bytes.ensures.gives (rw same at c.in-Ok.ensures.gives)

pub returns-clause-gives : goal.returns-clause-gives
returns-clause-gives g c =
    let bytes = c.in_ok-bytes.bytes.items in
    let same : c.deref.result.now ≡ bytes = c.deref.ensures.value in
    subst (λ stop. GivesRead (λ d. d) (g.F.Folder.held c.args.folder.now) (drawing_in c.args.problem.now c.args.name.now) (Err stop)) (sym c.stop_of.ensures)
    (was_wrong (λ d. d) most_input (out_of c.args.problem.now) (g.F.Folder.held c.args.folder.now) c.args.name.now bytes c.in-Err.fault c.in_ok-bytes.ensures.gives (rw same at c.in-Err.ensures.gives))

pub returns-in-Ok-clause-nets : goal.returns-in-Ok-clause-nets
returns-in-Ok-clause-nets g c = nets_read c.args.problem.now c.deref.result.now c.in-Ok.drawn c.in-Ok.ensures.reads
