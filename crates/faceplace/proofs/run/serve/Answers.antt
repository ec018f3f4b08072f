use Rattle.std.proofs.Common.{refl, subst}
use Rattle.faceplace.specs.Status.{code_of}
use Rattle.faceplace.specs.Run.{Outside, outside, EndsAs}
use Rattle.faceplace.proofs.Endings.{no_request}
use Rattle.faceplace.proofs.run.serve.Goals as goal

pub returns-in-None : goal.returns-in-None
returns-in-None g c =
    let before : Outside = outside (g.F.Folder.held c.args.folder.now) (g.S.Sink.written c.args.out.now) (g.F.Folder.faults c.args.folder.now) (g.S.Sink.faults c.args.out.now) in
    let after : Outside = outside (g.F.Folder.held c.args.folder.now) (g.S.Sink.written c.tell.new.out) (g.F.Folder.faults c.args.folder.now) (g.S.Sink.faults c.tell.new.out) in
    subst (λ asked. EndsAs asked (code_of c.tell.result) before after) c.in-None.ensures.gives (no_request c.tell.result before after refl c.tell.ensures.tells)
