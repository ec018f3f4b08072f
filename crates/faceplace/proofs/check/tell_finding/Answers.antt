use Rattle.std.proofs.Common.{◌∙◌, subst}
use Rattle.faceplace.specs.Report.{finding_report}
use Rattle.faceplace.specs.Status.{code_of, Refuses}
use Rattle.faceplace.proofs.Endings.{tells_refuses}
use Rattle.faceplace.proofs.check.tell_finding.Goals as goal

pub returns-in-Ok : goal.returns-in-Ok
returns-in-Ok g c =
    subst (λ status. Refuses (finding_report c.args.finding) status (code_of c.tell.result) (g.S.Sink.written c.args.out.now) (g.S.Sink.written c.tell.new.out) (g.S.Sink.faults c.args.out.now) (g.S.Sink.faults c.tell.new.out)) c.status_of.ensures
    (subst (λ report. Refuses report (code_of c.status_of.result) (code_of c.tell.result) (g.S.Sink.written c.args.out.now) (g.S.Sink.written c.tell.new.out) (g.S.Sink.faults c.args.out.now) (g.S.Sink.faults c.tell.new.out))
    (c.as_bytes.ensures.value ∙ c.in-Ok.ensures) (tells_refuses c.as_bytes.result.now c.status_of.result c.tell.result _ _ _ _ c.tell.ensures.tells))
