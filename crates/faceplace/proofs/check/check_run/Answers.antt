use Rattle.std.proofs.Common.{inl}
use Rattle.faceplace.proofs.check.check_run.Goals as goal

pub returns-in-Ok : goal.returns-in-Ok
returns-in-Ok g c = inl (record { finding = c.in-Ok.finding; finds = c.in-Ok.ensures.finds; tells = c.tell_finding.ensures })
