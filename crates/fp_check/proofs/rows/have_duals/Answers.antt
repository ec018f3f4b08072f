use Rattle.std.specs.Prelude.{IsTrue, ◌↔◌}
use Rattle.std.proofs.lemmas.Result.{IfOk-weaker}
use Rattle.fp_cert.specs.Certified.{AreDualsShown}
use Rattle.fp_check.specs.declared.rows.Asked.TheVariants.{Duals}
use Rattle.fp_check.specs.Conditions.{OfPlaced}
use Rattle.fp_check.specs.Rooms.{MeetsAll}
use Rattle.fp_check.proofs.rows.have_duals.Goals as goal

pub returns : goal.returns
returns c =
    let p = c.args.problem.now in
    let run = c.args.run.now in
    IfOk-weaker c.meets.result (λ b. IsTrue b ↔ OfPlaced run (MeetsAll p Duals)) (λ b. IsTrue b ↔ OfPlaced run (AreDualsShown p)) (λ b told. (
      λ yes. λ number trial there has die k segment row at held. (told.0 yes number trial there has die k segment row at held).1,
      λ all. told.1 (λ number trial there has die k segment row at held.
          (c.requires.feasible number trial there has die k segment row at held, all number trial there has die k segment row at held)),
    )) c.meets.ensures
