use Rattle.std.proofs.Common.{Ok, ◌++◌, subst, sym, ◌∙◌, inl}
use Rattle.faceplace.specs.Due.{PlaceStands, placing}
use Rattle.faceplace.specs.Trials.{place_report}
use Rattle.faceplace.proofs.Placings.{place_stands}
use Rattle.faceplace.proofs.place.write_outcome.Goals as goal

pub returns-in-Ok : goal.returns-in-Ok
returns-in-Ok g c = λ trials gives asked makes.
    let p = c.args.problem.now in
    let found = c.args.outcome.now in
    let front = c.args.front.now in
    let output = c.args.output.now in
    let cert = c.args.cert.now in
    let is = c.deref.ensures.value ∙ c.in-Ok.ensures in
    let stands = subst (λ report. PlaceStands front p output cert trials (placing p found.run found.answer output cert report)) (sym is) (place_stands front p found trials output cert gives) in
    c.write_files.ensures asked (makes _ (inl stands))
