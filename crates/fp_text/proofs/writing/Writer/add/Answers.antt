use Rattle.std.proofs.Common.{◌≡◌, ◌<◌, ◌+◌, [], false, length, refl, ap, sym, ◌∙◌, arith, rules}
use Rattle.std.proofs.lemmas.List.{length-take-le}
use Rattle.fp_text.specs.Writing.{Waiting}
use Rattle.fp_text.specs.WritingLaws.{adds_direct}
use Rattle.fp_text.proofs.writing.Writer.add.Goals as goal

pub returns-in-Ok : goal.returns-in-Ok
returns-in-Ok g c =
    let view = c.self.view_is in
    let running : c.args.self.now.failed ≡ false = sym (ap (λ (w : Waiting). w.failed) view)
    ∙ c.if-self.false in
    let long : length c.self.inside.buffer ≡ 4096 = search rules in
    let used : length c.args.self.now.bytes ≡ c.self.inside.used =
    sym (ap (λ (w : Waiting). length w.bytes) view)
    ∙ length-take-le c.self.inside.used c.self.inside.buffer (omega arith) in
    let over : 4096 < length c.args.self.now.bytes + length c.args.piece.now = omega arith in
    let none : c.args.self.now.bytes ≡ [] = c.requires.room over running in
    record {
      adds =
          adds_direct c.args.name.now c.args.piece.now _ _ c.args.self.now _
          (λ i. record { bytes = none i; failed = running i }) refl c.in-Ok.ensures.appended
          c.in-Ok.ensures.others c.in-Ok.ensures.made c.in-Ok.ensures.later;
    }
