use Rattle.std.proofs.Common.{◌≡◌, true, false, Result, Ok, Err, is_err, ap, sym, ◌∙◌}
use Rattle.std.specs.Prelude.{OnOk, OnErr}
use Rattle.fp_text.specs.Writing.{Waiting}
use Rattle.fp_text.specs.WritingLaws.{finishes}
use Rattle.fp_text.proofs.writing.Writer.finish.Goals as goal

from_ok : {X E : Type 0} {P : Type 0} (r : Result X E) → OnOk r P → is_err r ≡ false → P
from_ok (Ok x) h e = h
from_ok (Err x) h e = absurd cc

from_err : {X E : Type 0} {P : Type 0} (r : Result X E) → OnErr r P → is_err r ≡ true → P
from_err (Ok x) h e = absurd cc
from_err (Err x) h e = h

pub returns-clause-finishes : goal.returns-clause-finishes
returns-clause-finishes g c =
    let view = c.self.view_is in
    let append = c.append.ensures in
    finishes c.args.name.now _ _ _ c.args.self _
    (sym (ap (λ (w : Waiting). w.failed) view) ∙ c.if-self.false)
    (ap (λ (w : Waiting). w.bytes) view)
    (from_ok c.append.result append.appended)
    (from_err c.append.result append.cause) append.others append.made append.later
