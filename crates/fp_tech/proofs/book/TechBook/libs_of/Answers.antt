use Rattle.std.proofs.Common.{◌∙◌, ap, sym, map}
use Rattle.std.proofs.lemmas.Simd.{map-map}
use Rattle.fp_base.specs.declared.ids.LibId.{LibId}
use Rattle.fp_tech.specs.Book.{Lib, libs_of}
use Rattle.fp_tech.specs.KeptBook.{id_of}
use Rattle.fp_tech.proofs.book.TechBook.libs_of.Goals as goal

pub returns : goal.returns
returns c =
    c.ids.ensures ∙ ap (map id_of) c.library.ensures.libs
    ∙ sym (map-map {C = LibId} (λ id. record { 0 = id }) (λ (lib : Lib). lib.id) (libs_of c.args.self.now c.args.tech.0))
