use Rattle.std.proofs.Common.{◌≡◌, ◌∙◌, ◌++◌, ◌∷◌, [], None, ap, sym, map, subst, find, ◌==◌, arith}
use Rattle.std.proofs.lemmas.Grind.{common_steps}
use Rattle.fp_tech.specs.Book.{Lib}
use Rattle.fp_tech.specs.KeptBook.{id_of}
use Rattle.fp_tech.proofs.LibraryLemmas.{ids_pushed}
use Rattle.fp_tech.proofs.library.Library.push.Goals as goal

pub invariant_of-self-else-is_err : goal.invariant_of-self-else-is_err
invariant_of-self-else-is_err c =
    let grown : c.push.new.self.items ≡ c.self.inside.cells.items ++ c.args.cell ∷ [] = grind (arith, common_steps) in
    c.in_ok-insert.ensures.keys
    ∙ ids_pushed c.self.inside.cells.items c.self.inside.ids.keys c.id.result c.args.cell c.id.ensures c.self.invariant
    (subst (λ libs. find (λ (lib : Lib). lib.id == c.args.cell.id) libs ≡ None) (sym c.self.view_is) c.requires)
    ∙ ap (map id_of) (sym grown)
