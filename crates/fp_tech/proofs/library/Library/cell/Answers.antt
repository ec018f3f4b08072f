use Rattle.std.proofs.Common.{◌<◌, ◌∙◌, ◌==◌, Some, find, ap, sym, length, arith}
use Rattle.std.proofs.lemmas.Grind.{common_steps}
use Rattle.std.proofs.lemmas.Option.{slice_get-get_or}
use Rattle.fp_tech.specs.Book.{Lib}
use Rattle.fp_tech.proofs.LibraryLemmas.{cell_there, none_there}
use Rattle.fp_tech.proofs.library.Library.cell.Goals as goal

pub returns-in-Some : goal.returns-in-Some
returns-in-Some c =
    let within : c.in-Some.place < length c.self.inside.cells.items = grind (arith, common_steps) in
    ap Some c.index.ensures
    ∙ sym (slice_get-get_or c.self.inside.cells.items c.in-Some.place c.index.result.now within)
    ∙ cell_there c.self.inside.cells.items c.args.id.0 c.self.inside.ids.keys c.in-Some.place c.self.invariant (sym c.in-Some.is ∙ c.get_index_of.ensures.index)
    ∙ ap (find (λ (lib : Lib). lib.id == c.args.id.0)) c.self.view_is

pub returns-in-None : goal.returns-in-None
returns-in-None c =
    sym (none_there c.self.inside.cells.items c.args.id.0 c.self.inside.ids.keys c.self.invariant (sym c.in-None.is ∙ c.get_index_of.ensures.index))
    ∙ ap (find (λ (lib : Lib). lib.id == c.args.id.0)) c.self.view_is
