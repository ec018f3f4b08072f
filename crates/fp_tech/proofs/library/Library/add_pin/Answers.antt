use Rattle.std.proofs.Common.{◌≡◌, ◌==◌, ◌∙◌, Some, IsSome, sym, subst, find, refl, slice_get}
use Rattle.fp_tech.specs.Book.{Lib}
use Rattle.fp_tech.proofs.LibraryLemmas.{place_there, at_place, cell_there, adds_at, id_kept, ids_kept}
use Rattle.fp_tech.proofs.library.Library.add_pin.Goals as goal

pub unwrap-place-requires : goal.unwrap-place-requires
unwrap-place-requires c =
    place_there c.self.inside.cells.items c.args.id.0 c.self.inside.ids.keys c.get_index_of.result c.self.invariant c.get_index_of.ensures.index
    (subst (λ libs. IsSome (find (λ (lib : Lib). lib.id == c.args.id.0) libs)) (sym c.self.view_is) c.requires.there)

-- the cell that is written stands at its number's place
stands : (c : goal.After-self-1) → slice_get c.self.inside.cells.items c.unwrap-place.result ≡ Some c.index_mut-cell.result.now
stands c =
    at_place c.self.inside.cells.items c.args.id.0 c.self.inside.ids.keys c.unwrap-place.result c.index_mut-cell.result.now c.self.invariant
    (sym c.unwrap-place.ensures ∙ c.get_index_of.ensures.index)
    (subst (λ libs. IsSome (find (λ (lib : Lib). lib.id == c.args.id.0) libs)) (sym c.self.view_is) c.requires.there)
    c.index_mut-cell.ensures.value

pub invariant_of-self : goal.invariant_of-self
invariant_of-self c =
    c.self.invariant
    ∙ sym (ids_kept c.self.inside.cells.items c.unwrap-place.result c.index_mut-cell.result.now c.add_pin.new.self (stands c)
    (id_kept _ c.index_mut-cell.result.now _ c.add_pin.new.self c.add_pin.result refl c.add_pin.ensures))

pub returns : goal.returns
returns c =
    adds_at c.self.inside.cells.items c.args.self.now c.self.view_is c.args.id.0 c.unwrap-place.result c.index_mut-cell.result.now c.add_pin.new.self
    (record { name = c.args.name.now; x = c.args.x; y = c.args.y }) c.args.name.now c.add_pin.result c.requires.apart (stands c)
    (sym (cell_there c.self.inside.cells.items c.args.id.0 c.self.inside.ids.keys c.unwrap-place.result c.self.invariant (sym c.unwrap-place.ensures ∙ c.get_index_of.ensures.index)) ∙ stands c)
    c.add_pin.ensures
