use Rattle.std.proofs.Common.{◌∙◌, sym, ap, map, slice_get, Some}
use Rattle.std.specs.Option.{option_map}
use Rattle.std.proofs.lemmas.Option.{slice_get-map}
use Rattle.fp_tech.specs.Book.{Pin, Lib, names_of}
use Rattle.fp_tech.specs.KeptBook.{pin_of}
use Rattle.fp_tech.proofs.library.LibCell.pin_name.Goals as goal

pub returns : goal.returns
returns c =
    ap (λ (l : Lib). slice_get (names_of l.pins) c.args.place) (sym c.self.view_is)
    ∙ slice_get-map (λ (pin : Pin). pin.name) (map pin_of c.self.inside.pins.entries) c.args.place
    ∙ ap (option_map (λ (pin : Pin). pin.name)) (slice_get-map pin_of c.self.inside.pins.entries c.args.place)
    ∙ ap (λ o. option_map (λ (pin : Pin). pin.name) (option_map pin_of o)) (sym c.get_index.ensures.entry ∙ ap (option_map (λ p. (p.0.now, p.1.now))) c.unwrap.ensures)
    ∙ ap Some (sym c.as_slice.ensures.value)
