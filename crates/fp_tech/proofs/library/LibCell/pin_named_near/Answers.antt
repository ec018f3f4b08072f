use Rattle.std.proofs.Common.{◌∙◌, sym, ap, Some}
use Rattle.std.proofs.lemmas.Slice.Eq.{bytes_eq-Decides}
use Rattle.fp_tech.specs.Book.{names_of}
use Rattle.fp_tech.specs.PlacesLaws.{place_again}
use Rattle.fp_tech.proofs.library.LibCell.pin_named_near.Goals as goal

pub returns-then-eq-clause-place : goal.returns-then-eq-clause-place
returns-then-eq-clause-place c =
    sym (place_again c.args.name.now (names_of c.args.self.now.pins) c.args.guess c.requires
    (c.pin_name.ensures ∙ ap Some ((bytes_eq-Decides c.pin_name.result.now c.args.name.now).0 (sym c.if-eq.ensures))))
