use Rattle.std.proofs.Common.{◌∙◌, ap}
use Rattle.fp_tech.specs.Book.{place_of, pin_names}
use Rattle.fp_tech.proofs.NameLemmas.{pin_found}
use Rattle.fp_tech.proofs.library.LibCell.pin_named.Goals as goal

pub returns-clause-place : goal.returns-clause-place
returns-clause-place c =
    c.get_index_of.ensures.index ∙ pin_found c.self.inside.pins.entries c.args.name.now
    ∙ ap (λ l. place_of c.args.name.now (pin_names l)) c.self.view_is
