use Rattle.std.proofs.Common.{◌∙◌, ap}
use Rattle.fp_tech.specs.Book.{place_of}
use Rattle.fp_tech.proofs.NameLemmas.{place_found}
use Rattle.fp_tech.proofs.names.Names.place.Goals as goal

pub returns-clause-place : goal.returns-clause-place
returns-clause-place c =
    c.get_index_of.ensures.index ∙ place_found (λ v. v.items) c.args.name.now c.self.inside.set.keys
    ∙ ap (place_of c.args.name.now) c.self.view_is
