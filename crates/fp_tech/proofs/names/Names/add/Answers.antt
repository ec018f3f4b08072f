use Rattle.std.proofs.Common.{◌∙◌, ap, map, not, bytes_eq}
use Rattle.std.specs.List.{list_any}
use Rattle.fp_tech.specs.Book.{is_among}
use Rattle.fp_tech.proofs.NameLemmas.{is_some-place, added}
use Rattle.fp_tech.proofs.names.Names.add.Goals as goal

pub returns-clause-new : goal.returns-clause-new
returns-clause-new c =
    c.in_ok-new.ensures.added
    ∙ ap not (ap (λ n. list_any (λ v. bytes_eq n v.items) c.self.inside.set.keys) c.in_ok-name.ensures.items
    ∙ is_some-place (λ v. v.items) c.args.name.now c.self.inside.set.keys ∙ ap (λ names. is_among c.args.name.now names) c.self.view_is)

pub returns-clause-ok : goal.returns-clause-ok
returns-clause-ok c =
    ap (map (λ v. v.items)) c.in_ok-new.ensures.keys
    ∙ added (λ v. v.items) c.args.name.now c.self.inside.set.keys c.in_ok-name.name c.args.self.now c.in_ok-name.ensures.items c.self.view_is
