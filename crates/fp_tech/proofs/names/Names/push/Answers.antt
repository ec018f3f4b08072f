use Rattle.std.proofs.Common.{◌∙◌, ap, map}
use Rattle.fp_tech.proofs.NameLemmas.{pushed}
use Rattle.fp_tech.proofs.names.Names.push.Goals as goal

pub returns-clause-ok : goal.returns-clause-ok
returns-clause-ok c =
    ap (map (λ v. v.items)) c.in_ok-insert.ensures.keys
    ∙ pushed (λ v. v.items) c.args.name.now c.self.inside.set.keys c.in_ok-name.name c.args.self.now c.in_ok-name.ensures.items c.self.view_is c.requires
