use Rattle.std.proofs.Common.{◌∙◌, ap, sym, map, take}
use Rattle.std.proofs.lemmas.List.{take-map}
use Rattle.fp_tech.proofs.names.Names.truncate.Goals as goal

pub returns : goal.returns
returns c =
    ap (map (λ v. v.items)) c.truncate.ensures.keys ∙ sym (take-map (λ v. v.items) c.args.len c.self.inside.set.keys) ∙ ap (take c.args.len) c.self.view_is
