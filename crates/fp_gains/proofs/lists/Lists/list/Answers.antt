use Rattle.std.proofs.Common.{◌∙◌}
use Rattle.fp_gains.proofs.ListLemmas.{is_there_in}
use Rattle.fp_gains.proofs.lists.Lists.list.Goals as goal

pub part-requires-clause-there : goal.part-requires-clause-there
part-requires-clause-there c =
    (is_there_in c.self.inside.starts.items c.self.inside.items.items _ _ c.args.self.now c.args.number c.self.invariant c.self.view_is c.requires c.deref.ensures.value c.deref-2.ensures.value).there

pub part-requires-clause-rises : goal.part-requires-clause-rises
part-requires-clause-rises c =
    (is_there_in c.self.inside.starts.items c.self.inside.items.items _ _ c.args.self.now c.args.number c.self.invariant c.self.view_is c.requires c.deref.ensures.value c.deref-2.ensures.value).rises

pub part-requires-clause-within : goal.part-requires-clause-within
part-requires-clause-within c =
    (is_there_in c.self.inside.starts.items c.self.inside.items.items _ _ c.args.self.now c.args.number c.self.invariant c.self.view_is c.requires c.deref.ensures.value c.deref-2.ensures.value).within

pub returns : goal.returns
returns c =
    c.part.ensures
    ∙ (is_there_in c.self.inside.starts.items c.self.inside.items.items _ _ c.args.self.now c.args.number c.self.invariant c.self.view_is c.requires c.deref.ensures.value c.deref-2.ensures.value).is
