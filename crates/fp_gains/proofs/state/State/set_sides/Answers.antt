use Rattle.std.proofs.Common.{refl, subst}
use Rattle.fp_gains.specs.Kept.{AreShown}
use Rattle.fp_gains.specs.Changes.{AreReweighed}
use Rattle.fp_gains.proofs.StateLemmas.{keys_in_range, weighed_set, weighs_alike}
use Rattle.fp_gains.specs.Lists.{list_at}
use Rattle.fp_gains.proofs.state.State.set_sides.Goals as goal

pub reweigh-requires-clause-range : goal.reweigh-requires-clause-range
reweigh-requires-clause-range c = keys_in_range c.args.members.now c.args.self.now.dies.items c.args.self.now.sides.items c.args.self.now.ranks.keys.items c.requires.ranked.weighed c.requires.members.few_nets

pub returns-then-not-weighs_as-clause-ranked : goal.returns-then-not-weighs_as-clause-ranked
returns-then-not-weighs_as-clause-ranked c = record {
  weighed = weighed_set c.args.members.now c.args.self.now.dies.items c.args.self.now.sides.items c.args.self.now.ranks.keys.items c.reweigh.new.self.keys.items c.list-cells.result.now c.args.net
      c.index-before.result.now c.args.after c.requires.ranked.weighed c.requires.net c.list-cells.ensures c.index-before.ensures
      (subst (λ dies. AreReweighed dies c.list-cells.result.now c.index-before.result.now c.args.after c.args.self.now.ranks.keys.items c.reweigh.new.self.keys.items) c.deref.ensures.value c.reweigh.ensures.keys);
  shown = subst (λ locked. AreShown c.args.self.now.dies.items locked c.reweigh.new.self) c.deref-then-not-weighs_as.ensures.value
      (subst (λ dies. AreShown dies c.deref-then-not-weighs_as.result.now c.reweigh.new.self) c.deref.ensures.value c.reweigh.ensures.shown);
}

pub returns-else-not-weighs_as-clause-ranked : goal.returns-else-not-weighs_as-clause-ranked
returns-else-not-weighs_as-clause-ranked c = record {
  weighed = weighed_set c.args.members.now c.args.self.now.dies.items c.args.self.now.sides.items c.args.self.now.ranks.keys.items c.args.self.now.ranks.keys.items (list_at c.args.members.now c.args.net) c.args.net
      c.index-before.result.now c.args.after c.requires.ranked.weighed c.requires.net refl c.index-before.ensures
      (weighs_alike c.args.self.now.dies.items (list_at c.args.members.now c.args.net) c.index-before.result.now c.args.after c.args.self.now.ranks.keys.items (c.weighs_as.ensures.top c.if-not-weighs_as.false) (c.weighs_as.ensures.bottom c.if-not-weighs_as.false));
  shown = c.requires.ranked.shown;
}
