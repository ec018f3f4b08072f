use Rattle.std.proofs.Common.{◌≡◌, ◌*◌, ◌-◌, ◌∙◌, get_or, set, refl, ap, sym, subst, arith}
use Rattle.std.proofs.lemmas.List.{get_or_default}
use Rattle.fp_base.specs.declared.ids.Die.TheVariants.{Top}
use Rattle.fp_place.specs.Places.{die_at, other_die}
use Rattle.fp_place.specs.Settled.{far_die}
use Rattle.fp_gains.specs.Lists.{list_at}
use Rattle.fp_gains.specs.Kept.{even, AreShown}
use Rattle.fp_gains.specs.Changes.{CanTurn, AreTurned}
use Rattle.fp_gains.proofs.StateLemmas.{key_small, can_turn, moved_kept}
use Rattle.fp_gains.proofs.state.State.flip.Goals as goal

pub overflow_sub-key : goal.overflow_sub-key
overflow_sub-key c =
    let small = key_small c.args.members.now c.args.self.now.dies.items c.args.self.now.sides.items c.args.self.now.ranks.keys.items c.requires.kept.ranked.weighed c.requires.kept.members_are.few_nets c.args.cell.0 c.requires.cell in
    let is = get_or_default c.args.self.now.ranks.keys.items c.args.cell.0 c.index.result.now 0 (omega (arith, c.requires.kept.ranked.weighed.all_cells)) in
    omega (arith, small.1, c.index.ensures, is)

pub turn_nets-requires-clause-there : goal.turn_nets-requires-clause-there
turn_nets-requires-clause-there c =
    let die_is : die_at c.args.self.now.dies.items c.args.cell.0 ≡ c.index-die.result.now = sym (c.index-die.ensures ∙ get_or_default c.args.self.now.dies.items c.args.cell.0 c.index-die.result.now Top c.requires.cell) in
    subst (λ nets. CanTurn nets c.index-die.result.now c.args.self.now.sides.items) (sym c.list.ensures)
    (subst (λ die. CanTurn (list_at c.args.nets.now c.args.cell.0) die c.args.self.now.sides.items) die_is (can_turn c.args.members.now c.args.nets.now c.args.self.now c.args.cell.0 c.requires.kept c.requires.cell))

pub returns-clause-kept : goal.returns-clause-kept
returns-clause-kept c =
    let die_is : c.index-die.result.now ≡ die_at c.args.self.now.dies.items c.args.cell.0 = c.index-die.ensures ∙ get_or_default c.args.self.now.dies.items c.args.cell.0 c.index-die.result.now Top c.requires.cell in
    let key_is : c.index.result.now ≡ get_or c.args.self.now.ranks.keys.items c.args.cell.0 0 = c.index.ensures ∙ get_or_default c.args.self.now.ranks.keys.items c.args.cell.0 c.index.result.now 0 (omega (arith, c.requires.kept.ranked.weighed.all_cells)) in
    let other_is : c.other.result ≡ far_die c.args.self.now.dies.items c.args.cell.0 = c.other.ensures ∙ ap other_die die_is in
    moved_kept c.args.members.now c.args.nets.now c.args.self.now c.turn_nets.new.self _ c.args.cell.0 c.requires.kept c.requires.cell (record {
      turned = subst (λ nets. AreTurned nets (die_at c.args.self.now.dies.items c.args.cell.0) c.args.self.now.sides.items c.turn_nets.new.self.sides.items) c.list.ensures
          (subst (λ die. AreTurned c.list.result.now die c.args.self.now.sides.items c.turn_nets.new.self.sides.items) die_is c.turn_nets.ensures.sides);
      ranked = c.turn_nets.ensures.ranked;
      stands = c.turn_nets.ensures.stands;
      dies = ap (λ dies. set dies c.args.cell.0 c.other.result) (ap (λ dies. dies.items) c.turn_nets.ensures.stands.dies) ∙ ap (set c.args.self.now.dies.items c.args.cell.0) other_is;
      sides = refl;
      keys = c.turn.ensures.keys ∙ ap (λ key. set c.turn_nets.new.self.ranks.keys.items c.args.cell.0 (2 * even - key)) key_is;
      shown = subst (λ locked. AreShown (set c.turn_nets.new.self.dies.items c.args.cell.0 c.other.result) locked c.turn.new.self) c.deref-2.ensures.value (subst (λ dies. AreShown dies c.deref-2.result.now c.turn.new.self) c.deref.ensures.value c.turn.ensures.shown);
    })
