use Rattle.std.proofs.Common.{◌∙◌, ◌<◌, ap, sym, subst, length, arith}
use Rattle.std.proofs.lemmas.List.{with_items_is}
use Rattle.fp_gains.specs.Contests.{leaders_in, rekeyed, IsKept, IsPadded}
use Rattle.fp_gains.proofs.TournamentLemmas.{leaders_length, slot_keyed, padded_as, padded_set, leaders_as}
use Rattle.fp_gains.proofs.tournament.Tournament.set.Goals as goal

pub invariant_of-self : goal.invariant_of-self
invariant_of-self c =
    let inner = c.self.inside.inner in
    let slots = c.self.inside.slots in
    let nodes = c.self.inside.nodes.items in
    let below : c.args.slot < slots = omega (arith, c.requires, ap length c.self.view_is, leaders_length inner slots nodes c.self.invariant) in
    let kept = with_items_is c.self.inside.nodes c.rekey.new.nodes (c.rekey.auto.nodes ∙ c.deref_mut.ensures.len) in
    let before : IsPadded inner slots c.deref_mut.result.now = subst (IsPadded inner slots) (sym c.deref_mut.ensures.value) c.self.invariant.padded in
    let padded = padded_as inner slots c.rekey.new.nodes _ c.rekey.ensures.leaves (padded_set inner slots _ c.args.slot _ below before) in
    subst (IsKept inner slots) (sym kept) (record { tree = c.rekey.ensures.tree; padded = padded })

pub returns : goal.returns
returns c =
    let inner = c.self.inside.inner in
    let slots = c.self.inside.slots in
    let nodes = c.self.inside.nodes.items in
    let below : c.args.slot < slots = omega (arith, c.requires, ap length c.self.view_is, leaders_length inner slots nodes c.self.invariant) in
    let kept = with_items_is c.self.inside.nodes c.rekey.new.nodes (c.rekey.auto.nodes ∙ c.deref_mut.ensures.len) in
    let before : IsKept inner slots c.deref_mut.result.now = subst (IsKept inner slots) (sym c.deref_mut.ensures.value) c.self.invariant in
    let same = ap (leaders_in inner slots) c.deref_mut.ensures.value ∙ c.self.view_is in
    ap (leaders_in inner slots) kept ∙ leaders_as inner slots _ _ c.rekey.ensures.leaves ∙ slot_keyed inner slots _ c.args.slot c.args.key before below
    ∙ ap (λ leaves. rekeyed leaves c.args.slot c.args.key) same
