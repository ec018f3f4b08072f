use Rattle.std.proofs.Common.{◌∙◌, ◌+◌, ◌/◌, ap, sym, subst, length, refl, arith}
use Rattle.std.proofs.lemmas.List.{with_items_is}
use Rattle.fp_gains.specs.Contests.{leaders_in, IsKept}
use Rattle.fp_gains.proofs.TournamentLemmas.{seats_laid, seats_padded, seats_leaves, padded_as, leaders_as}
use Rattle.fp_gains.proofs.tournament.Tournament.new.Goals as goal

pub play-requires : goal.play-requires
play-requires c = seats_laid _ _ c.args.cells.now (omega arith) (c.deref_mut.ensures.value ∙ c.in_ok-nodes.ensures)

pub invariant_of-result : goal.invariant_of-result
invariant_of-result c =
    let slots = length c.args.cells.now in
    let inner = (slots + 1) / 3 in
    let kept = with_items_is c.in_ok-nodes.nodes c.play.new.nodes (c.play.auto.nodes ∙ c.deref_mut.ensures.len) in
    let padded = seats_padded inner _ c.args.cells.now refl (c.deref_mut.ensures.value ∙ c.in_ok-nodes.ensures) in
    subst (IsKept inner slots) (sym kept) (record { tree = c.play.ensures.tree; padded = padded_as inner slots c.play.new.nodes _ c.play.ensures.leaves padded })

pub returns : goal.returns
returns c =
    let slots = length c.args.cells.now in
    let inner = (slots + 1) / 3 in
    let kept = with_items_is c.in_ok-nodes.nodes c.play.new.nodes (c.play.auto.nodes ∙ c.deref_mut.ensures.len) in
    let leaves = seats_leaves inner _ c.args.cells.now c.requires.small (c.deref_mut.ensures.value ∙ c.in_ok-nodes.ensures) in
    ap (leaders_in inner slots) kept ∙ leaders_as inner slots _ _ c.play.ensures.leaves ∙ leaves
