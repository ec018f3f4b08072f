use Rattle.std.proofs.Common.{◌≡◌, ◌∙◌, ◌<◌, List, length, ap, sym, subst, arith}
use Rattle.std.proofs.lemmas.List.{get_or_read}
use Rattle.std.proofs.lemmas.Bool.Decides.{nat_tests}
use Rattle.fp_gains.specs.declared.tournament.Leader.{Leader}
use Rattle.fp_gains.specs.Contests.{leader_of, leaders_in, rank_at, IsBest}
use Rattle.fp_gains.proofs.TournamentLemmas.{root_best, leaders_length}
use Rattle.fp_gains.proofs.tournament.Tournament.leader.Goals as goal

pub returns : goal.returns
returns c =
    let inner = c.self.inside.inner in
    let slots = c.self.inside.slots in
    let nodes = c.self.inside.nodes.items in
    let some : 0 < slots = grind (arith, nat_tests) in
    let inside : 0 < length nodes = omega (arith, c.self.invariant.tree.laid.full) in
    let first : c.index.result.now ≡ rank_at nodes 0 = get_or_read nodes 0 c.index.result.now inside c.index.ensures 0 in
    let many : length (leaders_in inner slots nodes) ≡ slots = leaders_length inner slots nodes c.self.invariant in
    subst (λ (best : Leader). IsBest c.args.self.now (length c.args.self.now) best) (sym (c.leader_with.ensures ∙ ap leader_of first))
    (subst (λ (leaves : List Leader). IsBest leaves (length leaves) (leader_of (rank_at nodes 0))) c.self.view_is
    (subst (λ count. IsBest (leaders_in inner slots nodes) count (leader_of (rank_at nodes 0))) (sym many) (root_best inner slots nodes c.self.invariant some)))
