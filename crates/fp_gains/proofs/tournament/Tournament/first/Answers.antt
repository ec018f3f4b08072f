use Rattle.std.proofs.Common.{◌≤◌, List, length, ap, sym, subst, arith}
use Rattle.fp_gains.specs.declared.tournament.Leader.{Leader}
use Rattle.fp_gains.specs.Contests.{leader_of, IsTop, IsBest}
use Rattle.fp_gains.proofs.TournamentLemmas.{top_best, leaders_length}
use Rattle.fp_gains.proofs.tournament.Tournament.first.Goals as goal

pub returns : goal.returns
returns c =
    let inner = c.self.inside.inner in
    let slots = c.self.inside.slots in
    let nodes = c.self.inside.nodes.items in
    let top : IsTop inner nodes c.args.count c.best_of.result = subst (λ ranks. IsTop inner ranks c.args.count c.best_of.result) c.deref.ensures.value c.best_of.ensures in
    let few : c.args.count ≤ slots = omega (arith, c.requires, ap length c.self.view_is, leaders_length inner slots nodes c.self.invariant) in
    subst (λ (best : Leader). IsBest c.args.self.now c.args.count best) (sym c.leader_with.ensures)
    (subst (λ (leaves : List Leader). IsBest leaves c.args.count (leader_of c.best_of.result)) c.self.view_is (top_best inner slots nodes c.args.count c.best_of.result c.self.invariant few top))
