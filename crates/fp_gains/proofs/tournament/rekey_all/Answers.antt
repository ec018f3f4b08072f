use Rattle.std.proofs.Common.{◌≡◌, ◌∙◌, ◌<◌, sym, subst, length, arith}
use Rattle.fp_gains.proofs.TournamentLemmas.{IsDealt, key_there, dealt_padded, dealt_leaders, padded_as, leaders_as}
use Rattle.fp_gains.proofs.tournament.rekey_all.Goals as goal

pub bounds-keys-cell : goal.bounds-keys-cell
bounds-keys-cell c =
    subst (λ leader. leader.cell.0 < length c.args.keys.now) (sym c.leader_with.ensures)
    (key_there c.args.inner c.args.slots c.loop-slot.slot c.args.keys.now c.loop-slot.nodes c.args.nodes.now c.requires.kept c.requires.cells c.loop-slot.invariant c.loop-slot-test.true)

pub returns-clause-kept : goal.returns-clause-kept
returns-clause-kept c =
    let all : c.loop-slot.slot ≡ c.args.slots = omega (arith, c.loop-slot-test.false, c.loop-slot.auto.slot-end) in
    let dealt = subst (λ slots. IsDealt c.args.inner slots c.args.keys.now c.loop-slot.nodes c.args.nodes.now) all c.loop-slot.invariant in
    let padded = dealt_padded c.args.inner c.args.slots c.args.keys.now c.loop-slot.nodes c.args.nodes.now dealt c.requires.kept.padded in
    record { tree = c.play.ensures.tree; padded = padded_as c.args.inner c.args.slots c.play.new.nodes c.loop-slot.nodes c.play.ensures.leaves padded }

pub returns-clause-leaves : goal.returns-clause-leaves
returns-clause-leaves c =
    let all : c.loop-slot.slot ≡ c.args.slots = omega (arith, c.loop-slot-test.false, c.loop-slot.auto.slot-end) in
    let dealt = subst (λ slots. IsDealt c.args.inner slots c.args.keys.now c.loop-slot.nodes c.args.nodes.now) all c.loop-slot.invariant in
    leaders_as c.args.inner c.args.slots c.play.new.nodes c.loop-slot.nodes c.play.ensures.leaves
    ∙ dealt_leaders c.args.inner c.args.slots c.args.keys.now c.loop-slot.nodes c.args.nodes.now dealt c.requires.kept
