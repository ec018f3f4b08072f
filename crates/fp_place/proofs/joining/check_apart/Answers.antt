use Rattle.std.proofs.Common.{◌∙◌, ap, arith, length, subst}
use Rattle.fp_place.specs.FirstFaults.{FindsFirst, net_subject}
use Rattle.fp_tech.specs.Plan.{Plan}
use Rattle.fp_place.specs.Joining.{IsAlone}
use Rattle.fp_place.proofs.FaultLemmas.{told_first}
use Rattle.fp_place.proofs.JoiningLemmas.{alone_found, strangers_in_range}
use Rattle.fp_place.proofs.joining.check_apart.Goals as goal

pub first_close-requires-clause-few : goal.first_close-requires-clause-few
first_close-requires-clause-few c = omega (arith, c.requires.many, c.nets.ensures.sound.few_nets)

pub first_beside-beside-requires-clause-others : goal.first_beside-beside-requires-clause-others
first_beside-beside-requires-clause-others c = strangers_in_range c.nets.result c.args.lines.now _ (c.deref.ensures.value ∙ c.in_ok-others.ensures) c.requires.lines

pub returns-in-Some : goal.returns-in-Some
returns-in-Some c =
    let found = alone_found c.args.problem.now c.args.lines.now c.args.centres.now c.terminal-terminal.result c.deref.result.now c.in_ok-others.others.items c.nets.result c.in_ok-close.close
    c.first_beside-beside.result c.earlier.result (c.terminal-terminal.ensures.terminal ∙ ap (λ (plan : Plan). plan.terminal) c.dies.ensures) c.nets.ensures.count c.in_ok-others.ensures c.deref.ensures.value c.requires.many
    c.in_ok-close.ensures c.first_beside-beside.ensures c.earlier.ensures in
    told_first (length c.args.problem.now.nets) (IsAlone c.args.problem.now c.args.lines.now c.args.centres.now) 9 net_subject c.in-Some.net c.broken_by.result c.broken_by.ensures
    (subst (FindsFirst (length c.args.problem.now.nets) (IsAlone c.args.problem.now c.args.lines.now c.args.centres.now)) c.in-Some.is found)
