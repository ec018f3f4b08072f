use Rattle.std.proofs.Common.{length, map, replicate, false, true, ap, sym, subst, ◌∙◌, arith}
use Rattle.fp_gains.specs.Links.{AreMembers}
use Rattle.fp_gains.proofs.LinkLemmas.{members_of_problem, links_of_problem}
use Rattle.fp_gains.proofs.NewLemmas.{start_ranked, ranked_kept, all_one}
use Rattle.fp_gains.proofs.gains.Gains.new.Goals as goal

pub begin-requires-clause-few : goal.begin-requires-clause-few
begin-requires-clause-few c = omega (arith, ap length c.in_ok-state.ensures.state.dies_are, c.requires, c.start.ensures.sound.few_cells)

pub begin-requires-clause-members : goal.begin-requires-clause-members
begin-requires-clause-members c =
    let start = c.in_ok-state.ensures.state in
    subst (AreMembers c.in_ok-members.members) (sym (ap length start.dies_are ∙ c.requires)) (members_of_problem c.args.problem.now c.in_ok-members.members c.start.ensures.sound c.in_ok-members.ensures)

pub begin-requires-clause-ranked : goal.begin-requires-clause-ranked
begin-requires-clause-ranked c =
    start_ranked c.args.problem.now c.in_ok-members.members c.args.dies.now c.in_ok-state.state c.in_ok-state.ensures.state c.in_ok-members.ensures c.requires

pub invariant_of-result : goal.invariant_of-result
invariant_of-result c =
    ranked_kept c.in_ok-members.members c.in_ok-nets.nets c.begin.new.self (length c.args.problem.now.cells)
    (members_of_problem c.args.problem.now c.in_ok-members.members c.start.ensures.sound c.in_ok-members.ensures)
    (links_of_problem c.args.problem.now c.in_ok-members.members c.in_ok-nets.nets c.start.ensures.sound c.in_ok-members.ensures c.in_ok-nets.ensures)
    (ap length c.begin.ensures.dies ∙ ap length c.in_ok-state.ensures.state.dies_are ∙ c.requires) c.begin.ensures.ranked c.begin.ensures.counted

pub returns-clause-locked : goal.returns-clause-locked
returns-clause-locked c =
    c.begin.ensures.locked ∙ ap (map (λ _. false)) c.in_ok-state.ensures.state.locked ∙ all_one (length c.args.dies.now) false true ∙ ap (λ k. replicate k false) c.requires
