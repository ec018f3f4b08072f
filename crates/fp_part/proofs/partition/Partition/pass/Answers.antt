use Rattle.std.proofs.Common.{◌≡◌, false, Bool, length, take, refl, ap, sym, subst, ◌∙◌}
use Rattle.std.proofs.lemmas.List.{length-map}
use Rattle.fp_place.specs.Cut.{cut}
use Rattle.fp_place.specs.Settled.{best, KeepRules}
use Rattle.fp_part.specs.SettledLaws.{best_keeps}
use Rattle.fp_place.specs.Held.{held_by}
use Rattle.fp_part.proofs.RunLemmas.{at_best, all_unlocked}
use Rattle.fp_part.proofs.partition.Partition.pass.Goals as goal
use Rattle.fp_part.proofs.partition.Partition.pass.Goals.{After-move_all}

-- the dies where the next pass begins
moved_best : (c : After-move_all) → c.move_all.new.dies.items ≡ best c.args.problem.now c.args.self.now.gains.dies
moved_best c =
    at_best c.args.problem.now c.args.self.now.gains.dies c.run.new.self c.move_all.new.dies.items (take c.run.new.self.fewest.moves c.deref.result.now) c.in_ok-run.ensures
    (ap (take c.run.new.self.fewest.moves) c.deref.ensures.value) c.move_all.ensures

pub restart-requires : goal.restart-requires
restart-requires c =
    ap length (c.deref-2.ensures.value ∙ moved_best (goal.at.restart-requires c).After-move_all)
    ∙ (best_keeps c.args.problem.now c.args.self.now.gains.dies c.requires.ready.rules).cells
    ∙ sym c.in_ok-run.ensures.in_pass.ready.rules.cells

pub caps_of-self-requires : goal.caps_of-self-requires
caps_of-self-requires c =
    subst (KeepRules c.args.problem.now) (sym (c.deref-3.ensures.value ∙ moved_best (goal.at.caps_of-self-requires c).After-move_all)) (best_keeps c.args.problem.now c.args.self.now.gains.dies c.requires.ready.rules)

pub returns-clause-begun : goal.returns-clause-begun
returns-clause-begun c =
    let p = c.args.problem.now in let start = c.args.self.now.gains.dies in let in_pass = c.in_ok-run.ensures.in_pass in
    let best_is = moved_best (goal.at.returns-clause-begun c).After-move_all in
    let same = c.restart.ensures.dies ∙ c.deref-2.ensures.value in
    let dies_are : c.restart.new.self.dies ≡ best p start = same ∙ best_is in
    record {
      ready = record {
        gains_are = c.restart.ensures.of_problem p in_pass.ready.gains_are;
        locks = ap length c.restart.ensures.locked ∙ length-map c.run.new.self.gains.locked (λ (_ : Bool). false) ∙ in_pass.ready.locks;
        rules = subst (KeepRules p) (sym dies_are) (best_keeps p start c.requires.ready.rules);
        held_is = c.caps_of-self.ensures ∙ ap (held_by p) (c.deref-3.ensures.value ∙ sym same);
        cut_is = in_pass.fewest_is ∙ ap (cut p) (c.in_ok-run.ensures.best_is ∙ sym dies_are);
      };
      unlocked = c.restart.ensures.locked ∙ all_unlocked c.run.new.self.gains.locked (length p.cells) in_pass.ready.locks;
      start_is = sym same;
      unmoved = c.clear.ensures.items;
      fewest_is = refl;
    }

pub returns-clause-dies : goal.returns-clause-dies
returns-clause-dies c = c.restart.ensures.dies ∙ c.deref-2.ensures.value ∙ moved_best (goal.at.returns-clause-dies c).After-move_all
