use Rattle.std.proofs.Common.{◌≡◌, ◌++◌, take, drop, replicate, length, None, map, sym, subst, ◌∙◌, ap, arith}
use Rattle.std.proofs.lemmas.Grind.{common_steps}
use Rattle.fp_place.specs.declared.placement.Spot.{Spot}
use Rattle.fp_place.specs.Placed.{Agree, IsPlacementOf}
use Rattle.fp_place.proofs.BuildLemmas.{AreReady, written, laid_agree, laid_placement, laid_xs}
use Rattle.fp_place.proofs.placement.Placement.build.Goals as goal
use Rattle.fp_place.proofs.placement.Placement.build.Goals.{In_ok-terminals}

ready : (c : In_ok-terminals) → AreReady c.args.problem.now c.args.top c.args.bottom c.args.xs.now c.lay_both.new.spots
ready c = record {
  sound = c.nets-nets.ensures.sound;
  top_lanes = c.requires.top_lanes;
  bottom_lanes = c.requires.bottom_lanes;
  once = c.requires.once;
  xs_many = c.requires.xs;
  range = c.requires.range;
  many = grind (arith, common_steps);
  laid = rw c.dies.ensures at c.lay_both.ensures.laid;
}

kept : (c : In_ok-terminals)
    → take c.in_ok-spots.spots.len (c.lay_both.new.spots ++ drop (length c.lay_both.new.spots) c.in_ok-spots.spots.items) ≡ c.lay_both.new.spots
kept c = written c.in_ok-spots.spots.items c.lay_both.new.spots c.in_ok-spots.spots.len (grind (arith, common_steps)) (sym c.in_ok-spots.spots.ok.0)

pub invariant_of-result : goal.invariant_of-result
invariant_of-result c = subst (λ spots. Agree spots c.args.top c.args.bottom) (sym (kept c)) (laid_agree _ _ _ _ _ (ready c))

pub returns-clause-of_problem : goal.returns-clause-of_problem
returns-clause-of_problem c =
    let none : c.in_ok-terminals.terminals.items ≡ replicate (length c.args.problem.now.nets) None = grind (arith, common_steps) in
    subst (λ spots. IsPlacementOf c.args.problem.now (record { spots = spots; top = c.args.top; bottom = c.args.bottom; terminals = c.in_ok-terminals.terminals.items })) (sym (kept c))
    (laid_placement _ _ _ _ _ _ (ready c) none)

pub returns-clause-agree : goal.returns-clause-agree
returns-clause-agree c = subst (λ spots. Agree spots c.args.top c.args.bottom) (sym (kept c)) (laid_agree _ _ _ _ _ (ready c))

pub returns-clause-xs : goal.returns-clause-xs
returns-clause-xs c = ap (map (λ (spot : Spot). spot.x)) (kept c) ∙ laid_xs _ _ _ _ _ (ready c)
