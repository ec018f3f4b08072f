use Rattle.std.proofs.Common.{◌≡◌, [], FitsSigned, w64, List, ℤ, rules, subst, sym, ◌∙◌}
use Rattle.std.proofs.lemmas.Int.{to_z-of_z}
use Rattle.fp_place.specs.Placed.{places_of}
use Rattle.fp_place.specs.Places.{place_at}
use Rattle.fp_score.specs.Score.{corner}
use Rattle.fp_score.specs.Target.{along, pulls, IsTargetOf}
use Rattle.fp_coarse.specs.Medians.{breakpoints_of, IsLowerMedian}
use Rattle.fp_coarse.specs.MedianLaws.{median_is_target, none_stands}
use Rattle.fp_coarse.proofs.median_targets.target.Goals as goal

pub returns-in-Some-clause-target : goal.returns-in-Some-clause-target
returns-in-Some-clause-target c =
    let rs = pulls c.args.problem.now (places_of c.args.base.now) c.args.cell.0 c.args.die c.args.axis in
    let fits : FitsSigned w64 c.in-Some.median = search rules in
    let is : IsLowerMedian (breakpoints_of rs) c.in-Some.median = subst (λ (l : List ℤ). IsLowerMedian l c.in-Some.median) (c.deref_mut.ensures.value ∙ c.in_ok-push_breakpoints.ensures.all) c.in-Some.ensures in
    simp to_z-of_z (median_is_target rs (along c.args.axis (corner (place_at (places_of c.args.base.now) c.args.cell.0))) c.in-Some.median is)

pub returns-in-None-clause-target : goal.returns-in-None-clause-target
returns-in-None-clause-target c =
    let rs = pulls c.args.problem.now (places_of c.args.base.now) c.args.cell.0 c.args.die c.args.axis in
    let stands = along c.args.axis (corner (place_at (places_of c.args.base.now) c.args.cell.0)) in
    let fits : FitsSigned w64 c.stands.result = search rules in
    let none : breakpoints_of rs ≡ [] = sym c.in_ok-push_breakpoints.ensures.all ∙ sym c.deref_mut.ensures.value ∙ c.in-None.ensures in
    simp to_z-of_z (subst (IsTargetOf rs stands) (sym c.stands.ensures.at) (none_stands rs stands none))
