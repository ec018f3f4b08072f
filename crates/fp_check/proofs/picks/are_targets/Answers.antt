use Rattle.std.proofs.Common.{◌≡◌, List, subst}
use Rattle.std.specs.Prelude.{Decides}
use Rattle.std.proofs.lemmas.Slice.Eq.{slice_eq-Decides}
use Rattle.fp_base.specs.declared.ids.Point.{Point}
use Rattle.fp_place.specs.Placed.{places_of}
use Rattle.fp_check.proofs.Pickings.{points_same, targets_told}
use Rattle.fp_check.proofs.picks.are_targets.Goals as goal

pub returns : goal.returns
returns c =
    let decides : Decides c.eq-same.result (c.as_slice.result.now ≡ c.args.aims.now) = slice_eq-Decides points_same c.as_slice.result.now c.args.aims.now c.eq-same.result c.eq-same.ensures in
    targets_told c.args.problem.now (places_of c.args.base.now) c.args.dies.now c.args.aims.now c.in_ok-found.found.items c.eq-same.result c.in_ok-found.ensures.targets
    (subst (λ (list : List Point). Decides c.eq-same.result (list ≡ c.args.aims.now)) c.as_slice.ensures.value decides)
