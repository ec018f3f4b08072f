use Rattle.std.proofs.Common.{get_or, Option, subst, arith}
use Rattle.std.specs.Prelude.{IfSome}
use Rattle.std.proofs.lemmas.Option.{slice_get-get_or}
use Rattle.fp_check.specs.declared.views.Layout.{Layout}
use Rattle.fp_check.specs.Starting.{IsLayoutFor}
use Rattle.fp_check.proofs.checking.starts_from_seed.Goals as goal
use Rattle.fp_check.proofs.checking.starts_from_seed.Goals.{In-Some}

layout_is : (c : In-Some) → IsLayoutFor c.args.problem.now c.in-Some.layout
layout_is c =
    subst (λ (o : Option Layout). IfSome o (IsLayoutFor c.args.problem.now)) c.in-Some.is
    (c.requires.first (get_or c.args.views.now 0 c.index-views-0.result) (slice_get-get_or c.args.views.now 0 c.index-views-0.result (omega (arith, c.requires.some))))

pub starts_like-requires-clause-placement : goal.starts_like-requires-clause-placement
starts_like-requires-clause-placement c = (layout_is (goal.at.starts_like-requires-clause-placement c).In-Some).of_problem

pub starts_like-requires-clause-targets : goal.starts_like-requires-clause-targets
starts_like-requires-clause-targets c = (layout_is (goal.at.starts_like-requires-clause-targets c).In-Some).targets
