use Rattle.std.proofs.Common.{◌∙◌, length, map, ap}
use Rattle.fp_cert.specs.Standing.{lane_shown}
use Rattle.fp_check.proofs.Placing.{length-xs, xs_in_range, built}
use Rattle.fp_check.proofs.views.placement_of.Goals as goal

pub build-requires-clause-xs : goal.build-requires-clause-xs
build-requires-clause-xs c = ap length (c.deref.ensures.value ∙ c.in_ok-xs.ensures) ∙ length-xs c.args.problem.now c.args.trial.now

pub build-requires-clause-range : goal.build-requires-clause-range
build-requires-clause-range c =
    xs_in_range c.args.problem.now c.args.trial.now c.deref.result.now c.requires.once c.requires.lines (c.deref.ensures.value ∙ c.in_ok-xs.ensures)

pub returns-clause-spots : goal.returns-clause-spots
returns-clause-spots c =
    let e = c.build.ensures in
    built c.args.problem.now c.args.trial.now c.build.result _ _ c.deref.result.now c.requires.once (c.in_ok-top.ensures ∙ ap (map lane_shown) c.rows.ensures) (c.in_ok-bottom.ensures ∙ ap (map lane_shown) c.rows-2.ensures)
    (c.deref.ensures.value ∙ c.in_ok-xs.ensures) e.of_problem e.top e.bottom e.xs e.agree
