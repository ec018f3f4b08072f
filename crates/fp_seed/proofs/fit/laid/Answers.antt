use Rattle.std.proofs.Common.{◌≡◌, map, ap, sym, subst, ◌∙◌}
use Rattle.fp_score.specs.FirstFit.{Seat}
use Rattle.fp_seed.specs.LanesLaws.{AreLanes, stand_once}
use Rattle.fp_seed.proofs.Standing.{seating_lanes, xs_in_range, laid_where_ok}
use Rattle.fp_seed.proofs.fit.laid.Goals as goal
use Rattle.fp_seed.proofs.fit.laid.Goals.{After-deref-2}

lanes : (c : After-deref-2) → AreLanes c.args.problem.now c.args.seating.seats.items c.into_lanes-top.result c.into_lanes-bottom.result
lanes c =
    subst (λ top. AreLanes c.args.problem.now c.args.seating.seats.items top c.into_lanes-bottom.result) (sym c.into_lanes-top.ensures)
    (subst (AreLanes c.args.problem.now c.args.seating.seats.items c.args.seating.top.lanes) (sym c.into_lanes-bottom.ensures)
    (seating_lanes c.args.problem.now c.args.seating c.requires.seating))

xs_are : (c : After-deref-2) → c.deref-2.result.now ≡ map (λ (seat : Seat). seat.x) c.args.seating.seats.items
xs_are c = c.deref-2.ensures.value ∙ c.in_ok-xs.ensures ∙ ap (map (λ (seat : Seat). seat.x)) c.deref.ensures.value

pub build-requires-clause-once : goal.build-requires-clause-once
build-requires-clause-once c =
    stand_once c.args.problem.now c.args.seating.seats.items c.into_lanes-top.result c.into_lanes-bottom.result (lanes c) c.requires.range c.requires.all

pub build-requires-clause-range : goal.build-requires-clause-range
build-requires-clause-range c = xs_in_range c.args.problem.now c.args.seating.seats.items c.deref-2.result.now c.requires.range (xs_are c)

pub returns : goal.returns
returns c =
    let at = (goal.at.returns c).After-deref-2 in
    laid_where_ok c.args.problem.now c.args.seating.seats.items c.into_lanes-top.result c.into_lanes-bottom.result c.deref-2.result.now c.build.result
    (lanes at) c.requires.all (xs_are at) c.build.ensures.of_problem c.build.ensures.top c.build.ensures.bottom c.build.ensures.xs c.build.ensures.terminals c.build.ensures.agree
