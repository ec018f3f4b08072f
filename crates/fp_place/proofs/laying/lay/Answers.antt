use Rattle.std.proofs.Common.{◌∙◌}
use Rattle.fp_place.proofs.LinedUpLemmas.{laid, xs_in_range}
use Rattle.fp_place.proofs.laying.lay.Goals as goal

pub returns : goal.returns
returns c =
    laid c.args.problem.now c.args.places.now c.args.centres.now c.args.lined.top c.args.lined.bottom c.in_ok-placement.placement c.set_terminals.new.placement c.deref.result.now c.requires.places
    c.requires.lined c.requires.centres c.requires.range c.in_ok-placement.ensures.of_problem c.in_ok-placement.ensures.top c.in_ok-placement.ensures.bottom c.in_ok-placement.ensures.xs
    (c.deref.ensures.value ∙ c.in_ok-xs.ensures) c.see_named.ensures c.set_terminals.ensures

pub build-requires-clause-range : goal.build-requires-clause-range
build-requires-clause-range c =
    xs_in_range c.args.problem.now c.args.places.now c.requires.lined.numbers c.deref.result.now c.cells-cells.ensures.sound.plan c.requires.places c.requires.lined.on_segments (c.deref.ensures.value ∙ c.in_ok-xs.ensures)
