use Rattle.std.proofs.Common.{◌∙◌}
use Rattle.fp_base.specs.declared.ids.Die.TheVariants.{Top, Bottom}
use Rattle.fp_place.proofs.CutLemmas.{touches_by_ids, ids_within, cut_first, cut_second}
use Rattle.fp_place.proofs.cut_nets.is_cut.Goals as goal

pub touches-requires-clause-conns : goal.touches-requires-clause-conns
touches-requires-clause-conns c = ids_within c.args.problem.now c.args.net.0 _ c.conns_of_net-conns.ensures

pub touches-requires-then-touches-clause-conns : goal.touches-requires-then-touches-clause-conns
touches-requires-then-touches-clause-conns c = ids_within c.args.problem.now c.args.net.0 _ c.conns_of_net-conns.ensures

pub returns-then-touches : goal.returns-then-touches
returns-then-touches c =
    cut_second c.args.problem.now c.args.dies.now c.args.net.0 _ _ c.if-touches.true
    (c.touches.ensures ∙ touches_by_ids c.args.problem.now c.args.dies.now Top c.args.net.0 _ c.conns_of_net-conns.ensures)
    (c.touches-then-touches.ensures ∙ touches_by_ids c.args.problem.now c.args.dies.now Bottom c.args.net.0 _ c.conns_of_net-conns.ensures)

pub returns-else-touches : goal.returns-else-touches
returns-else-touches c =
    cut_first c.args.problem.now c.args.dies.now c.args.net.0 _ c.if-touches.false
    (c.touches.ensures ∙ touches_by_ids c.args.problem.now c.args.dies.now Top c.args.net.0 _ c.conns_of_net-conns.ensures)
