use Rattle.std.proofs.Common.{◌∙◌}
use Rattle.fp_place.proofs.FaultLemmas.{handed}
use Rattle.fp_place.proofs.JoiningLemmas.{seventh_broken, edges_broken, apart_broken, all_joined, found_in_range}
use Rattle.fp_place.proofs.joining.join.Goals as goal

pub returns-in_err-centres : goal.returns-in_err-centres
returns-in_err-centres c =
    handed c.from_residual-in_err-centres.result _ _ c.in_err-centres.field-0.0 c.from_residual-in_err-centres.ensures.1
    (seventh_broken c.args.problem.now c.args.drawn.now c.deref.result.now c.args.places.now c.terminals.result.now _ (c.deref.ensures.value ∙ c.in_ok-dies.ensures) c.terminals.ensures.lines c.in_err-centres.ensures)

pub check_edges-requires-clause-range : goal.check_edges-requires-clause-range
check_edges-requires-clause-range c =
    found_in_range c.args.problem.now c.args.drawn.now c.deref.result.now c.terminals.result.now _ c.in_ok-centres.centres.items c.terminals.ensures.lines c.deref-2.ensures.value c.terminals.ensures.range.centres c.in_ok-centres.ensures

pub returns-in_err-check_edges : goal.returns-in_err-check_edges
returns-in_err-check_edges c =
    handed c.from_residual-in_err-check_edges.result _ _ c.in_err-check_edges.field-0.0 c.from_residual-in_err-check_edges.ensures.1
    (edges_broken c.args.problem.now c.args.drawn.now c.deref.result.now c.args.places.now c.terminals.result.now c.deref-2.result.now c.in_ok-centres.centres.items _
    (c.deref.ensures.value ∙ c.in_ok-dies.ensures) c.terminals.ensures.lines c.deref-2.ensures.value c.in_ok-centres.ensures c.in_err-check_edges.ensures)

pub check_apart-requires-clause-range : goal.check_apart-requires-clause-range
check_apart-requires-clause-range c =
    found_in_range c.args.problem.now c.args.drawn.now c.deref.result.now c.terminals.result.now _ c.in_ok-centres.centres.items c.terminals.ensures.lines c.deref-3.ensures.value c.terminals.ensures.range.centres c.in_ok-centres.ensures

pub returns-in_err-check_apart : goal.returns-in_err-check_apart
returns-in_err-check_apart c =
    handed c.from_residual-in_err-check_apart.result _ _ c.in_err-check_apart.field-0.0 c.from_residual-in_err-check_apart.ensures.1
    (apart_broken c.args.problem.now c.args.drawn.now c.deref.result.now c.args.places.now c.terminals.result.now c.terminals-2.result.now c.deref-2.result.now c.deref-3.result.now c.in_ok-centres.centres.items _
    (c.deref.ensures.value ∙ c.in_ok-dies.ensures) c.terminals.ensures.lines c.terminals-2.ensures.lines c.deref-2.ensures.value c.deref-3.ensures.value c.in_ok-centres.ensures c.in_ok-check_edges.ensures c.in_err-check_apart.ensures)

pub returns : goal.returns
returns c =
    all_joined c.args.problem.now c.args.drawn.now c.deref.result.now c.args.places.now c.terminals.result.now c.terminals-2.result.now c.deref-2.result.now c.deref-3.result.now c.in_ok-centres.centres.items
    (c.deref.ensures.value ∙ c.in_ok-dies.ensures) c.terminals.ensures.lines c.terminals-2.ensures.lines c.deref-2.ensures.value c.deref-3.ensures.value c.terminals.ensures.range.centres
    c.in_ok-centres.ensures c.in_ok-check_edges.ensures c.in_ok-check_apart.ensures
