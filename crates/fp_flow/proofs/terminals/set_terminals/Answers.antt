use Rattle.std.proofs.Common.{◌∙◌, length, set, Some, ap, sym, arith}
use Rattle.fp_tech.specs.Slots.{centre_of}
use Rattle.fp_place.specs.Placed.{Placed}
use Rattle.fp_flow.specs.Slotted.{with_slots}
use Rattle.fp_flow.proofs.Slottings.{none_yet, one_more, length-with_slots}
use Rattle.fp_flow.proofs.terminals.set_terminals.Goals as goal

pub loop-row-init : goal.loop-row-init
loop-row-init c =
    ap (λ terminals. record c.args.placement.now { terminals = terminals }) (sym (none_yet c.args.grid.now c.args.costs.now c.args.matcher.now.chosen c.args.placement.now.terminals))

pub set_terminal-requires : goal.set_terminal-requires
set_terminal-requires c =
    let long = ap (λ (placed : Placed). length placed.terminals) c.loop-row.invariant ∙ length-with_slots c.args.grid.now c.args.costs.now c.args.matcher.now.chosen c.loop-row.row c.args.placement.now.terminals in
    omega (arith, long, c.net_of.ensures, c.requires.nets c.loop-row.row (omega (arith, c.loop-row-test.true, c.rows-row-end.ensures.value)))

pub loop-row-preserved : goal.loop-row-preserved
loop-row-preserved c =
    let table = c.args.costs.now in
    let chosen = c.args.matcher.now.chosen in
    let before = with_slots c.args.grid.now table chosen c.loop-row.row c.args.placement.now.terminals in
    let centre = c.centre.ensures ∙ ap (centre_of c.args.grid.now) c.column_of.ensures in
    c.set_terminal.ensures ∙ ap (λ (placed : Placed). record placed { terminals = set placed.terminals c.net_of.result.0 (Some c.centre.result) }) c.loop-row.invariant
    ∙ ap (λ terminals. record c.args.placement.now { terminals = terminals })
    ((λ i. set before (c.net_of.ensures i) (Some (centre i))) ∙ one_more c.args.grid.now table chosen c.loop-row.row c.args.placement.now.terminals)
