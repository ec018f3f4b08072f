use Rattle.std.proofs.Common.{◌∙◌, List, ap}
use Rattle.fp_cert.specs.declared.shown.CutShown.{CutShown}
use Rattle.fp_check.specs.Views.{with_terminals}
use Rattle.fp_check.proofs.Placing.{layout_is}
use Rattle.fp_check.proofs.views.layout_of.Goals as goal

pub returns : goal.returns
returns c =
    let e = c.in_ok-placement.ensures in
    let placed = c.in_ok-placement.placement in
    let set = c.set_terminals.ensures ∙ ap (λ (cuts : List CutShown). record placed { terminals = with_terminals c.args.grid.now cuts placed.terminals }) c.cuts.ensures in
    layout_is c.args.problem.now c.args.grid.now c.args.trial.now placed _ c.nets-nets.ensures.sound.plan c.requires.grid c.requires.placed c.requires.of_problem e.spots e.top e.bottom e.terminals
    e.of_problem e.agree set c.in_ok-targets.ensures
