use Rattle.std.proofs.Common.{◌∙◌, ap}
use Rattle.fp_score.specs.declared.reaches.Reaches.{Reaches}
use Rattle.fp_score.specs.Reaches.{with_terminal}
use Rattle.fp_score.proofs.Pins.{length_is, terminal_near}
use Rattle.fp_score.proofs.lengths.net_length.Goals as goal

pub with_terminal-requires-clause-terminal : goal.with_terminal-requires-clause-terminal
with_terminal-requires-clause-terminal c = terminal_near c.args.problem.now c.args.placement.now c.args.net.0 c.terminal.result c.requires.of_problem c.terminal.ensures

pub returns-clause-length : goal.returns-clause-length
returns-clause-length c =
    c.length.ensures.length
    ∙ length_is c.args.problem.now c.args.placement.now c.args.net.0 c.terminal.result c.with_terminal.result c.terminal.ensures c.requires.net c.requires.terminals
    (c.with_terminal.ensures.with ∙ ap (λ (r : Reaches). with_terminal r c.terminal.result) c.net_reaches.ensures.reaches)
