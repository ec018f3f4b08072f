use Rattle.std.proofs.Common.{ap}
use Rattle.fp_text.specs.WritingLaws.{in_turn, as_piece}
use Rattle.fp_contest_in.proofs.PrintedSections.{terminal_lines}
use Rattle.fp_contest_in.proofs.printing.write_terminal.Goals as goal

pub returns-clause-adds : goal.returns-clause-adds
returns-clause-adds g c =
    as_piece (ap terminal_lines c.terminal-terminal.ensures.terminal) (in_turn c.write_numbers_line.ensures.adds c.write_numbers_line-2.ensures.adds)
