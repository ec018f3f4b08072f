use Rattle.std.proofs.Common.{ap}
use Rattle.fp_tech.specs.declared.dies.TermSpec.{TermSpec}
use Rattle.fp_tech.specs.Book.{tech_names}
use Rattle.fp_contest_in.specs.PrintedText.{setup_said}
use Rattle.fp_text.specs.WritingLaws.{in_turn, as_piece}
use Rattle.fp_contest_in.proofs.PrintedSections.{cost_lines, sections_are}
use Rattle.fp_contest_in.proofs.printing.write_sections.Goals as goal

pub returns-clause-adds : goal.returns-clause-adds
returns-clause-adds g c =
    let cost = as_piece (ap (λ (terminal : TermSpec). cost_lines terminal.cost) c.terminal.ensures.terminal) c.write_cost.ensures.adds in
    as_piece (sections_are (tech_names c.args.dies.now.book) (setup_said c.args.dies.now))
    (in_turn c.write_frame.ensures.adds
    (in_turn c.write_percent.ensures.adds
    (in_turn c.write_percent-2.ensures.adds
    (in_turn c.write_rows.ensures.adds
    (in_turn c.write_rows-2.ensures.adds
    (in_turn c.write_die_tech.ensures.adds
    (in_turn c.write_die_tech-2.ensures.adds
    (in_turn c.write_terminal.ensures.adds cost))))))))
