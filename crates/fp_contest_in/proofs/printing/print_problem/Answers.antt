use Rattle.std.proofs.Common.{map, sym, ap, ◌∙◌}
use Rattle.fp_tech.specs.Book.{Book, tech_names}
use Rattle.fp_tech.specs.Plan.{Plan}
use Rattle.fp_contest_in.specs.PrintableLaws.{text_is_printable}
use Rattle.fp_contest_in.specs.PrintedText.{techs_lines, sections_lines, blocks_lines, tech_said, setup_said, nets_lines, nets_said}
use Rattle.fp_text.specs.WritingLaws.{in_turn, as_piece, written_on_ok}
use Rattle.fp_contest_in.proofs.PrintedSections.{tech_names_said, inst_names_said}
use Rattle.fp_contest_in.proofs.ReadsBack.{reads_only}
use Rattle.fp_contest_in.proofs.printing.print_problem.Goals as goal

pub returns-clause-written : goal.returns-clause-written
returns-clause-written g c =
    let p = c.args.problem.now in
    let plan = c.dies-dies.ensures in
    let book = c.book.ensures.book ∙ ap (λ (plan : Plan). plan.book) plan in
    let techs = as_piece (ap (λ (b : Book). techs_lines (map (tech_said b.names) b.techs)) book) c.write_techs.ensures.adds in
    let said = sym (tech_names_said p.plan.book.names p.plan.book.techs) in
    let sections = as_piece (ap (λ (plan : Plan). sections_lines (tech_names plan.book) (setup_said plan)) plan ∙ (λ i. sections_lines (said i) (setup_said p.plan))) c.write_sections.ensures.adds in
    let blocks = as_piece (ap blocks_lines (c.blocks-2.ensures.blocks ∙ ap (λ (plan : Plan). plan.blocks) plan)) c.write_blocks.ensures.adds in
    let insts = sym (inst_names_said p.plan.book.names p.cells) in
    let nets = as_piece (λ i. nets_lines (insts i) (nets_said p 0 p.nets)) c.write_nets.ensures.adds in
    written_on_ok c.finish.result c.new-writer.ensures.starts (in_turn (in_turn (in_turn (in_turn techs sections) blocks) c.write_insts.ensures.adds) nets) c.finish.ensures.finishes

pub returns-clause-reads_back : goal.returns-clause-reads_back
returns-clause-reads_back g c = λ bytes text is same. (reads_only text c.args.problem.now (text_is_printable bytes text is) same).0

pub returns-clause-printable : goal.returns-clause-printable
returns-clause-printable g c = λ text is same. reads_only text c.args.problem.now is same
