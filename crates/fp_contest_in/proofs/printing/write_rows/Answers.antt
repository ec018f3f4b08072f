use Rattle.std.proofs.Common.{◌∙◌}
use Rattle.fp_contest_in.specs.PrintedText.{line}
use Rattle.fp_text.specs.WritingLaws.{as_piece}
use Rattle.fp_contest_in.proofs.PrintedSections.{die_is, rows_fields}
use Rattle.fp_contest_in.proofs.printing.write_rows.Goals as goal

pub returns-clause-adds : goal.returns-clause-adds
returns-clause-adds g c =
    let spec = c.spec-spec.ensures.spec ∙ die_is c.args.dies.now c.args.die in
    as_piece (λ i. line (c.rows_word.ensures i) (rows_fields (spec i))) c.write_numbers_line.ensures.adds
