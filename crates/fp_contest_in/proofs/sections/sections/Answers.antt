use Rattle.fp_tech.specs.Book.{tech_names}
use Rattle.fp_contest_in.specs.KeptLaws.{still_lie}
use Rattle.fp_contest_in.proofs.sections.sections.Goals as goal

pub returns-clause-lie : goal.returns-clause-lie
returns-clause-lie c =
    still_lie (tech_names c.args.book.now) c.cost.result c.in_ok-found.found c.nine_sections.new.tokens c.cost.new.tokens c.in_ok-found.ensures.complete
    (c.in_ok-check_rows.ensures c.nine_sections.new.tokens) c.cost.ensures.gives
