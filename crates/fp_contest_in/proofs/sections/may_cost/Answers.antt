use Rattle.fp_tech.specs.Book.{tech_names}
use Rattle.fp_contest_in.specs.KeptLaws.{still_complete}
use Rattle.fp_contest_in.proofs.sections.may_cost.Goals as goal

pub returns-then-begins-clause-complete : goal.returns-then-begins-clause-complete
returns-then-begins-clause-complete c =
    still_complete (tech_names c.args.book.now) c.next_section.result c.args.found c.args.tokens.now c.next_section.new.tokens c.requires.complete c.next_section.ensures.gives
