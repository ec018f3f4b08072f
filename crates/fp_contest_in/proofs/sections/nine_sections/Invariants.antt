use Rattle.std.proofs.Common.{length}
use Rattle.fp_tech.specs.Book.{tech_names}
use Rattle.fp_contest_in.specs.Statements.{sections_next, none_found}
use Rattle.fp_contest_in.proofs.SectionLoop.{SectionsSoFar}
use Rattle.fp_contest_in.proofs.sections.nine_sections.Given as goal

abbrev pub invariant-loop : goal.invariant-loop
invariant-loop l = SectionsSoFar (length l.book.techs) (tech_names l.book) l.counter l.found l.tokens (sections_next (tech_names l.book) 10 none_found l.initial.tokens)
