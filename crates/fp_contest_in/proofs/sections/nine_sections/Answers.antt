use Rattle.std.proofs.Common.{length, sym, ◌∙◌}
use Rattle.std.proofs.lemmas.Result.{err_from_is_err_and}
use Rattle.fp_tech.specs.Book.{tech_names}
use Rattle.fp_contest_in.specs.Statements.{sections_next, none_found}
use Rattle.fp_contest_in.specs.KeptLaws.{sections_complete}
use Rattle.fp_contest_in.proofs.SectionLoop.{sections_none, sections_more, sections_fault, sections_all, sections_ended}
use Rattle.fp_contest_in.proofs.sections.nine_sections.Goals as goal

pub loop-init : goal.loop-init
loop-init c = sections_none (length c.args.book.now.techs) (tech_names c.args.book.now) c.args.tokens.now

pub loop-preserved : goal.loop-preserved
loop-preserved c =
    sections_more (length c.args.book.now.techs) (tech_names c.args.book.now) c.loop.counter c.loop.found c.in_ok-found.found c.loop.tokens c.next_section.new.tokens
    (sections_next (tech_names c.args.book.now) 10 none_found c.args.tokens.now) c.loop-test.true (sym c.has_nine.ensures ∙ c.if-has_nine.false) c.in_ok-found.ensures.gives
    c.in_ok-found.ensures.range c.loop.invariant

pub returns-in_err-found-clause-gives : goal.returns-in_err-found-clause-gives
returns-in_err-found-clause-gives c =
    let p = err_from_is_err_and c.from_residual.result c.from_residual.ensures.1 in
    rw (p.1, p.2) (sections_fault c.in_err-found.field-0.0 (length c.args.book.now.techs) (tech_names c.args.book.now) c.loop.counter c.loop.found c.loop.tokens
    (sections_next (tech_names c.args.book.now) 10 none_found c.args.tokens.now) c.loop-test.true (sym c.has_nine.ensures ∙ c.if-has_nine.false) c.in_err-found.ensures.gives c.loop.invariant)

pub returns-after-loop-clause-gives : goal.returns-after-loop-clause-gives
returns-after-loop-clause-gives c =
    sections_all (length c.args.book.now.techs) (tech_names c.args.book.now) c.loop.counter c.loop.found c.loop.tokens
    (sections_next (tech_names c.args.book.now) 10 none_found c.args.tokens.now) c.loop-test.false c.loop.invariant

pub returns-after-loop-clause-complete : goal.returns-after-loop-clause-complete
returns-after-loop-clause-complete c =
    sections_complete (tech_names c.args.book.now) c.loop.found c.args.tokens.now c.loop.tokens
    (sections_all (length c.args.book.now.techs) (tech_names c.args.book.now) c.loop.counter c.loop.found c.loop.tokens
    (sections_next (tech_names c.args.book.now) 10 none_found c.args.tokens.now) c.loop-test.false c.loop.invariant)

pub returns-then-has_nine-clause-gives : goal.returns-then-has_nine-clause-gives
returns-then-has_nine-clause-gives c =
    sections_ended (length c.args.book.now.techs) (tech_names c.args.book.now) c.loop.counter c.loop.found c.loop.tokens
    (sections_next (tech_names c.args.book.now) 10 none_found c.args.tokens.now) (sym c.has_nine.ensures ∙ c.if-has_nine.true) c.loop.invariant
