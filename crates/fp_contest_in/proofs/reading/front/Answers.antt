use Rattle.std.proofs.lemmas.Result.{err_from_is_err_and}
use Rattle.fp_contest_in.proofs.Dies.{techs_read, sections_fail, blocks_fail, front_done}
use Rattle.fp_contest_in.proofs.reading.front.Goals as goal

pub returns-in_err-found : goal.returns-in_err-found
returns-in_err-found c =
    let p = err_from_is_err_and c.from_residual-in_err-found.result c.from_residual-in_err-found.ensures.1 in
    let techs = techs_read c.args.tokens.now c.techs.new.tokens c.new-book.result c.techs.new.book c.new-book.ensures c.in_ok-techs.ensures in
    rw (p.1, p.2) (sections_fail c.in_err-found.field-0.0 c.techs.new.book c.args.tokens.now c.techs.new.tokens techs c.in_err-found.ensures.gives)

pub returns-in_err-listed : goal.returns-in_err-listed
returns-in_err-listed c =
    let p = err_from_is_err_and c.from_residual-in_err-listed.result c.from_residual-in_err-listed.ensures.1 in
    let techs = techs_read c.args.tokens.now c.techs.new.tokens c.new-book.result c.techs.new.book c.new-book.ensures c.in_ok-techs.ensures in
    rw (p.1, p.2) (blocks_fail c.in_err-listed.field-0.0 c.techs.new.book c.in_ok-found.found c.args.tokens.now c.techs.new.tokens c.sections.new.tokens techs c.in_ok-found.ensures.gives
    c.in_err-listed.ensures.gives)

pub returns : goal.returns
returns c =
    let techs = techs_read c.args.tokens.now c.techs.new.tokens c.new-book.result c.techs.new.book c.new-book.ensures c.in_ok-techs.ensures in
    front_done c.dies_of.result c.techs.new.book c.in_ok-found.found c.in_ok-listed.listed.at c.in_ok-listed.listed.blocks.items c.args.tokens.now c.techs.new.tokens c.sections.new.tokens
    c.blocks-2.new.tokens techs c.in_ok-found.ensures.gives c.in_ok-listed.ensures.gives c.dies_of.ensures
