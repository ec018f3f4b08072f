use Rattle.std.proofs.Common.{[], arith}
use Rattle.std.proofs.lemmas.Result.{err_from_is_err_and}
use Rattle.fp_text.specs.Reading.{many_next}
use Rattle.fp_contest_in.specs.Growing.{lib_item}
use Rattle.fp_contest_in.proofs.Loops.{libs_none, libs_more, libs_fault, libs_all}
use Rattle.fp_contest_in.proofs.techs.libs.Goals as goal

pub loop-init : goal.loop-init
loop-init c = libs_none c.args.tech.0 c.args.count c.args.book.now c.args.tokens.now c.requires.there c.requires.none c.requires.no_names

pub next_lib-requires-clause-there : goal.next_lib-requires-clause-there
next_lib-requires-clause-there c = c.loop.invariant.below

pub next_lib-requires-clause-room : goal.next_lib-requires-clause-room
next_lib-requires-clause-room c = omega (arith, c.loop.invariant.many)

pub returns-in_err-next_lib : goal.returns-in_err-next_lib
returns-in_err-next_lib c =
    let p = err_from_is_err_and c.from_residual.result c.from_residual.ensures.1 in
    rw (p.1, p.2) (libs_fault c.in_err-next_lib.field-0.0 c.args.tech.0 c.args.count c.loop.counter c.args.book.now c.loop.book c.loop.tokens
    (many_next lib_item c.args.count [] c.args.tokens.now) c.loop-test.true c.loop.invariant c.in_err-next_lib.ensures)

pub loop-preserved : goal.loop-preserved
loop-preserved c =
    libs_more c.args.tech.0 c.args.count c.loop.counter c.args.book.now c.loop.book c.next_lib.new.book c.loop.tokens c.next_lib.new.tokens
    (many_next lib_item c.args.count [] c.args.tokens.now) c.loop-test.true c.loop.invariant c.in_ok-next_lib.ensures

pub returns : goal.returns
returns c =
    libs_all c.args.tech.0 c.args.count c.loop.counter c.args.book.now c.loop.book c.loop.tokens
    (many_next lib_item c.args.count [] c.args.tokens.now) c.loop-test.false c.loop.invariant
