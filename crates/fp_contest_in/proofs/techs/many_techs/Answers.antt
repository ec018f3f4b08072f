use Rattle.std.proofs.Common.{[], arith}
use Rattle.std.proofs.lemmas.Result.{err_from_is_err_and}
use Rattle.fp_text.specs.Reading.{many_next}
use Rattle.fp_contest_in.specs.Text.{with_tech_text}
use Rattle.fp_contest_in.specs.Growing.{tech_item}
use Rattle.fp_contest_in.proofs.Growth.{counted_none}
use Rattle.fp_contest_in.proofs.Loops.{techs_room, techs_more, techs_fault, techs_all}
use Rattle.fp_contest_in.proofs.techs.many_techs.Goals as goal

pub loop-init : goal.loop-init
loop-init c = counted_none with_tech_text tech_item c.args.count c.args.book.now c.args.tokens.now

pub next_tech-requires : goal.next_tech-requires
next_tech-requires c =
    omega (
      arith,
      techs_room c.args.count c.loop.counter c.args.book.now c.loop.book c.loop.tokens
          (many_next tech_item c.args.count [] c.args.tokens.now) c.requires.none c.loop.invariant,
    )

pub returns-in_err-next_tech : goal.returns-in_err-next_tech
returns-in_err-next_tech c =
    let p = err_from_is_err_and c.from_residual.result c.from_residual.ensures.1 in
    rw (p.1, p.2) (techs_fault c.in_err-next_tech.field-0.0 c.args.count c.loop.counter c.args.book.now c.loop.book c.loop.tokens
    (many_next tech_item c.args.count [] c.args.tokens.now) c.loop-test.true c.requires.none c.loop.invariant c.in_err-next_tech.ensures)

pub loop-preserved : goal.loop-preserved
loop-preserved c =
    techs_more c.args.count c.loop.counter c.args.book.now c.loop.book c.next_tech.new.book c.loop.tokens c.next_tech.new.tokens
    (many_next tech_item c.args.count [] c.args.tokens.now) c.loop-test.true c.requires.none c.loop.invariant c.in_ok-next_tech.ensures

pub returns : goal.returns
returns c =
    techs_all c.args.count c.loop.counter c.args.book.now c.loop.book c.loop.tokens
    (many_next tech_item c.args.count [] c.args.tokens.now) c.loop-test.false c.loop.invariant
