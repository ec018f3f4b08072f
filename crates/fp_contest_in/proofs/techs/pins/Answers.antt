use Rattle.std.proofs.Common.{[], arith}
use Rattle.std.proofs.lemmas.Result.{err_from_is_err_and}
use Rattle.fp_text.specs.Reading.{many_next}
use Rattle.fp_contest_in.specs.Growing.{pin_item}
use Rattle.fp_contest_in.proofs.Growth.{counted_none}
use Rattle.fp_contest_in.proofs.Loops.{add_pin, pins_there, pins_room, pins_more, pins_fault, pins_all}
use Rattle.fp_contest_in.proofs.techs.pins.Goals as goal

pub loop-init : goal.loop-init
loop-init c = counted_none (add_pin c.args.tech.0 c.args.lib.0) pin_item c.args.count c.args.book.now c.args.tokens.now

pub next_pin-requires-clause-room : goal.next_pin-requires-clause-room
next_pin-requires-clause-room c =
    omega (
      arith,
      pins_room c.args.tech.0 c.args.lib.0 c.args.count c.loop.counter c.args.book.now c.loop.book c.loop.tokens
          (many_next pin_item c.args.count [] c.args.tokens.now) c.requires.there c.requires.none c.loop.invariant,
    )

pub next_pin-requires-clause-there : goal.next_pin-requires-clause-there
next_pin-requires-clause-there c =
    pins_there c.args.tech.0 c.args.lib.0 c.args.count c.loop.counter c.args.book.now c.loop.book c.loop.tokens
    (many_next pin_item c.args.count [] c.args.tokens.now) c.requires.there c.loop.invariant

pub returns-in_err-next_pin : goal.returns-in_err-next_pin
returns-in_err-next_pin c =
    let p = err_from_is_err_and c.from_residual.result c.from_residual.ensures.1 in
    rw (p.1, p.2) (pins_fault c.in_err-next_pin.field-0.0 c.args.tech.0 c.args.lib.0 c.args.count c.loop.counter c.args.book.now c.loop.book c.loop.tokens
    (many_next pin_item c.args.count [] c.args.tokens.now) c.loop-test.true c.requires.there c.requires.none c.loop.invariant c.in_err-next_pin.ensures)

pub loop-preserved : goal.loop-preserved
loop-preserved c =
    pins_more c.args.tech.0 c.args.lib.0 c.args.count c.loop.counter c.args.book.now c.loop.book c.next_pin.new.book c.loop.tokens c.next_pin.new.tokens
    (many_next pin_item c.args.count [] c.args.tokens.now) c.loop-test.true c.requires.there c.requires.none c.loop.invariant c.in_ok-next_pin.ensures

pub returns : goal.returns
returns c =
    pins_all c.args.tech.0 c.args.lib.0 c.args.count c.loop.counter c.args.book.now c.loop.book c.loop.tokens
    (many_next pin_item c.args.count [] c.args.tokens.now) c.loop-test.false c.loop.invariant
