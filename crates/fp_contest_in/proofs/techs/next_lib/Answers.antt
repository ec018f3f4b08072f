use Rattle.fp_tech.specs.BookLaws.{has-with_lib, pins_in-with_lib}
use Rattle.fp_contest_in.proofs.techs.next_lib.Goals as goal

pub pins-requires-clause-there : goal.pins-requires-clause-there
pins-requires-clause-there c =
    rw (c.in-Ok.ensures.2, c.in-Ok.ensures.1)
    (has-with_lib c.args.book.now c.args.tech.0 c.in_ok-name.name.text.now c.in_ok-width.width c.in_ok-width.height c.in_ok-name.ensures.new.1 c.requires.there c.in_ok-name.ensures.new.0)

pub pins-requires-clause-none : goal.pins-requires-clause-none
pins-requires-clause-none c =
    rw (c.in-Ok.ensures.2, c.in-Ok.ensures.1)
    (pins_in-with_lib c.args.book.now c.args.tech.0 c.in_ok-name.name.text.now c.in_ok-width.width c.in_ok-width.height c.in_ok-name.ensures.new.1 c.requires.there c.in_ok-name.ensures.new.0)
