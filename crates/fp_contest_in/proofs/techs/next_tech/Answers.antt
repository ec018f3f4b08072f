use Rattle.std.proofs.Common.{arith}
use Rattle.fp_tech.specs.BookLaws.{techs-with_tech, libs_of-with_tech_new}
use Rattle.fp_contest_in.proofs.Growth.{knows_none}
use Rattle.fp_contest_in.proofs.techs.next_tech.Goals as goal

pub libs-requires-clause-there : goal.libs-requires-clause-there
libs-requires-clause-there c =
    rw (c.in-Ok.ensures.2, c.in-Ok.ensures.1) (omega (arith, techs-with_tech c.args.book.now c.in_ok-name.name.text.now))

pub libs-requires-clause-none : goal.libs-requires-clause-none
libs-requires-clause-none c = rw (c.in-Ok.ensures.2, c.in-Ok.ensures.1) (libs_of-with_tech_new c.args.book.now c.in_ok-name.name.text.now)

pub libs-requires-clause-no_names : goal.libs-requires-clause-no_names
libs-requires-clause-no_names c = rw (c.in-Ok.ensures.2, c.in-Ok.ensures.1) (knows_none c.args.book.now c.in_ok-name.name.text.now)
