use Rattle.std.proofs.Common.{rules}
use Rattle.fp_tech.specs.Book.{lib_in}
use Rattle.fp_tech.specs.BookLaws.{cell_within}
use Rattle.fp_tech.proofs.BookLemmas.{pins_are}
use Rattle.fp_tech.proofs.book.TechBook.cell.Goals as goal

pub returns-clause-within : goal.returns-clause-within
unfolding lib_in
returns-clause-within c = cell_within c.args.self.now c.args.tech.0 c.args.lib.0 c.unwrap.result.now c.library.ensures.book (search rules)

pub returns-clause-pins : goal.returns-clause-pins
unfolding lib_in
returns-clause-pins c = pins_are c.args.self.now c.args.tech.0 c.args.lib.0 c.unwrap.result.now (search rules)
