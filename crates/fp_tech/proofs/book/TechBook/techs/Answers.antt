use Rattle.std.proofs.Common.{arith}
use Rattle.fp_tech.proofs.BookLemmas.{seen}
use Rattle.fp_tech.proofs.book.TechBook.techs.Goals as goal

pub overflow_cast-result : goal.overflow_cast-result
overflow_cast-result c =
    let s = seen _ _ _ _ c.self.invariant c.self.view_is in omega (arith, s.few, c.len.ensures)

pub returns-clause-count : goal.returns-clause-count
returns-clause-count c =
    let s = seen _ _ _ _ c.self.invariant c.self.view_is in omega (arith, c.len.ensures, s.many, c.self.inside.techs.ok.0)
