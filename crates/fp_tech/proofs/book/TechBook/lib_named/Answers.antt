use Rattle.std.proofs.Common.{arith}
use Rattle.fp_tech.proofs.BookLemmas.{seen}
use Rattle.fp_tech.proofs.book.TechBook.lib_named.Goals as goal

pub overflow_cast-result : goal.overflow_cast-result
overflow_cast-result c =
    let s = seen _ _ _ _ c.self.invariant c.self.view_is in omega (arith, s.few_names, c.in_ok-place.ensures.within)
