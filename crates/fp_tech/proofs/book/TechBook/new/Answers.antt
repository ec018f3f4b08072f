use Rattle.fp_tech.proofs.BookLemmas.{nothing_kept}
use Rattle.fp_tech.proofs.book.TechBook.new.Goals as goal

pub invariant_of-result : goal.invariant_of-result
invariant_of-result c = nothing_kept _ _ _ c.new.ensures c.new-2.ensures c.new-3.ensures.items
