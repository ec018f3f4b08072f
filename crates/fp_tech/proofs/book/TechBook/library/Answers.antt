use Rattle.std.proofs.Common.{◌∙◌, arith}
use Rattle.fp_tech.proofs.BookLemmas.{seen}
use Rattle.fp_tech.proofs.book.TechBook.library.Goals as goal

pub index-requires : goal.index-requires
index-requires c =
    let s = seen _ _ _ _ c.self.invariant c.self.view_is in omega (arith, s.many, c.requires)

pub returns-clause-libs : goal.returns-clause-libs
returns-clause-libs c =
    let s = seen _ _ _ _ c.self.invariant c.self.view_is in
    c.index.ensures ∙ s.at c.args.tech.0 c.index.result.now (omega (arith, s.many, c.requires))
