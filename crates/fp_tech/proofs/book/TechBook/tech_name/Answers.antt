use Rattle.std.proofs.Common.{◌∙◌, ap, sym, slice_get, arith}
use Rattle.fp_tech.proofs.BookLemmas.{seen}
use Rattle.fp_tech.proofs.book.TechBook.tech_name.Goals as goal

pub name-requires : goal.name-requires
name-requires c =
    let s = seen _ _ _ _ c.self.invariant c.self.view_is in omega (arith, s.as_many, s.many, c.requires)

pub returns : goal.returns
returns c =
    let s = seen _ _ _ _ c.self.invariant c.self.view_is in
    ap (λ ns. slice_get ns c.args.tech.0) (sym s.techs_are) ∙ c.name.ensures
