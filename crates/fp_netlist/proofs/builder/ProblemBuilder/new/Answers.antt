use Rattle.std.proofs.Common.{subst}
use Rattle.fp_tech.specs.Book.{IsBook}
use Rattle.fp_netlist.proofs.NetlistLemmas.{nothing_kept}
use Rattle.fp_netlist.proofs.builder.ProblemBuilder.new.Goals as goal

pub invariant_of-result : goal.invariant_of-result
invariant_of-result c =
    (nothing_kept c.args.dies c.new.result c.new-3.result c.new-2.result.items c.new-4.result.items
    c.book.ensures.plan (subst IsBook c.book.ensures.book c.techs-technologies.ensures.book) c.new.ensures c.new-2.ensures.items c.new-3.ensures c.new-4.ensures.items).kept
