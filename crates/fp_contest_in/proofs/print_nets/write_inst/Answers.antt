use Rattle.std.proofs.Common.{◌<◌, ◌∙◌, slice_get, length, subst, sym, ap}
use Rattle.fp_tech.specs.Book.{Book}
use Rattle.fp_text.specs.WritingLaws.{as_piece}
use Rattle.fp_contest_in.proofs.PrintedNets.{lib_of_named, inst_written}
use Rattle.fp_contest_in.proofs.print_nets.write_inst.Goals as goal

pub lib_name-lib-requires : goal.lib_name-lib-requires
lib_name-lib-requires g c =
    let named = lib_of_named c.args.problem.now c.args.cell.0 c.requires.sound c.requires.cell in
    let book = c.book.ensures.book ∙ ap (λ plan. plan.book) c.dies.ensures in
    subst (λ (b : Book). c.lib_of.result.0 < length b.names) (sym book) (subst (λ k. k < length c.args.problem.now.plan.book.names) (sym c.lib_of.ensures.lib) named)

pub returns-clause-adds : goal.returns-clause-adds
returns-clause-adds g c = λ cell at.
    let book = c.book.ensures.book ∙ ap (λ plan. plan.book) c.dies.ensures in
    let named = (λ i. slice_get (sym book i).names (sym c.lib_of.ensures.lib i)) ∙ c.lib_name-lib.ensures in
    as_piece (inst_written c.args.problem.now c.args.cell.0 cell c.cell_name.result.now c.lib_name-lib.result.now at c.cell_name.ensures named) c.write_pair_line.ensures.adds
