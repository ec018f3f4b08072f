use Rattle.std.proofs.Common.{◌≡◌, sym, subst}
use Rattle.fp_gains.specs.OrderParts.{AreByArea, cells_alone}
use Rattle.fp_gains.proofs.SortLemmas.{ok_then, sorted_by_area}
use Rattle.fp_gains.proofs.order.by_area.Goals as goal

pub returns : goal.returns
returns c =
    ok_then c.cells_of.result (λ cells. cells.items ≡ cells_alone c.as_slice.result.now) (λ cells. AreByArea c.args.problem.now c.args.die cells.items) c.cells_of.ensures
    (λ cells is. subst (AreByArea c.args.problem.now c.args.die) (sym is)
    (subst (λ entries. AreByArea c.args.problem.now c.args.die (cells_alone entries)) (sym c.as_slice.ensures.value)
    (sorted_by_area c.args.problem.now c.args.die c.in_ok-entries.entries.items c.sort_unstable.new.self.items c.in_ok-entries.ensures
    c.sort_unstable.ensures.permutation c.sort_unstable.ensures.sorted)))
