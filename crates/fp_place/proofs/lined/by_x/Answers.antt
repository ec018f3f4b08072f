use Rattle.std.proofs.Common.{◌≡◌, sym, subst, arith}
use Rattle.fp_place.specs.LaneOrder.{AreByX, cells_alone}
use Rattle.fp_place.proofs.LinOrder.{ok_then, sorted_by_x}
use Rattle.fp_place.proofs.lined.by_x.Goals as goal

pub returns : goal.returns
returns c =
    ok_then c.cells_of.result (λ cells. cells.items ≡ cells_alone c.as_slice.result.now) (λ order. AreByX c.args.places.now order.items) c.cells_of.ensures
    (λ cells is. subst (AreByX c.args.places.now) (sym is)
    (subst (λ entries. AreByX c.args.places.now (cells_alone entries)) (sym c.as_slice.ensures.value)
    (sorted_by_x c.args.places.now c.loop-cell.cell c.loop-cell.order.items c.sort.new.self.items (omega arith) c.loop-cell.invariant
    c.in_ok-sort.ensures.permutation c.in_ok-sort.ensures.sorted)))
