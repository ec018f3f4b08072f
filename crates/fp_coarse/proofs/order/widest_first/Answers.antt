use Rattle.std.proofs.Common.{◌≡◌, ℕ, ◌<◌, ℤ, length, All, map, sym, ap, subst, ◌∙◌}
use Rattle.fp_base.specs.declared.ids.CellId.{CellId}
use Rattle.fp_score.specs.Pick.{widest_first}
use Rattle.fp_coarse.specs.Orders.{numbers_of}
use Rattle.fp_coarse.proofs.Widest.{order_is, order_within, ok_then}
use Rattle.fp_coarse.proofs.order.widest_first.Goals as goal

pub returns-clause-order : goal.returns-clause-order
returns-clause-order c =
    ok_then c.cells_of.result _ (λ cells. numbers_of cells.items ≡ widest_first c.args.problem.now c.args.dies.now c.args.die) c.cells_of.ensures
    (λ cells is. ap numbers_of (is ∙ ap (map (λ (entry : ℤ × ℕ). let id : CellId = record { 0 = entry.1 } in id)) c.as_slice.ensures.value)
    ∙ order_is c.args.problem.now c.args.dies.now c.args.die c.in_ok-entries.entries.items c.sort_unstable.new.self.items c.in_ok-entries.ensures
    c.sort_unstable.ensures.permutation c.sort_unstable.ensures.sorted)

pub returns-clause-within : goal.returns-clause-within
returns-clause-within c =
    ok_then c.cells_of.result _ (λ cells. All (λ (cell : CellId). cell.0 < length c.args.problem.now.cells) cells.items) c.cells_of.ensures
    (λ cells is. subst (All (λ (cell : CellId). cell.0 < length c.args.problem.now.cells))
    (sym (is ∙ ap (map (λ (entry : ℤ × ℕ). let id : CellId = record { 0 = entry.1 } in id)) c.as_slice.ensures.value))
    (order_within c.args.problem.now c.args.dies.now c.args.die c.in_ok-entries.entries.items c.sort_unstable.new.self.items c.in_ok-entries.ensures c.sort_unstable.ensures.permutation))
