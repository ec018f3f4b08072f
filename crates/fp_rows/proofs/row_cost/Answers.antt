use Rattle.std.proofs.Common.{pos, ◌+ℤ◌, ◌+◌, FitsSigned, w64, get_or, rules, to_z}
use Rattle.std.proofs.lemmas.Int.{to_z-of_z}
use mir.Syntax.{w128}
use Rattle.fp_rows.proofs.Costs.{IsCosted, weight_here, cost_more, total_fits}
use Rattle.fp_rows.proofs.row_cost.Goals as goal
use Rattle.fp_rows.proofs.row_cost.Goals.{After-square_at-total}

pub square_at-total-requires-clause-weight : goal.square_at-total-requires-clause-weight
square_at-total-requires-clause-weight c = weight_here c.args.cells.now _ c.loop-i.i _ c.loop-i-test.true c.loop-i.invariant.left

next : (c : After-square_at-total) → IsCosted c.args.cells.now c.args.xs.now (c.loop-i.i + 1) (to_z w128 c.loop-i.total-bits +ℤ c.square_at-total.result)
next c =
    let place : FitsSigned w64 (get_or c.args.xs.now c.loop-i.i (pos 0)) = search rules in
    let cost = simp to_z-of_z at c.square_at-total.ensures in
    rw cost (cost_more c.args.cells.now c.args.xs.now c.loop-i.i (to_z w128 c.loop-i.total-bits) _ _ c.loop-i-test.true c.requires.places.count c.loop-i.invariant)

pub overflow_add-total : goal.overflow_add-total
overflow_add-total c =
    let fits : FitsSigned w128 c.square_at-total.result = search rules in
    simp to_z-of_z (total_fits _ _ _ _ (next c))

pub loop-i-preserved : goal.loop-i-preserved
loop-i-preserved c =
    let fits : FitsSigned w128 c.square_at-total.result = search rules in
    let sum : FitsSigned w128 (to_z w128 c.loop-i.total-bits +ℤ c.square_at-total.result) = total_fits _ _ _ _ (next c) in
    simp to_z-of_z (next c)
