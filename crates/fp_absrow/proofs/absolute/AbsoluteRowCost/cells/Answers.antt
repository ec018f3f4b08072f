use Rattle.std.proofs.Common.{arith}
use Rattle.fp_absrow.proofs.Measures.{few, absolute_are_convex}
use Rattle.fp_absrow.proofs.absolute.AbsoluteRowCost.cells.Goals as goal

pub overflow_cast-result : goal.overflow_cast-result
overflow_cast-result c =
    let small = few c.self.inside.cells.now c.self.invariant in
    omega arith

pub returns-clause-convex : goal.returns-clause-convex
returns-clause-convex c = rw (← c.self.view_is) (absolute_are_convex c.self.inside.cells.now c.self.invariant)
