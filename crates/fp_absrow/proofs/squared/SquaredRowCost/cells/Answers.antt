use Rattle.std.proofs.Common.{arith}
use Rattle.fp_absrow.proofs.Measures.{few, squared_are_convex}
use Rattle.fp_absrow.proofs.squared.SquaredRowCost.cells.Goals as goal

pub overflow_cast-result : goal.overflow_cast-result
overflow_cast-result c =
    let small = few c.self.inside.cells.now c.self.invariant in
    omega arith

pub returns-clause-convex : goal.returns-clause-convex
returns-clause-convex c = rw (← c.self.view_is) (squared_are_convex c.self.inside.cells.now c.self.invariant)
