use Rattle.std.proofs.Common.{pos, ◌+ℤ◌, ◌*ℤ◌, FitsSigned, get_or, arith, ap, ◌∙◌}
use Rattle.std.proofs.lemmas.Int.{ints, to_z-of_z}
use Rattle.fp_rows.specs.declared.RowCell.{RowCell}
use Rattle.fp_rows.specs.Squares.{squared_rise}
use Rattle.fp_absrow.specs.Measures.{squared_cell}
use Rattle.fp_absrow.proofs.Measures.{IsThere, there, IsApart, apart, squared_at, product_range}
use Rattle.fp_absrow.proofs.squared.SquaredRowCost.rise.Goals as goal
use Rattle.fp_absrow.proofs.squared.SquaredRowCost.rise.Goals.{After-from}
use mir.Syntax.{w128}

abbrev none : RowCell
none = record { width = pos 0; target = pos 0; weight = pos 0 }

here : (c : After-from) → IsThere c.self.inside.cells.now c.args.self.now c.args.cell none
here c = there c.self.inside.cells.now c.args.self.now c.args.cell none squared_cell c.self.invariant c.self.view_is c.requires.cell

far : (c : After-from) → IsApart (get_or c.self.inside.cells.now c.args.cell none) c.args.at c.from.result c.from-distance.result
far c =
    let h = here c in
    apart (get_or c.self.inside.cells.now c.args.cell none) c.args.at c.from.result c.from-distance.result h.cell h.light c.requires.told c.from.ensures c.from-distance.ensures

whole : (c : After-from) → FitsSigned w128 (c.from.result *ℤ (pos 2 *ℤ c.from-distance.result +ℤ pos 1))
whole c =
    let f = far c in
    let range = product_range c.from.result (pos 2 *ℤ c.from-distance.result +ℤ pos 1) f.some f.light (omega (arith, ints, f.low)) (omega (arith, ints, f.high)) in
    omega (arith, ints, range.0, range.1)

pub overflow_mul-result : goal.overflow_mul-result
overflow_mul-result c =
    let f = far (goal.at.overflow_mul-result c).After-from in
    let b : FitsSigned w128 c.from-distance.result = omega (arith, ints, f.low, f.high) in
    simp to_z-of_z (omega (arith, ints, f.low, f.high))

pub overflow_mul-result-2 : goal.overflow_mul-result-2
overflow_mul-result-2 c =
    let d = (goal.at.overflow_mul-result-2 c).After-from in
    let f = far d in
    let a : FitsSigned w128 c.from.result = omega (arith, ints, f.some, f.light) in
    let b : FitsSigned w128 c.from-distance.result = omega (arith, ints, f.low, f.high) in
    let e : FitsSigned w128 (pos 2 *ℤ c.from-distance.result) = omega (arith, ints, f.low, f.high) in
    let g : FitsSigned w128 (pos 2 *ℤ c.from-distance.result +ℤ pos 1) = omega (arith, ints, f.low, f.high) in
    simp to_z-of_z (whole d)

pub returns : goal.returns
unfolding squared_cell squared_rise
returns c =
    let d = (goal.at.returns c).After-from in
    let cells = c.self.inside.cells.now in
    let f = far d in
    let a : FitsSigned w128 c.from.result = omega (arith, ints, f.some, f.light) in
    let b : FitsSigned w128 c.from-distance.result = omega (arith, ints, f.low, f.high) in
    let e : FitsSigned w128 (pos 2 *ℤ c.from-distance.result) = omega (arith, ints, f.low, f.high) in
    let g : FitsSigned w128 (pos 2 *ℤ c.from-distance.result +ℤ pos 1) = omega (arith, ints, f.low, f.high) in
    let k = whole d in
    let is = squared_at cells c.args.cell none (here d).within in
    rw (← c.self.view_is, is) (simp to_z-of_z (ap (λ z. z *ℤ (pos 2 *ℤ c.from-distance.result +ℤ pos 1)) f.weight_is ∙ ap (λ z. (get_or cells c.args.cell none).weight *ℤ (pos 2 *ℤ z +ℤ pos 1)) f.distance_is))
