use Rattle.std.proofs.Common.{◌≡◌, pos, ◌-ℤ◌, ◌*ℤ◌, unsigned_abs, FitsSigned, w64, get_or, arith, ap, ◌∙◌}
use Rattle.std.proofs.lemmas.Int.{ints, to_z-of_z}
use Rattle.fp_rows.specs.declared.RowCell.{RowCell}
use Rattle.fp_absrow.specs.Measures.{absolute_cell, absolute_cost}
use Rattle.fp_absrow.proofs.Measures.{there, absolute_at, product_range, distance_range}
use Rattle.fp_absrow.proofs.absolute.AbsoluteRowCost.cost.Goals as goal
use mir.Syntax.{w128}

abbrev none : RowCell
none = record { width = pos 0; target = pos 0; weight = pos 0 }

pub returns : goal.returns
unfolding absolute_cell absolute_cost
returns c =
    let cells = c.self.inside.cells.now in
    let cell = get_or cells c.args.cell none in
    let h = there cells c.args.self.now c.args.cell none absolute_cell c.self.invariant c.self.view_is c.requires.cell in
    let is = absolute_at cells c.args.cell none h.within in
    let t = c.requires.told in
    let fits : FitsSigned w64 cell.weight = omega (arith, ints, h.cell.weight_from, h.light) in
    let a : FitsSigned w64 c.args.at = omega (arith, ints, t.0, t.1) in
    let b : FitsSigned w64 cell.target = omega (arith, ints, h.cell.target_from, h.cell.target_to) in
    let d : FitsSigned w64 (c.args.at -ℤ cell.target) = omega (arith, ints, t.0, t.1, h.cell.target_from, h.cell.target_to) in
    let weight : c.from.result ≡ cell.weight = simp to_z-of_z at c.from.ensures in
    let size : c.unsigned_abs.result ≡ unsigned_abs (c.args.at -ℤ cell.target) = simp to_z-of_z at c.unsigned_abs.ensures.value in
    let far : c.from-2.result ≡ pos (unsigned_abs (c.args.at -ℤ cell.target)) = c.from-2.ensures ∙ ap pos size in
    let near = distance_range (c.args.at -ℤ cell.target) (omega (arith, ints, t.0, h.cell.target_to)) (omega (arith, ints, t.1, h.cell.target_from)) in
    let range = product_range cell.weight (pos (unsigned_abs (c.args.at -ℤ cell.target))) h.cell.weight_from h.light near.0 near.1 in
    let e : FitsSigned w128 cell.weight = omega (arith, ints, h.cell.weight_from, h.light) in
    let f : FitsSigned w128 (pos (unsigned_abs (c.args.at -ℤ cell.target))) = omega (arith, ints, near.0, near.1) in
    let g : FitsSigned w128 (cell.weight *ℤ pos (unsigned_abs (c.args.at -ℤ cell.target))) = omega (arith, ints, range.0, range.1) in
    rw (← c.self.view_is, is, weight, far) (simp to_z-of_z)
