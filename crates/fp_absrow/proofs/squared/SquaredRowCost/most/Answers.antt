use Rattle.std.proofs.Common.{◌≡◌, pos, ◌*◌, ◌^◌, ◌∙◌, ap, FitsSigned, w64, get_or, arith, unsigned_abs}
use Rattle.std.proofs.lemmas.Int.{ints, to_z-of_z}
use Rattle.fp_rows.specs.declared.RowCell.{RowCell}
use Rattle.fp_absrow.specs.Measures.{squared_cell}
use Rattle.fp_absrow.proofs.Measures.{IsThere, there, squared_at, size_is, steepest_is}
use Rattle.fp_absrow.proofs.squared.SquaredRowCost.most.Goals as goal
use Rattle.fp_absrow.proofs.squared.SquaredRowCost.most.Goals.{After-unsigned_abs}

abbrev none : RowCell
none = record { width = pos 0; target = pos 0; weight = pos 0 }

here : (c : After-unsigned_abs) → IsThere c.self.inside.cells.now c.args.self.now c.args.cell none
here c = there c.self.inside.cells.now c.args.self.now c.args.cell none squared_cell c.self.invariant c.self.view_is c.requires

size : (c : After-unsigned_abs) → c.unsigned_abs.result ≡ unsigned_abs (get_or c.self.inside.cells.now c.args.cell none).weight
size c =
    let h = here c in
    let fits : FitsSigned w64 (get_or c.self.inside.cells.now c.args.cell none).weight = omega (arith, ints, h.cell.weight_from, h.light) in
    simp to_z-of_z at c.unsigned_abs.ensures.value

pub overflow_mul-result : goal.overflow_mul-result
overflow_mul-result c =
    let d = (goal.at.overflow_mul-result c).After-unsigned_abs in
    let h = here d in
    let s = size d in
    let e = size_is (get_or c.self.inside.cells.now c.args.cell none).weight (omega (arith, ints, h.cell.weight_from)) in
    omega (arith, ints, h.light)

pub returns : goal.returns
unfolding squared_cell
returns c =
    let d = (goal.at.returns c).After-unsigned_abs in
    let cells = c.self.inside.cells.now in
    let h = here d in
    let is = squared_at cells c.args.cell none h.within in
    rw (← c.self.view_is, is) (ap (λ n. n * 2 ^ 35) (size d) ∙ steepest_is (get_or cells c.args.cell none).weight h.cell.weight_from)
