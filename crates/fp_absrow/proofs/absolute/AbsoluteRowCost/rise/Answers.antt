use Rattle.std.proofs.Common.{◌≡◌, pos, ◌-ℤ◌, ◌≤ℤ◌, ◌<ℤ◌, FitsSigned, w64, get_or, arith, sym}
use Rattle.std.proofs.lemmas.Int.{ints, to_z-of_z}
use Rattle.fp_rows.specs.declared.RowCell.{RowCell}
use Rattle.fp_absrow.specs.Measures.{absolute_cell, absolute_rise}
use Rattle.fp_absrow.proofs.Measures.{IsThere, there, absolute_at, turned_before, turned_from}
use Rattle.fp_absrow.proofs.absolute.AbsoluteRowCost.rise.Goals as goal
use Rattle.fp_absrow.proofs.absolute.AbsoluteRowCost.rise.Goals.{After-from-weight}
use mir.Syntax.{w128}

abbrev none : RowCell
none = record { width = pos 0; target = pos 0; weight = pos 0 }

here : (c : After-from-weight) → IsThere c.self.inside.cells.now c.args.self.now c.args.cell none
here c = there c.self.inside.cells.now c.args.self.now c.args.cell none absolute_cell c.self.invariant c.self.view_is c.requires.cell

weight : (c : After-from-weight) → c.from-weight.result ≡ (get_or c.self.inside.cells.now c.args.cell none).weight
weight c =
    let h = here c in
    let fits : FitsSigned w64 (get_or c.self.inside.cells.now c.args.cell none).weight = omega (arith, ints, h.cell.weight_from, h.light) in
    simp to_z-of_z at c.from-weight.ensures

pub returns-then-at-cell : goal.returns-then-at-cell
unfolding absolute_cell absolute_rise
returns-then-at-cell c =
    let d = (goal.at.returns-then-at-cell c).After-from-weight in
    let cells = c.self.inside.cells.now in
    let cell = get_or cells c.args.cell none in
    let h = here d in
    let w = weight d in
    let t = c.requires.told in
    let is = absolute_at cells c.args.cell none h.within in
    let a : FitsSigned w64 c.args.at = omega (arith, ints, t.0, t.1) in
    let b : FitsSigned w64 cell.target = omega (arith, ints, h.cell.target_from, h.cell.target_to) in
    let before : c.args.at <ℤ cell.target = omega (arith, ints) in
    let e : FitsSigned w128 cell.weight = omega (arith, ints, h.cell.weight_from, h.light) in
    let f : FitsSigned w128 (pos 0 -ℤ cell.weight) = omega (arith, ints, h.cell.weight_from, h.light) in
    let turned = turned_before cell.weight (c.args.at -ℤ cell.target) (omega (arith, ints)) in
    rw (← c.self.view_is, is, w) (simp to_z-of_z (omega (arith, ints)))

pub returns-else-at-cell : goal.returns-else-at-cell
unfolding absolute_cell absolute_rise
returns-else-at-cell c =
    let d = (goal.at.returns-else-at-cell c).After-from-weight in
    let cells = c.self.inside.cells.now in
    let cell = get_or cells c.args.cell none in
    let h = here d in
    let w = weight d in
    let t = c.requires.told in
    let is = absolute_at cells c.args.cell none h.within in
    let a : FitsSigned w64 c.args.at = omega (arith, ints, t.0, t.1) in
    let b : FitsSigned w64 cell.target = omega (arith, ints, h.cell.target_from, h.cell.target_to) in
    let from : cell.target ≤ℤ c.args.at = omega (arith, ints) in
    let e : FitsSigned w128 cell.weight = omega (arith, ints, h.cell.weight_from, h.light) in
    let turned = turned_from cell.weight (c.args.at -ℤ cell.target) (omega (arith, ints)) in
    rw (← c.self.view_is, is, w) (simp to_z-of_z (sym turned))
