use Rattle.std.proofs.Common.{pos, FitsSigned, w64, get_or, arith}
use Rattle.std.proofs.lemmas.Int.{ints, to_z-of_z}
use Rattle.fp_rows.specs.declared.RowCell.{RowCell}
use Rattle.fp_absrow.specs.Measures.{absolute_cell}
use Rattle.fp_absrow.proofs.Measures.{there, absolute_at}
use Rattle.fp_absrow.proofs.absolute.AbsoluteRowCost.width.Goals as goal

abbrev none : RowCell
none = record { width = pos 0; target = pos 0; weight = pos 0 }

pub returns : goal.returns
unfolding absolute_cell
returns c =
    let cells = c.self.inside.cells.now in
    let here = there cells c.args.self.now c.args.cell none absolute_cell c.self.invariant c.self.view_is c.requires in
    let is = absolute_at cells c.args.cell none here.within in
    let fits : FitsSigned w64 (get_or cells c.args.cell none).width = omega (arith, ints, here.cell.width_from, here.cell.width_to) in
    rw (← c.self.view_is, is) (simp to_z-of_z)
