use Rattle.std.proofs.Common.{FitsSigned, w64, rules}
use Rattle.std.proofs.lemmas.Int.{to_z-of_z}
use Rattle.fp_absrow.proofs.Cells.{shown_is_best}
use Rattle.fp_absrow.proofs.shown.convex_shown.Goals as goal

pub returns-then-is_feasible-clause-best : goal.returns-then-is_feasible-clause-best
returns-then-is_feasible-clause-best g c =
    let a : FitsSigned w64 c.args.lo = search rules in
    let b : FitsSigned w64 c.args.hi = search rules in
    let feasible = simp to_z-of_z at c.is_feasible.ensures.0 in
    let shown = simp to_z-of_z at c.are_duals.ensures.0 in
    λ h. shown_is_best (g.C.RowCost.cells_of c.args.costs.now) c.args.lo c.args.hi c.args.xs.now c.args.duals.now c.cells-convex.ensures.convex c.requires.row (feasible c.if-is_feasible.true) (shown h)
