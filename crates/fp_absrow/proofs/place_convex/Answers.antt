use Rattle.std.proofs.Common.{FitsSigned, w64, rules}
use Rattle.std.proofs.lemmas.Int.{to_z-of_z}
use Rattle.fp_absrow.proofs.Cells.{ArePlaced, placed}
use Rattle.fp_absrow.proofs.place_convex.Given as given
use Rattle.fp_absrow.proofs.place_convex.Goals as goal
use Rattle.fp_absrow.proofs.place_convex.Goals.{After-place_cells}

whole : (g : given.Over) (c : After-place_cells g) → ArePlaced (g.C.RowCost.cells_of c.args.costs.now) c.args.lo c.args.hi c.place_cells.new.xs
whole g c =
    let a : FitsSigned w64 c.args.lo = search rules in
    let b : FitsSigned w64 c.args.hi = search rules in
    let tight = simp to_z-of_z at c.place_cells.ensures.tight in
    placed (g.C.RowCost.cells_of c.args.costs.now) c.args.lo c.args.hi c.place_cells.new.xs c.place_cells.ensures.convex c.requires.row tight

pub set_needs-requires-clause-places : goal.set_needs-requires-clause-places
set_needs-requires-clause-places g c = (whole g (goal.at.set_needs-requires-clause-places g c).After-place_cells).places

pub raise_to_least-requires-clause-places : goal.raise_to_least-requires-clause-places
raise_to_least-requires-clause-places g c = (whole g (goal.at.raise_to_least-requires-clause-places g c).After-place_cells).places

pub returns-clause-feasible : goal.returns-clause-feasible
returns-clause-feasible g c = (whole g (goal.at.returns-clause-feasible g c).After-place_cells).feasible

pub returns-clause-best : goal.returns-clause-best
returns-clause-best g c = (whole g (goal.at.returns-clause-best g c).After-place_cells).best

pub returns-clause-duals : goal.returns-clause-duals
returns-clause-duals g c = rw c.raise_to_least.ensures (whole g (goal.at.returns-clause-duals g c).After-place_cells).shown

pub returns-clause-small : goal.returns-clause-small
returns-clause-small g c = rw c.raise_to_least.ensures (whole g (goal.at.returns-clause-small g c).After-place_cells).small
