use Rattle.std.proofs.Common.{◌≡◌, ◌+ℤ◌, ◌-ℤ◌, FitsSigned, w64, arith, rules}
use Rattle.std.proofs.lemmas.Int.{ints, to_z-of_z}
use Rattle.fp_rows.specs.Runs.{span}
use Rattle.fp_rows.specs.RunsLaws.{span_low}
use Rattle.fp_absrow.specs.ConvexCells.{width_of}
use Rattle.fp_absrow.proofs.Cells.{are_sized}
use Rattle.fp_absrow.proofs.placing.place_cells.Goals as goal

pub overflow_sub-top : goal.overflow_sub-top
overflow_sub-top g c =
    let r = c.requires.row in
    let low = span_low width_of (g.C.RowCost.cells_of c.args.costs.now) (are_sized (g.C.RowCost.cells_of c.args.costs.now) c.cells.ensures.convex) in
    let width = c.width_of_all.ensures in
    omega (arith, ints, low, r.start, r.ordered, r.finish, r.room)

pub place_spans-requires-clause-row : goal.place_spans-requires-clause-row
place_spans-requires-clause-row g c =
    let r = c.requires.row in
    let low = span_low width_of (g.C.RowCost.cells_of c.args.costs.now) (are_sized (g.C.RowCost.cells_of c.args.costs.now) c.cells.ensures.convex) in
    let width = c.width_of_all.ensures in
    let a : FitsSigned w64 c.args.lo = search rules in
    let b : FitsSigned w64 c.args.hi = search rules in
    let w : FitsSigned w64 c.width_of_all.result = search rules in
    let t : FitsSigned w64 (c.args.hi -ℤ c.width_of_all.result) = omega (arith, ints, low, r.start, r.ordered, r.finish, r.room) in
    let end : (c.args.hi -ℤ c.width_of_all.result) +ℤ span width_of (g.C.RowCost.cells_of c.args.costs.now) ≡ c.args.hi = omega (arith, ints) in
    simp to_z-of_z (rw end r)

pub returns-clause-tight : goal.returns-clause-tight
returns-clause-tight g c =
    let r = c.requires.row in
    let low = span_low width_of (g.C.RowCost.cells_of c.args.costs.now) (are_sized (g.C.RowCost.cells_of c.args.costs.now) c.cells.ensures.convex) in
    let width = c.width_of_all.ensures in
    let a : FitsSigned w64 c.args.lo = search rules in
    let b : FitsSigned w64 c.args.hi = search rules in
    let w : FitsSigned w64 c.width_of_all.result = search rules in
    let t : FitsSigned w64 (c.args.hi -ℤ c.width_of_all.result) = omega (arith, ints, low, r.start, r.ordered, r.finish, r.room) in
    let told = simp to_z-of_z at c.place_spans.ensures in
    let end : (c.args.hi -ℤ c.width_of_all.result) +ℤ span width_of (g.C.RowCost.cells_of c.args.costs.now) ≡ c.args.hi = omega (arith, ints) in
    rw end at told
