use Rattle.std.proofs.Common.{FitsSigned, w64, rules, ◌+ℤ◌, List, ℤ, map, subst}
use Rattle.std.proofs.lemmas.Int.{to_z-of_z}
use Rattle.fp_rows.specs.declared.RowCell.{RowCell}
use Rattle.fp_cert.specs.RowsLaws.{cell_for}
use Rattle.fp_flow.specs.Rows.{IsPlacedRow, placed_row}
use Rattle.fp_flow.proofs.Placings.{placed_is_best}
use Rattle.fp_flow.proofs.Slottings.{on_ok}
use Rattle.fp_flow.proofs.rows.place_lane.Goals as goal

pub returns : goal.returns
returns c =
    let p = c.args.problem.now in
    let segment = c.args.segment.now in
    let lane = c.args.lane.now in
    let targets = c.args.targets.now in
    let xs = c.place_cells.new.scratch.xs.items in
    let duals = c.place_cells.new.scratch.duals.items in
    let from_fits : FitsSigned w64 c.start_of.result = search rules in
    let to_fits : FitsSigned w64 c.end_of.result = search rules in
    let shown : IsPlacedRow c.fill_cells.new.cells.items c.start_of.result c.end_of.result xs duals =
    rw (to_z-of_z w64 c.start_of.result from_fits, to_z-of_z w64 c.end_of.result to_fits) at c.in_ok-place_cells.ensures in
    let placed : IsPlacedRow (map (cell_for p c.args.die targets) lane) segment.start (segment.start +ℤ segment.length) xs duals =
    subst (λ (to : ℤ). IsPlacedRow (map (cell_for p c.args.die targets) lane) segment.start to xs duals) c.end_of.ensures
    (subst (λ (from : ℤ). IsPlacedRow (map (cell_for p c.args.die targets) lane) from c.end_of.result xs duals) c.start_of.ensures
    (subst (λ (list : List RowCell). IsPlacedRow list c.start_of.result c.end_of.result xs duals) c.in_ok-fill_cells.ensures shown)) in
    on_ok c.push_lane.result (λ new. record { row = placed_row lane targets xs duals; new_is = new; is_best = placed_is_best p c.args.die segment lane targets xs duals placed }) c.push_lane.ensures
