use Rattle.std.proofs.Common.{FitsSigned, w64, rules, ◌≡◌, ◌+◌, List, ℕ, ℤ, length, drop, sym, subst, arith}
use Rattle.std.proofs.lemmas.Int.{to_z-of_z}
use Rattle.fp_rows.specs.declared.RowCell.{RowCell}
use Rattle.fp_rows.specs.Squares.{Feasible, IsBest, AreDuals, width_of, squared_rise}
use Rattle.fp_flow.specs.Rows.{IsPlacedRow}
use Rattle.fp_flow.proofs.Placings.{written_whole, xs_long, duals_long}
use Rattle.fp_flow.proofs.rows.place_in.Goals as goal

pub returns : goal.returns
returns c =
    let cells = c.args.cells.now in
    let lo_fits : FitsSigned w64 c.args.lo = search rules in
    let hi_fits : FitsSigned w64 c.args.hi = search rules in
    let lo = to_z-of_z w64 c.args.lo lo_fits in
    let hi = to_z-of_z w64 c.args.hi hi_fits in
    let feasible : Feasible cells c.args.lo c.args.hi c.place_row.new.xs = rw (lo, hi) at c.place_row.ensures.feasible in
    let best : IsBest cells c.args.lo c.args.hi c.place_row.new.xs = rw (lo, hi) at c.place_row.ensures.best in
    let shown : AreDuals cells c.args.lo c.args.hi c.place_row.new.xs c.place_row.new.duals = rw (lo, hi) at c.place_row.ensures.duals in
    let many : length c.place_row.new.xs ≡ length cells = xs_long width_of c.args.lo c.args.hi cells c.place_row.new.xs feasible in
    let many_duals : length c.place_row.new.duals ≡ length cells + 1 = duals_long width_of squared_rise c.args.lo c.args.hi cells c.place_row.new.xs c.place_row.new.duals shown in
    let xs = written_whole c.resize_with-2.new.self.len c.place_row.new.xs (drop (length c.place_row.new.xs) c.resize_with-2.new.self.items) (omega (arith, many, c.in_ok-resize_with-2.ensures.len)) in
    let duals = written_whole c.resize_with-3.new.self.len c.place_row.new.duals (drop (length c.place_row.new.duals) c.resize_with-3.new.self.items) (omega (arith, many_duals, c.in_ok-resize_with-3.ensures.len)) in
    placed_by (sym xs) (sym duals) (record { many = many; many_duals = many_duals; best = best; shown = shown; small = c.place_row.ensures.small })
  where
    placed_by : {cells : List RowCell} {lo hi : ℤ} {xs others : List ℤ} {duals more : List ℕ} → xs ≡ others → duals ≡ more → IsPlacedRow cells lo hi xs duals → IsPlacedRow cells lo hi others more
    placed_by {cells = cells} {lo = lo} {hi = hi} {xs = xs} {more = more} same same_duals placed =
        subst (λ (list : List ℤ). IsPlacedRow cells lo hi list more) same (subst (λ (list : List ℕ). IsPlacedRow cells lo hi xs list) same_duals placed)
