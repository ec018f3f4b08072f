-- Squared distances are convex, so that duals show a row's positions to be the best.
use Rattle.std.proofs.Common.{◌≡◌, ℕ, ℤ, pos, ◌+ℤ◌, ◌-ℤ◌, ◌*ℤ◌, ◌≤ℤ◌, List, [], ◌∷◌, arith, ap, ◌∙◌}
use Rattle.std.proofs.lemmas.Int.{ints}
use Rattle.std.proofs.lemmas.List.Elements.{recursion_from_All}
use Rattle.std.specs.List.{AllByRecursion}
use Rattle.fp_rows.specs.declared.RowCell.{RowCell}
use Rattle.fp_rows.specs.Rows.{IsConvexOn}
use Rattle.fp_rows.specs.RunsLaws.{IsSized}
use Rattle.fp_rows.specs.Squares.{width_of, squared_cost, squared_rise, IsCell, AreCells, Feasible, AreDuals, IsBest}
use Rattle.fp_rows.specs.Products.{mul-add, add-mul, mul-le_by}
use Rattle.fp_rows.specs.Duality.{duals_show_best}

next_square : (u : ℤ) → (u +ℤ pos 1) *ℤ (u +ℤ pos 1) ≡ u *ℤ u +ℤ (pos 2 *ℤ u +ℤ pos 1)
next_square u =
    let e = mul-add (u +ℤ pos 1) u (pos 1) in
    let f = add-mul u (pos 1) u in
    omega (arith, ints)

pub squares_are_convex : (low high : ℤ) (c : RowCell) → IsCell c → IsConvexOn low high width_of squared_cost squared_rise c
unfolding squared_cost squared_rise
squares_are_convex low high c h = record {
  wide = omega (arith, ints, h.width_from);
  step = λ x a b. steps c.weight x c.target;
  grows = λ x a b. grow c.weight x c.target (omega (arith, ints));
}
  where
    steps : (w x t : ℤ) → w *ℤ (((x +ℤ pos 1) -ℤ t) *ℤ ((x +ℤ pos 1) -ℤ t)) ≡ w *ℤ ((x -ℤ t) *ℤ (x -ℤ t)) +ℤ w *ℤ (pos 2 *ℤ (x -ℤ t) +ℤ pos 1)
    steps w x t =
        let u = x -ℤ t in
        let shift : (x +ℤ pos 1) -ℤ t ≡ u +ℤ pos 1 = omega (arith, ints) in
        ap (λ v. w *ℤ (v *ℤ v)) shift ∙ ap (λ v. w *ℤ v) (next_square u) ∙ mul-add w (u *ℤ u) (pos 2 *ℤ u +ℤ pos 1)

    grow : (w x t : ℤ) → pos 0 ≤ℤ w → (w *ℤ (pos 2 *ℤ (x -ℤ t) +ℤ pos 1)) ≤ℤ (w *ℤ (pos 2 *ℤ ((x +ℤ pos 1) -ℤ t) +ℤ pos 1))
    grow w x t h = mul-le_by w _ _ h (omega (arith, ints))

all_convex : (low high : ℤ) (cells : List RowCell) → AllByRecursion IsCell cells → AllByRecursion (IsConvexOn low high width_of squared_cost squared_rise) cells
all_convex low high [] h = tt
all_convex low high (c ∷ cs) h = (squares_are_convex low high c h.0, all_convex low high cs h.1)

-- feasible positions that have duals are the best
pub shown_is_best : (cells : List RowCell) (lo hi : ℤ) (xs : List ℤ) (duals : List ℕ) → AreCells cells → Feasible cells lo hi xs → AreDuals cells lo hi xs duals → IsBest cells lo hi xs
shown_is_best cells lo hi xs duals h feasible shown =
    duals_show_best lo hi width_of squared_cost squared_rise lo hi cells xs duals (all_convex lo hi cells (recursion_from_All IsCell cells h.each)) (omega (arith, ints)) (omega (arith, ints)) feasible shown

pub squares_sized : (cells : List RowCell) → AllByRecursion IsCell cells → AllByRecursion (IsSized width_of) cells
squares_sized [] h = tt
squares_sized (c ∷ cs) h = (omega (arith, ints, h.0.width_from), squares_sized cs h.1)
