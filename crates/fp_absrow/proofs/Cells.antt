-- What the laws of convex cells give: bounds, that duals show the best, and the same of tight positions.
use Rattle.std.proofs.Common.{◌≡◌, ℕ, zero, suc, ◌^◌, ◌<◌, ◌≤◌, ℤ, pos, negsuc, neg_ℤ, ◌+ℤ◌, ◌-ℤ◌, ◌≤ℤ◌, List, [], ◌∷◌, length, take, drop, All, arith, refl}
use Rattle.std.proofs.lemmas.Int.{ints, clamps}
use Rattle.std.specs.Int.{int_max}
use Rattle.std.proofs.lemmas.List.Elements.{recursion_from_All, All-from_recursion}
use Rattle.std.specs.List.{AllByRecursion}
use Rattle.fp_rows.specs.Rows.{FeasibleBy, IsConvexOn}
use Rattle.fp_rows.specs.Squares.{IsPlace}
use Rattle.fp_rows.specs.Lists.{each_behind}
use Rattle.fp_rows.specs.Duality.{duals_show_best}
use Rattle.fp_rows.specs.Runs.{total_most}
use Rattle.fp_rows.specs.RunsLaws.{IsSized}
use Rattle.fp_rows.specs.LeastDuals.{above, least_duals}
use Rattle.fp_rows.specs.TightLaws.{AreRises, tight_is_feasible, tight_is_shown}
use Rattle.fp_rows.specs.NeedsLaws.{AreSmall, least_small}
use Rattle.fp_absrow.specs.ConvexCells.{ConvexCell, width_of, cost_of, rise_of, most_of, cell_at, no_cell, IsTold, IsConvexCell, AreConvexCells, HasRoom, ConvexFeasible, ConvexBest, ConvexDuals}
use Rattle.fp_absrow.specs.Spans.{some_cells}
use Rattle.fp_absrow.specs.Tight.{AreTight}

pub cell_of : (cells : List ConvexCell) (i : ℕ) → AreConvexCells cells → i < length cells → IsConvexCell (cell_at cells i)
cell_of cells i h lt = h.each i no_cell lt

sized : (cells : List ConvexCell) → AllByRecursion IsConvexCell cells → AllByRecursion (IsSized width_of) cells
sized [] h = tt
sized (c ∷ cs) h = (omega (arith, ints, h.0.width_from), sized cs h.1)

pub are_sized : (cells : List ConvexCell) → AreConvexCells cells → AllByRecursion (IsSized width_of) cells
are_sized cells h = sized cells (recursion_from_All IsConvexCell cells h.each)

-- ---- rises
most_at : (cells : List ConvexCell) (i : ℕ) → i < length cells → (cell_at cells i).most ≤ total_most most_of cells
most_at [] i lt = absurd (omega arith)
most_at (c ∷ cs) zero lt = omega arith
most_at (c ∷ cs) (suc i) lt =
    let others = most_at cs i (omega arith) in
    omega arith

pub rise_range : (cells : List ConvexCell) (i : ℕ) (x : ℤ) → AreConvexCells cells → i < length cells → IsTold x → (neg_ℤ (pos (2 ^ 57)) ≤ℤ (cell_at cells i).rise x) × ((cell_at cells i).rise x ≤ℤ pos (2 ^ 57))
rise_range cells i x h lt told =
    let c = cell_of cells i h lt in
    let few = most_at cells i lt in
    let all = h.most in
    let low = c.low x told in
    let high = c.high x told in
    (omega (arith, ints), omega (arith, ints))

pub are_rises : (cells : List ConvexCell) (xs : List ℤ) → AllByRecursion IsConvexCell cells → AllByRecursion IsPlace xs → AreRises rise_of most_of cells xs
are_rises [] xs each places = tt
are_rises (c ∷ cs) [] each places = tt
are_rises (c ∷ cs) (x ∷ xs) each places =
    let before : IsTold (x -ℤ pos 1) = (omega (arith, ints, places.0), omega (arith, ints, places.0)) in
    let here : IsTold x = (omega (arith, ints, places.0), omega (arith, ints, places.0)) in
    let back : (x -ℤ pos 1) +ℤ pos 1 ≡ x = omega (arith, ints) in
    let again : IsTold ((x -ℤ pos 1) +ℤ pos 1) = rw back here in
    ((each.0.low (x -ℤ pos 1) before, rw back at (each.0.grows (x -ℤ pos 1) before again), each.0.high x here), are_rises cs xs each.1 places.1)

pub small_rises : (cells : List ConvexCell) (xs : List ℤ) → AreConvexCells cells → length xs ≡ length cells → All IsPlace xs → AreSmall rise_of most_of cells xs
small_rises cells xs h count places = record {
  count = count;
  near = are_rises cells xs (recursion_from_All IsConvexCell cells h.each) (recursion_from_All IsPlace xs places);
  few = h.most;
}

-- ---- duals show the best
convex : (c : ConvexCell) → IsConvexCell c → IsConvexOn (pos 0) (pos (2 ^ 31)) width_of cost_of rise_of c
convex c h = record {
  wide = omega (arith, ints, h.width_from);
  step = λ x a b. (let e = h.difference x (omega (arith, ints), omega (arith, ints)) (omega (arith, ints), omega (arith, ints)) in omega (arith, ints));
  grows = λ x a b. h.grows x (omega (arith, ints), omega (arith, ints)) (omega (arith, ints), omega (arith, ints));
}

all_convex : (cells : List ConvexCell) → AllByRecursion IsConvexCell cells → AllByRecursion (IsConvexOn (pos 0) (pos (2 ^ 31)) width_of cost_of rise_of) cells
all_convex [] h = tt
all_convex (c ∷ cs) h = (convex c h.0, all_convex cs h.1)

pub shown_is_best : (cells : List ConvexCell) (lo hi : ℤ) (xs : List ℤ) (duals : List ℕ) → AreConvexCells cells → HasRoom cells lo hi → ConvexFeasible cells lo hi xs → ConvexDuals cells lo hi xs duals → ConvexBest cells lo hi xs
shown_is_best cells lo hi xs duals h row feasible shown =
    duals_show_best (pos 0) (pos (2 ^ 31)) width_of cost_of rise_of lo hi cells xs duals (all_convex cells (recursion_from_All IsConvexCell cells h.each)) row.start row.finish feasible shown

-- ---- tight positions
feasible_range : (cells : List ConvexCell) (xs : List ℤ) (from to : ℤ) → AllByRecursion IsConvexCell cells → pos 0 ≤ℤ from → to ≤ℤ pos (2 ^ 31) → FeasibleBy width_of from to cells xs → (length xs ≡ length cells) × AllByRecursion IsPlace xs × (from ≤ℤ to)
feasible_range [] [] from to each low high f = (refl, tt, f)
feasible_range [] (x ∷ xs) from to each low high f = absurd f
feasible_range (c ∷ cs) [] from to each low high f = absurd f
feasible_range (c ∷ cs) (x ∷ xs) from to each low high f =
    let wide = each.0.width_from in
    let rest = feasible_range cs xs (x +ℤ c.width) to each.1 (omega (arith, ints, f.0)) high f.1 in
    let end = rest.2 in
    (omega (arith, rest.0), ((omega (arith, ints, f.0), omega (arith, ints)), rest.1), omega (arith, ints, f.0))

-- what holds of tight positions in a row
pub record ArePlaced (cells : List ConvexCell) (lo hi : ℤ) (xs : List ℤ) : Type 0 where
  pub count : length xs ≡ length cells
  pub places : All IsPlace xs
  pub feasible : ConvexFeasible cells lo hi xs
  pub best : ConvexBest cells lo hi xs
  pub shown : ConvexDuals cells lo hi xs (least_duals rise_of 0 cells xs)
  pub small : All (λ dual. dual ≤ 2 ^ 57) (least_duals rise_of 0 cells xs)

pub placed : (cells : List ConvexCell) (lo hi : ℤ) (xs : List ℤ) → AreConvexCells cells → HasRoom cells lo hi → AreTight cells lo hi xs → ArePlaced cells lo hi xs
placed cells lo hi xs h row tight =
    let feasible = tight_is_feasible width_of rise_of cells xs lo hi 0 tight in
    let range = feasible_range cells xs lo hi (recursion_from_All IsConvexCell cells h.each) row.start row.finish feasible in
    let places = All-from_recursion IsPlace xs range.1 in
    let small = small_rises cells xs h range.0 places in
    let shown = tight_is_shown width_of rise_of most_of cells xs lo hi small.near tight in
    record {
      count = range.0;
      places = places;
      feasible = feasible;
      best = shown_is_best cells lo hi xs (least_duals rise_of 0 cells xs) h row feasible shown;
      shown = shown;
      small = All-from_recursion (λ dual. dual ≤ 2 ^ 57) (least_duals rise_of 0 cells xs) (least_small rise_of most_of cells xs 0 small.near (omega (arith, small.few)));
    }

-- ---- numbers from 0
pub raised : (z : ℤ) → int_max z (pos 0) ≡ pos (above z)
unfolding above
raised (pos n) = omega (arith, ints, clamps)
raised (negsuc n) = omega (arith, ints, clamps)

-- ---- some of the cells
sized_front : (cells : List ConvexCell) (count : ℕ) → AllByRecursion (IsSized width_of) cells → AllByRecursion (IsSized width_of) (take count cells)
sized_front cells zero h = tt
sized_front [] (suc count) h = tt
sized_front (c ∷ cs) (suc count) h = (h.0, sized_front cs count h.1)

pub some_sized : (cells : List ConvexCell) (first count : ℕ) → AreConvexCells cells → AllByRecursion (IsSized width_of) (some_cells first count cells)
some_sized cells first count h = sized_front (drop first cells) count (each_behind (IsSized width_of) cells first (are_sized cells h))
