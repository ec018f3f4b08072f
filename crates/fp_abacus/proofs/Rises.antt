-- What the costs of a row's cells rise by is small.
use Rattle.std.proofs.Common.{◌≡◌, ℕ, ◌^◌, ◌≤◌, ℤ, pos, neg_ℤ, ◌+ℤ◌, ◌-ℤ◌, ◌*ℤ◌, ◌≤ℤ◌, List, [], ◌∷◌, arith}
use Rattle.std.proofs.lemmas.Int.{ints}
use Rattle.std.proofs.lemmas.List.Elements.{recursion_from_All}
use Rattle.std.specs.List.{AllByRecursion}
use Rattle.fp_rows.specs.declared.RowCell.{RowCell}
use Rattle.fp_rows.specs.Squares.{IsCell, IsPlace, AreCells, ArePlaces, squared_rise, total_weight}
use Rattle.fp_rows.specs.Products.{mul-le_by}
use Rattle.fp_rows.specs.LeastDuals.{above}
use Rattle.fp_rows.specs.TightLaws.{above-is, AreRises}
use Rattle.fp_rows.specs.NeedsLaws.{AreSmall}
use Rattle.fp_rows.specs.Runs.{total_most}
use Rattle.fp_abacus.proofs.Adding.{grows}

pub rise_range : (c : RowCell) (x : ℤ) → IsCell c → neg_ℤ (pos 1) ≤ℤ x → x ≤ℤ pos (2 ^ 31) → (neg_ℤ (c.weight *ℤ pos (2 ^ 34)) ≤ℤ squared_rise c x) × (squared_rise c x ≤ℤ (c.weight *ℤ pos (2 ^ 34)))
unfolding squared_rise
rise_range c x h low high =
    let slope = pos 2 *ℤ (x -ℤ c.target) +ℤ pos 1 in
    let some : pos 0 ≤ℤ c.weight = omega (arith, ints, h.weight_from) in
    let least = mul-le_by c.weight (neg_ℤ (pos (2 ^ 34))) slope some (omega (arith, ints, h.target_to)) in
    let most = mul-le_by c.weight slope (pos (2 ^ 34)) some (omega (arith, ints, h.target_from)) in
    (omega (arith, ints), most)

-- the most that a cell's cost can rise by, or fall by
pub most_of : RowCell → ℕ
most_of c = above (c.weight *ℤ pos (2 ^ 34))

most_of-is : (c : RowCell) → IsCell c → pos (most_of c) ≡ c.weight *ℤ pos (2 ^ 34)
unfolding most_of
most_of-is c h =
    let e = above-is (c.weight *ℤ pos (2 ^ 34)) in
    omega (arith, ints, h.weight_from)

most_light : (cells : List RowCell) → AllByRecursion IsCell cells → pos (total_most most_of cells) ≡ total_weight cells *ℤ pos (2 ^ 34)
most_light [] h = omega (arith, ints)
most_light (c ∷ cs) h =
    let others = most_light cs h.1 in
    let one = most_of-is c h.0 in
    omega (arith, ints)

pub are_rises : (cells : List RowCell) (xs : List ℤ) → AllByRecursion IsCell cells → AllByRecursion IsPlace xs → AreRises squared_rise most_of cells xs
are_rises [] xs each places = tt
are_rises (c ∷ cs) [] each places = tt
are_rises (c ∷ cs) (x ∷ xs) each places =
    let up_to = rise_range c (x -ℤ pos 1) each.0 (omega (arith, ints, places.0)) (omega (arith, ints, places.0)) in
    let from = rise_range c x each.0 (omega (arith, ints, places.0)) (omega (arith, ints, places.0)) in
    let one = most_of-is c each.0 in
    ((omega (arith, ints, up_to), grows c each.0 (x -ℤ pos 1) x (omega (arith, ints)), omega (arith, ints, from)), are_rises cs xs each.1 places.1)

pub few_rises : (cells : List RowCell) → AreCells cells → total_most most_of cells ≤ 2 ^ 57
few_rises cells h =
    let all = most_light cells (recursion_from_All IsCell cells h.each) in
    omega (arith, ints, h.weight)

pub small_rises : (cells : List RowCell) (xs : List ℤ) → AreCells cells → ArePlaces cells xs → AreSmall squared_rise most_of cells xs
small_rises cells xs h places = record {
  count = places.count;
  near = are_rises cells xs (recursion_from_All IsCell cells h.each) (recursion_from_All IsPlace xs places.range);
  few = few_rises cells h;
}
