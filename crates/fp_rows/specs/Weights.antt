-- The weights of a row's cells: none is above the sum.
use Rattle.std.proofs.Common.{ℕ, zero, suc, ◌^◌, ◌<◌, pos, ◌≤ℤ◌, List, [], ◌∷◌, length, drop, get_or, arith}
use Rattle.std.specs.List.{AllByRecursion}
use Rattle.std.proofs.lemmas.Int.{ints}
use Rattle.std.proofs.lemmas.List.Elements.{recursion_from_All}
use Rattle.fp_rows.specs.declared.RowCell.{RowCell}
use Rattle.fp_rows.specs.Squares.{IsCell, AreCells, total_weight}

pub weight_low : (cells : List RowCell) → AllByRecursion IsCell cells → pos 0 ≤ℤ total_weight cells
weight_low [] h = omega (arith, ints)
weight_low (c ∷ cs) h =
    let one = h.0.weight_from in
    let others = weight_low cs h.1 in
    omega (arith, ints)

pub weight_at : (cells : List RowCell) (i : ℕ) (d : RowCell) → AreCells cells → i < length cells → (get_or cells i d).weight ≤ℤ pos (2 ^ 22)
weight_at cells i d h lt = small cells i d (recursion_from_All IsCell cells h.each) lt h.weight
  where
    small : (cells : List RowCell) (i : ℕ) (d : RowCell) → AllByRecursion IsCell cells → i < length cells → total_weight cells ≤ℤ pos (2 ^ 22) → (get_or cells i d).weight ≤ℤ pos (2 ^ 22)
    small [] i d each lt all = absurd (omega arith)
    small (c ∷ cs) zero d each lt all =
        let others = weight_low cs each.1 in
        omega (arith, ints)
    small (c ∷ cs) (suc i) d each lt all =
        let one = each.0.weight_from in
        small cs i d each.1 (omega arith) (omega (arith, ints))

pub weight_behind : (cells : List RowCell) (i : ℕ) → AllByRecursion IsCell cells → total_weight (drop i cells) ≤ℤ total_weight cells
weight_behind cells zero h = omega (arith, ints)
weight_behind [] (suc i) h = omega (arith, ints)
weight_behind (c ∷ cs) (suc i) h =
    let one = h.0.weight_from in
    let others = weight_behind cs i h.1 in
    omega (arith, ints)
