-- The running cost of a row.
use Rattle.std.proofs.Common.{◌≡◌, ℕ, ◌+◌, ◌^◌, ◌<◌, ℤ, pos, ◌+ℤ◌, ◌*ℤ◌, ◌≤ℤ◌, List, ◌∷◌, length, drop, get_or, FitsSigned, arith}
use Rattle.std.specs.List.{AllByRecursion}
use Rattle.std.proofs.lemmas.Int.{ints}
use mir.Syntax.{w128}
use Rattle.fp_rows.specs.declared.RowCell.{RowCell}
use Rattle.fp_rows.specs.Squares.{IsCell, IsPlace, total_cost, total_weight, squared_cost}
use Rattle.fp_rows.specs.Lists.{drop-at}
use Rattle.fp_rows.specs.Weights.{weight_low}
use Rattle.fp_rows.specs.Ranges.{cost_range}

-- cells that are left, their weights small, and a place for each
pub record AreLeft (cells : List RowCell) (xs : List ℤ) : Type 0 where
  pub each : AllByRecursion IsCell cells
  pub weight : total_weight cells ≤ℤ pos (2 ^ 22)
  pub places : AllByRecursion IsPlace xs

left_weight : (c : RowCell) (cs : List RowCell) (xs : List ℤ) → AreLeft (c ∷ cs) xs → c.weight ≤ℤ pos (2 ^ 22)
left_weight c cs xs h =
    let others = weight_low cs h.each.1 in
    let all = h.weight in
    omega (arith, ints)

pub weight_here : (cells : List RowCell) (xs : List ℤ) (i : ℕ) (d : RowCell) → i < length cells → AreLeft (drop i cells) xs → (get_or cells i d).weight ≤ℤ pos (2 ^ 22)
weight_here cells xs i d lt h = left_weight (get_or cells i d) (drop (i + 1) cells) xs (rw (drop-at cells i d lt) at h)

-- the cost of the cells before i, and that of the others
pub record IsCosted (cells : List RowCell) (xs : List ℤ) (i : ℕ) (total : ℤ) : Type 0 where
  pub left : AreLeft (drop i cells) (drop i xs)
  pub sum : total +ℤ total_cost (drop i cells) (drop i xs) ≡ total_cost cells xs
  pub low : pos 0 ≤ℤ total
  pub high : (total +ℤ total_weight (drop i cells) *ℤ pos (2 ^ 66)) ≤ℤ pos (2 ^ 88)

record Costs (c : RowCell) (cs : List RowCell) (x : ℤ) (xs : List ℤ) (total all : ℤ) : Type 0 where
  pub left : AreLeft cs xs
  pub sum : (total +ℤ squared_cost c x) +ℤ total_cost cs xs ≡ all
  pub low : pos 0 ≤ℤ (total +ℤ squared_cost c x)
  pub high : ((total +ℤ squared_cost c x) +ℤ total_weight cs *ℤ pos (2 ^ 66)) ≤ℤ pos (2 ^ 88)

one_more : (c : RowCell) (cs : List RowCell) (x : ℤ) (xs : List ℤ) (total all : ℤ) → AreLeft (c ∷ cs) (x ∷ xs) → total +ℤ total_cost (c ∷ cs) (x ∷ xs) ≡ all → pos 0 ≤ℤ total → (total +ℤ total_weight (c ∷ cs) *ℤ pos (2 ^ 66)) ≤ℤ pos (2 ^ 88) → Costs c cs x xs total all
one_more c cs x xs total all left sum low high =
    let here = left.each.0 in
    let range = cost_range c x here left.places.0 in
    record {
      left = record { each = left.each.1; weight = omega (arith, ints, left.weight, here.weight_from); places = left.places.1 };
      sum = omega (arith, ints);
      low = omega (arith, ints);
      high = omega (arith, ints, here.weight_from);
    }

pub cost_more : (cells : List RowCell) (xs : List ℤ) (i : ℕ) (total : ℤ) (d : RowCell) (e : ℤ) → i < length cells → length xs ≡ length cells → IsCosted cells xs i total → IsCosted cells xs (i + 1) (total +ℤ squared_cost (get_or cells i d) (get_or xs i e))
cost_more cells xs i total d e lt same h =
    let cut = drop-at cells i d lt in
    let cut2 = drop-at xs i e (omega arith) in
    let m = one_more (get_or cells i d) (drop (i + 1) cells) (get_or xs i e) (drop (i + 1) xs) total (total_cost cells xs) (rw (cut, cut2) at h.left) (rw (cut, cut2) at h.sum) h.low (rw cut at h.high) in
    record { left = m.left; sum = m.sum; low = m.low; high = m.high }

pub total_fits : (cells : List RowCell) (xs : List ℤ) (i : ℕ) (total : ℤ) → IsCosted cells xs i total → FitsSigned w128 total
total_fits cells xs i total h =
    let others = weight_low (drop i cells) h.left.each in
    omega (arith, ints, h.low, h.high)
