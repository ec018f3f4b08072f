-- The lower median of numbers that are split around it.
use Rattle.std.proofs.Common.{◌≡◌, ℕ, ◌+◌, ◌-◌, ◌/◌, ◌<◌, true, false, cond, List, [], ◌∷◌, ◌++◌, length, get_or, sym, ap, ◌∙◌, suc, ℤ, pos, ◌-ℤ◌, ◌≤ℤ◌, ◌<ℤ◌, arith}
use Rattle.std.specs.Prelude.{int_lt}
use Rattle.std.specs.List.Sorted.{IsPermutation, IsSplitAround}
use Rattle.std.specs.Ordering.{int_cmp, is_lt}
use Rattle.std.specs.declared.cmp.Ordering.TheVariants.{Less, Equal, Greater}
use Rattle.std.proofs.lemmas.Int.{ints, by_lt_z}
use Rattle.std.proofs.Math.Seq.{get_or-append_seam}
use Rattle.std.proofs.lemmas.List.{length-append}
use Rattle.std.proofs.lemmas.List.Sorted.{Contains-permutation, IsPermutation-sym}
use Rattle.fp_coarse.specs.Medians.{at_most, IsLowerMedian}
use Rattle.fp_coarse.specs.MedianLaws.{counted, counted_yes, counted_no, at_most_first, at_most_none, at_most_joined, at_most_few, at_most_moved}

not_below : (a b : ℤ) → is_lt (int_cmp a b) ≡ false → b ≤ℤ a
not_below a b is = by_lt_z a b (λ less. absurd (below less)) (λ least. least)
  where
    below : a <ℤ b → ⊥
    below less = let lt : int_lt a b ≡ true = grind (arith, ints) in (let nothing : true ≡ false = sym (ap (λ t. is_lt (cond t Less (cond (int_lt b a) Greater Equal))) lt) ∙ is in cc)

-- all in front are at most the number that they are split around, and none behind is below it
front_all : (front : List ℤ) (median bound : ℤ) → ((k : ℕ) (d : ℤ) → k < length front → is_lt (int_cmp median (get_or front k d)) ≡ false) → median ≤ℤ bound
    → at_most front bound ≡ length front
front_all [] median bound split within = at_most_none bound
front_all (number ∷ front) median bound split within =
    let below = not_below median number (split 0 number (omega arith)) in
    let here = counted_yes number bound (omega (arith, ints, below, within)) in
    let later = front_all front median bound (λ k d less. split (suc k) d (omega arith)) within in
    omega (arith, here, later, at_most_first number front bound)

back_none : (back : List ℤ) (median bound : ℤ) → ((k : ℕ) (d : ℤ) → k < length back → is_lt (int_cmp (get_or back k d) median) ≡ false) → bound <ℤ median
    → at_most back bound ≡ 0
back_none [] median bound split below = at_most_none bound
back_none (number ∷ back) median bound split below =
    let above = not_below number median (split 0 number (omega arith)) in
    let here = counted_no number bound (omega (arith, ints, above, below)) in
    let later = back_none back median bound (λ k d less. split (suc k) d (omega arith)) below in
    omega (arith, here, later, at_most_first number back bound)

pub is_lower_median : (numbers front back : List ℤ) (median : ℤ) → IsPermutation numbers (front ++ median ∷ back) → length front ≡ (length numbers - 1) / 2
    → 0 < length numbers → IsSplitAround int_cmp front median back → IsLowerMedian numbers median
is_lower_median numbers front back median moved half some split = record {
  among = Contains-permutation (front ++ median ∷ back) numbers median (IsPermutation-sym numbers (front ++ median ∷ back) moved) (length front, there, here);
  half = omega (arith, up_to, front_all front median median split.0 (omega (arith, ints)), counted_yes median median (omega (arith, ints)));
  below = omega (arith, under, at_most_few front (median -ℤ pos 1), counted_no median (median -ℤ pos 1) (omega (arith, ints)), back_none back median (median -ℤ pos 1) split.1 (omega (arith, ints)));
}
  where
    counts : (bound : ℤ) → at_most numbers bound ≡ at_most front bound + (counted median bound + at_most back bound)
    counts bound = sym (at_most_moved numbers (front ++ median ∷ back) bound moved) ∙ at_most_joined front (median ∷ back) bound ∙ ap (λ n. at_most front bound + n) (at_most_first median back bound)

    up_to : at_most numbers median ≡ at_most front median + (counted median median + at_most back median)
    up_to = counts median

    under : at_most numbers (median -ℤ pos 1) ≡ at_most front (median -ℤ pos 1) + (counted median (median -ℤ pos 1) + at_most back (median -ℤ pos 1))
    under = counts (median -ℤ pos 1)

    there : length front < length (front ++ median ∷ back)
    there = omega (arith, length-append front (median ∷ back))

    here : get_or (front ++ median ∷ back) (length front) median ≡ median
    here = get_or-append_seam front median back median
