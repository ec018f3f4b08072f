-- Laws of own lengths: one step to the right adds 1 for each breakpoint that is passed, less 1 for each connection that counts. So the own
-- length falls below the lower median of the breakpoints, and does not fall above it.
use Rattle.std.proofs.Common.{◌≡◌, ℕ, ◌+◌, ◌*◌, ◌<◌, ◌≤◌, cond, List, [], ◌∷◌, ◌++◌, length, refl, ap, subst, zero, suc, ℤ, pos, negsuc, ◌+ℤ◌, ◌-ℤ◌, ◌≤ℤ◌, ◌<ℤ◌, arith}
use Rattle.std.specs.Prelude.{int_le}
use Rattle.std.specs.List.Sorted.{IsPermutation}
use Rattle.std.proofs.lemmas.Int.{ints, clamps, by_lt_z}
use Rattle.std.proofs.lemmas.List.Sorted.{sum_by-IsPermutation}
use Rattle.std.proofs.lemmas.List.Sums.{sum_by-append, sum_by-cons, count_by-le-length}
use Rattle.fp_score.specs.Target.{Pull, pull_length, own_of, IsLeastOwn, IsTargetOf}
use Rattle.fp_coarse.specs.Medians.{at_most, IsLowerMedian, breakpoints_of}

-- 1 where a number is at most a bound, and else 0
abbrev pub counted : ℤ → ℤ → ℕ
counted number bound = cond (int_le number bound) 1 0

pub counted_yes : (number bound : ℤ) → number ≤ℤ bound → counted number bound ≡ 1
counted_yes number bound is = grind (arith, ints)

pub counted_no : (number bound : ℤ) → bound <ℤ number → counted number bound ≡ 0
counted_no number bound is = grind (arith, ints)

pub at_most_first : (number : ℤ) (numbers : List ℤ) (bound : ℤ) → at_most (number ∷ numbers) bound ≡ counted number bound + at_most numbers bound
unfolding at_most
at_most_first number numbers bound = sum_by-cons (λ number. counted number bound) number numbers

pub at_most_none : (bound : ℤ) → at_most [] bound ≡ 0
unfolding at_most
at_most_none bound = refl

pub at_most_joined : (front back : List ℤ) (bound : ℤ) → at_most (front ++ back) bound ≡ at_most front bound + at_most back bound
unfolding at_most
at_most_joined front back bound = sum_by-append (λ number. counted number bound) front back

pub at_most_few : (numbers : List ℤ) (bound : ℤ) → at_most numbers bound ≤ length numbers
unfolding at_most
at_most_few numbers bound = count_by-le-length (λ number. int_le number bound) numbers

pub at_most_moved : (numbers moved : List ℤ) (bound : ℤ) → IsPermutation numbers moved → at_most moved bound ≡ at_most numbers bound
unfolding at_most
at_most_moved numbers moved bound is = sum_by-IsPermutation (λ number. counted number bound) numbers moved is

-- one step to the right adds 1 for each end that is at most the place, less 1
turn : (pull : Pull) (at : ℤ) → pull_length (at +ℤ pos 1) pull +ℤ pos 1 ≡ pull_length at pull +ℤ pos (counted (pull.low -ℤ pull.off) at + counted (pull.high -ℤ pull.off) at)
turn pull at =
    by_lt_z at (pull.low -ℤ pull.off)
    (λ left. by_lt_z at (pull.high -ℤ pull.off)
    (λ under. omega (arith, ints, clamps, counted_no (pull.low -ℤ pull.off) at left, counted_no (pull.high -ℤ pull.off) at under))
    (λ over. omega (arith, ints, clamps, counted_no (pull.low -ℤ pull.off) at left, counted_yes (pull.high -ℤ pull.off) at over)))
    (λ right. by_lt_z at (pull.high -ℤ pull.off)
    (λ under. omega (arith, ints, clamps, counted_yes (pull.low -ℤ pull.off) at right, counted_no (pull.high -ℤ pull.off) at under))
    (λ over. omega (arith, ints, clamps, counted_yes (pull.low -ℤ pull.off) at right, counted_yes (pull.high -ℤ pull.off) at over)))

pub own_turns : (pulls : List Pull) (at : ℤ) → own_of pulls (at +ℤ pos 1) +ℤ pos (length pulls) ≡ own_of pulls at +ℤ pos (at_most (breakpoints_of pulls) at)
unfolding own_of breakpoints_of
own_turns [] at = omega (arith, ints, at_most_none at)
own_turns (pull ∷ pulls) at =
    let low = pull.low -ℤ pull.off in
    let high = pull.high -ℤ pull.off in
    let rest = breakpoints_of pulls in
    omega (arith, ints, turn pull at, own_turns pulls at, at_most_first low (high ∷ rest) at, at_most_first high rest at)

-- a greater bound is reached by as many
at_most_rises : (numbers : List ℤ) (bound other : ℤ) → bound ≤ℤ other → at_most numbers bound ≤ at_most numbers other
at_most_rises [] bound other less = omega (arith, at_most_none bound, at_most_none other)
at_most_rises (number ∷ numbers) bound other less =
    let later = at_most_rises numbers bound other less in
    by_lt_z bound number
    (λ above. omega (arith, later, counted_no number bound above, at_most_first number numbers bound, at_most_first number numbers other))
    (λ within. omega (arith, later, counted_yes number bound within, counted_yes number other (omega (arith, ints)), at_most_first number numbers bound, at_most_first number numbers other))

-- from the lower median on it does not fall
rises : (pulls : List Pull) (at : ℤ) (steps : ℕ) → length pulls ≤ at_most (breakpoints_of pulls) at → own_of pulls at ≤ℤ own_of pulls (at +ℤ pos steps)
rises pulls at zero half = subst (λ z. own_of pulls at ≤ℤ own_of pulls z) (let same : at ≡ at +ℤ pos 0 = omega (arith, ints) in same) (omega (arith, ints))
rises pulls at (suc steps) half =
    let before = rises pulls at steps half in
    let step = own_turns pulls (at +ℤ pos steps) in
    let more = at_most_rises (breakpoints_of pulls) at (at +ℤ pos steps) (omega (arith, ints)) in
    let further : own_of pulls at ≤ℤ own_of pulls ((at +ℤ pos steps) +ℤ pos 1) = omega (arith, ints, before, step, more, half) in
    subst (λ z. own_of pulls at ≤ℤ own_of pulls z) (let same : (at +ℤ pos steps) +ℤ pos 1 ≡ at +ℤ pos (suc steps) = omega (arith, ints) in same) further

-- and before it it falls
falls : (pulls : List Pull) (at : ℤ) (steps : ℕ) → at_most (breakpoints_of pulls) (at -ℤ pos 1) < length pulls
    → (own_of pulls at +ℤ pos steps) ≤ℤ own_of pulls (at -ℤ pos steps)
falls pulls at zero below = subst (λ z. (own_of pulls at +ℤ pos 0) ≤ℤ own_of pulls z) (let same : at ≡ at -ℤ pos 0 = omega (arith, ints) in same) (omega (arith, ints))
falls pulls at (suc steps) below =
    let to = at -ℤ pos (suc steps) in
    let before = falls pulls at steps below in
    let step = own_turns pulls to in
    let less = at_most_rises (breakpoints_of pulls) to (at -ℤ pos 1) (omega (arith, ints)) in
    let same : own_of pulls (to +ℤ pos 1) ≡ own_of pulls (at -ℤ pos steps) = ap (own_of pulls) (omega (arith, ints)) in
    omega (arith, ints, before, step, less, below, same)

pub twice : (pulls : List Pull) → length (breakpoints_of pulls) ≡ 2 * length pulls
unfolding breakpoints_of
twice [] = refl
twice (pull ∷ pulls) = omega (arith, twice pulls)

is_least : (pulls : List Pull) (at : ℤ) → length pulls ≤ at_most (breakpoints_of pulls) at → at_most (breakpoints_of pulls) (at -ℤ pos 1) < length pulls → IsLeastOwn pulls at
is_least pulls at half below = record {
  least = λ other. by other (other -ℤ at) refl;
  first = λ other is. by_lt_z other at (λ less. absurd (before other (other -ℤ at) refl less (is at))) (λ least. least);
}
  where
    by : (other apart : ℤ) → other -ℤ at ≡ apart → own_of pulls at ≤ℤ own_of pulls other
    by other (pos steps) is = subst (λ z. own_of pulls at ≤ℤ own_of pulls z) (let same : at +ℤ pos steps ≡ other = omega (arith, ints) in same) (rises pulls at steps half)
    by other (negsuc steps) is =
        let same : own_of pulls (at -ℤ pos (suc steps)) ≡ own_of pulls other = ap (own_of pulls) (omega (arith, ints)) in
        omega (arith, ints, falls pulls at (suc steps) below, same)

    before : (other apart : ℤ) → other -ℤ at ≡ apart → other <ℤ at → own_of pulls other ≤ℤ own_of pulls at → ⊥
    before other (pos steps) is less most = omega (arith, ints)
    before other (negsuc steps) is less most =
        let same : own_of pulls (at -ℤ pos (suc steps)) ≡ own_of pulls other = ap (own_of pulls) (omega (arith, ints)) in
        omega (arith, ints, falls pulls at (suc steps) below, same)

-- so a place is the least of least own length exactly where the own length does not fall to its right and rises to its left
pub least_by_neighbours : (pulls : List Pull) (at : ℤ) → own_of pulls at ≤ℤ own_of pulls (at +ℤ pos 1) → own_of pulls at <ℤ own_of pulls (at -ℤ pos 1) → IsLeastOwn pulls at
least_by_neighbours pulls at right left =
    let before = own_turns pulls (at -ℤ pos 1) in
    let same : own_of pulls ((at -ℤ pos 1) +ℤ pos 1) ≡ own_of pulls at = ap (own_of pulls) (omega (arith, ints)) in
    is_least pulls at (omega (arith, ints, own_turns pulls at, right)) (omega (arith, ints, before, same, left))

-- and the lower median of the breakpoints is it
pub median_is_target : (pulls : List Pull) (stands median : ℤ) → IsLowerMedian (breakpoints_of pulls) median → IsTargetOf pulls stands median
median_is_target [] stands median is = absurd (omega (arith, is.below, twice []))
median_is_target (pull ∷ pulls) stands median is =
    let many = twice (pull ∷ pulls) in
    is_least (pull ∷ pulls) median (omega (arith, is.half, many)) (omega (arith, is.below, many))

pub none_stands : (pulls : List Pull) (stands : ℤ) → breakpoints_of pulls ≡ [] → IsTargetOf pulls stands stands
none_stands [] stands none = refl
none_stands (pull ∷ pulls) stands none = absurd (omega (arith, twice (pull ∷ pulls), ap length none))
