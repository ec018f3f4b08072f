-- Prices show that a choice has least total cost.
use Rattle.std.proofs.Common.{◌≡◌, ◌≢◌, ℕ, ◌+◌, ◌<◌, ◌≤◌, inl, inr, List, [], ◌∷◌, length, set, refl, sym, ◌∙◌, arith, add-zero, zero-add, suc, zero}
use Rattle.std.specs.Prelude.{slice_index, sum_by}
use Rattle.std.proofs.lemmas.List.{get_or-set_other}
use Rattle.std.proofs.lemmas.Bool.{cases_eq}
use Rattle.std.proofs.lemmas.Grind.{get_or-set_at}
use Rattle.std.proofs.Math.ListN.{length-set}
use Rattle.std.proofs.lemmas.List.Sums.{sum_by-set, sum_by-cons}
use Rattle.fp_match.specs.Prices.{AreDistinctBelow, IsChoice, cost_from, IsLeast, IsBest, ArePrices}

abbrev pub whole : List ℕ → ℕ
whole prices = sum_by (λ (p : ℕ). p) prices

-- the prices of the columns of a list
abbrev pub paid : List ℕ → List ℕ → ℕ
paid prices [] = 0
paid prices (s ∷ xs) = slice_index prices s + paid prices xs

taken_out : (prices : List ℕ) (s : ℕ) → s < length prices → whole (set prices s 0) + slice_index prices s ≡ whole prices
taken_out prices s lt = omega (arith, sum_by-set (λ (p : ℕ). p) prices s 0 0 lt)

paid_same : (prices : List ℕ) (s : ℕ) (xs : List ℕ) → ((n : ℕ) → n < length xs → slice_index xs n ≢ s)
    → paid (set prices s 0) xs ≡ paid prices xs
paid_same prices s [] apart = refl
paid_same prices s (x ∷ xs) apart =
    let here : slice_index (set prices s 0) x ≡ slice_index prices x = get_or-set_other prices s x 0 0 (apart 0 (omega arith)) in
    let rest : paid (set prices s 0) xs ≡ paid prices xs = paid_same prices s xs (λ n lt. apart (suc n) (omega arith)) in
    omega (arith, here, rest)

-- distinct columns are paid at most all prices
pub paid_most : (xs prices : List ℕ) → ((n : ℕ) → n < length xs → slice_index xs n < length prices) → AreDistinctBelow (length xs) xs
    → paid prices xs ≤ whole prices
paid_most [] prices within distinct = omega arith
paid_most (x ∷ xs) prices within distinct =
    let x_in : x < length prices = within 0 (omega arith) in
    let apart : (n : ℕ) → n < length xs → slice_index xs n ≢ x = λ n lt same. distinct 0 (suc n) (omega arith) (omega arith) (sym same) in
    let rest : paid (set prices x 0) xs ≤ whole (set prices x 0) =
    paid_most xs (set prices x 0) (λ n lt. omega (arith, length-set prices x 0, within (suc n) (omega arith)))
    (λ i j lt below. distinct (suc i) (suc j) (omega arith) (omega arith)) in
    omega (arith, rest, taken_out prices x x_in, paid_same prices x xs apart)

all_zero : (prices : List ℕ) → ((s : ℕ) → s < length prices → slice_index prices s ≡ 0) → whole prices ≡ 0
all_zero [] none = refl
all_zero (p ∷ prices) none =
    let rest : whole prices ≡ 0 = all_zero prices (λ s lt. none (suc s) (omega arith)) in
    let here : p ≡ 0 = none 0 (omega arith) in
    omega (arith, rest, here, sum_by-cons (λ (p : ℕ). p) p prices)

set_less : (prices : List ℕ) (s x : ℕ) → slice_index (set prices s 0) x ≤ slice_index prices x
set_less [] s x = omega arith
set_less (p ∷ prices) zero zero = omega arith
set_less (p ∷ prices) zero (suc x) = omega arith
set_less (p ∷ prices) (suc s) zero = omega arith
set_less (p ∷ prices) (suc s) (suc x) = set_less prices s x

paid_less : (prices : List ℕ) (s : ℕ) (xs : List ℕ) → paid (set prices s 0) xs ≤ paid prices xs
paid_less prices s [] = omega arith
paid_less prices s (x ∷ xs) =
    let rest : paid (set prices s 0) xs ≤ paid prices xs = paid_less prices s xs in
    let here : slice_index (set prices s 0) x ≤ slice_index prices x = set_less prices s x in
    omega (arith, rest, here)

not_there : (x : ℕ) (xs : List ℕ) (s : ℕ) → x ≢ s → ((n : ℕ) → n < length xs → slice_index xs n ≢ s)
    → (n : ℕ) → n < length (x ∷ xs) → slice_index (x ∷ xs) n ≢ s
not_there x xs s other out zero lt = other
not_there x xs s other out (suc n) lt = out n (omega arith)

-- a column that the list has no more has its price taken out
none_left : (prices : List ℕ) (x s : ℕ) (xs : List ℕ) → x < length prices → s < length prices
    → ((n : ℕ) → n < length xs → slice_index xs n ≢ s)
    → ((t : ℕ) → t < length prices → ((n : ℕ) → n < length (x ∷ xs) → slice_index (x ∷ xs) n ≢ t) → slice_index prices t ≡ 0)
    → slice_index (set prices x 0) s ≡ 0
none_left prices x s xs x_in s_in out none =
    elim (cases_eq x s) [
      | inl same ↦ get_or-set_at prices x s 0 0 (sym same) x_in
      | inr other ↦ get_or-set_other prices x s 0 0 (λ e. other (sym e)) ∙ none s s_in (not_there x xs s other out)
    ]

-- where all other columns have price 0, the list pays all prices
paid_least : (xs prices : List ℕ) → ((n : ℕ) → n < length xs → slice_index xs n < length prices)
    → ((s : ℕ) → s < length prices → ((n : ℕ) → n < length xs → slice_index xs n ≢ s) → slice_index prices s ≡ 0)
    → whole prices ≤ paid prices xs
paid_least [] prices within none = omega (arith, all_zero prices (λ s lt. none s lt (λ n no. absurd (omega arith))))
paid_least (x ∷ xs) prices within none =
    let x_in : x < length prices = within 0 (omega arith) in
    let rest : whole (set prices x 0) ≤ paid (set prices x 0) xs =
    paid_least xs (set prices x 0) (λ n lt. omega (arith, length-set prices x 0, within (suc n) (omega arith)))
    (λ s lt out. none_left prices x s xs x_in (omega (arith, length-set prices x 0)) out none) in
    omega (arith, rest, taken_out prices x x_in, paid_less prices x xs)

next : (row n : ℕ) → row + 1 + n ≡ row + suc n
next row n = omega arith

-- rows that each have their best column cost no more than with other columns, prices added
cost_by_best : (cost : ℕ → ℕ → ℕ) (columns : ℕ) (prices : List ℕ) (row : ℕ) (xs ys : List ℕ) → length xs ≡ length ys
    → ((n : ℕ) → n < length xs → IsBest cost columns prices (row + n) (slice_index xs n))
    → ((n : ℕ) → n < length ys → slice_index ys n < columns)
    → cost_from cost row xs + paid prices xs ≤ cost_from cost row ys + paid prices ys
cost_by_best cost columns prices row [] [] same best within = omega arith
cost_by_best cost columns prices row [] (y ∷ ys) same best within = absurd (omega arith)
cost_by_best cost columns prices row (x ∷ xs) [] same best within = absurd (omega arith)
cost_by_best cost columns prices row (x ∷ xs) (y ∷ ys) same best within =
    let here : cost row x + slice_index prices x ≤ cost row y + slice_index prices y =
    rw add-zero at (best 0 (omega arith) y (within 0 (omega arith))) in
    let rest : cost_from cost (row + 1) xs + paid prices xs ≤ cost_from cost (row + 1) ys + paid prices ys =
    cost_by_best cost columns prices (row + 1) xs ys (omega arith) (λ n lt t in_range. rw (sym (next row n)) at (best (suc n) (omega arith) t in_range)) (λ n lt. within (suc n) (omega arith)) in
    omega (arith, here, rest)

-- a choice with prices has least total cost
pub least_by_prices : (cost : ℕ → ℕ → ℕ) (rows columns : ℕ) (chosen prices : List ℕ) → length prices ≡ columns
    → IsChoice rows columns chosen → ArePrices cost columns chosen prices → IsLeast cost rows columns chosen
least_by_prices cost rows columns chosen prices size choice priced other others =
    let with_prices : cost_from cost 0 chosen + paid prices chosen ≤ cost_from cost 0 other + paid prices other =
    cost_by_best cost columns prices 0 chosen other (omega (arith, choice.each_row, others.each_row)) (λ n lt t below. rw zero-add (priced.best n lt t below)) (λ n lt. others.in_range n lt) in
    let least : whole prices ≤ paid prices chosen =
    paid_least chosen prices (λ n lt. omega (arith, choice.in_range n lt))
    (λ s lt out. priced.unused s (omega arith) (λ used. out used.0 used.1 used.2)) in
    let most : paid prices other ≤ whole prices = paid_most other prices (λ n lt. omega (arith, others.in_range n lt)) others.distinct in
    omega (arith, with_prices, least, most)
