-- The value of digits, one digit after the other.
use Rattle.std.proofs.Common.{◌≡◌, ℕ, ◌+◌, ◌-◌, ◌*◌, ◌<◌, ◌≤◌, List, [], ◌∷◌, length, get_or, drop, Ok, Err, refl, sym, ap, ◌∙◌, arith}
use Rattle.std.proofs.lemmas.Bool.{lt-leb, le-leb}
use Rattle.std.proofs.lemmas.List.{drop_more, drop_all}
use Rattle.fp_text.specs.Numbers.{value_from, at_most}
use Rattle.fp_text.specs.declared.numbers.NumberFault.TheVariants.{TooLarge}

grows : (digits : List ℕ) (n : ℕ) → n ≤ value_from n digits
unfolding value_from
grows [] n = omega arith
grows (digit ∷ digits) n = omega (arith, grows digits (10 * n + (digit - 48)))

-- one more digit
pub digit_more : (digits : List ℕ) (i n more total : ℕ) → i < length digits
    → more ≡ 10 * n + (get_or digits i 0 - 48) → value_from n (drop i digits) ≡ total
    → value_from more (drop (i + 1) digits) ≡ total
unfolding value_from
digit_more digits i n more total lt is so_far =
    ap (λ k. value_from k (drop (i + 1) digits)) is
    ∙ sym (ap (value_from n) (drop_more digits i 0 lt)) ∙ so_far

-- above the greatest number before the last digit is above it at the end
pub too_large : (digits : List ℕ) (i n most total : ℕ) → most < n
    → value_from n (drop i digits) ≡ total → at_most most total ≡ Err TooLarge
too_large digits i n most total lt so_far =
    let above : most < total = omega (arith, grows (drop i digits) n) in
    rw (lt-leb total most above) refl

pub all_read : (digits : List ℕ) (i n most total : ℕ) → length digits ≤ i → n ≤ most
    → value_from n (drop i digits) ≡ total → at_most most total ≡ Ok n
unfolding value_from
all_read digits i n most total le small so_far =
    let is : n ≡ total = sym (ap (value_from n) (drop_all i digits le)) ∙ so_far in
    rw (← is, le-leb n most small) refl
