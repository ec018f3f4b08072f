-- The side of the frame that is found.
use Rattle.std.proofs.Common.{◌≡◌, ℕ, zero, suc, ◌+◌, ◌*◌, ◌<◌, ◌≤◌, Bool, true, false, Option, Some, None, MatchOption, unwrap_or, find, refl, sym, ap, ◌∙◌, arith, inl, inr}
use Rattle.std.specs.List.{range_with_len}
use Rattle.std.proofs.Math.Nat.{mul-le-mul_left}
use Rattle.std.proofs.lemmas.Bool.{both_ways, cases_Bool, cases_eq, cases_lt, le-leb}
use Rattle.fp_gen.specs.MakeText.{is_wide, side_of}

hit : (passes : ℕ → Bool) (from n : ℕ) → passes from ≡ true → find passes (range_with_len from (suc n)) ≡ Some from
hit passes from n is = rw is refl

miss : (passes : ℕ → Bool) (from n : ℕ) → passes from ≡ false → find passes (range_with_len from (suc n)) ≡ find passes (range_with_len (from + 1) n)
miss passes from n is = rw is refl

-- the least number that passes is found in a range
find_least : (passes : ℕ → Bool) (from n k : ℕ) → from ≤ k → k < from + n → ((j : ℕ) → from ≤ j → j < k → passes j ≡ false) → passes k ≡ true
    → find passes (range_with_len from n) ≡ Some k
find_least passes from zero k above below others is = absurd (omega (arith, above, below))
find_least passes from (suc n) k above below others is =
    let later : from < k → find passes (range_with_len (from + 1) n) ≡ Some k =
    λ lt. find_least passes (from + 1) n k (omega (arith, lt)) (omega (arith, below)) (λ j a b. others j (omega (arith, a)) b) is in
    elim (cases_eq from k) [
      | inl same ↦ hit passes from n (ap passes same ∙ is) ∙ ap Some same
      | inr other ↦ miss passes from n (others from (omega arith) (omega (arith, above, other))) ∙ later (omega (arith, above, other))
    ]

-- a side of 60 for each cell is wide enough
all_wide : (cells : ℕ) → 1 ≤ cells → is_wide cells cells ≡ true
all_wide cells some =
    let more : cells * 1 ≤ cells * cells = mul-le-mul_left cells some in
    le-leb (160 * cells) (3600 * (cells * cells)) (omega (arith, more))

-- what a search over the numbers from 1 and below that of the cells answers: the least that is wide enough, or none
abbrev pub IsLeastWide : ℕ → Option ℕ → Type 0
IsLeastWide cells found =
    MatchOption found ((j : ℕ) → 1 ≤ j → j < cells → is_wide cells j ≡ false)
    (λ k. (1 ≤ k) × (k < cells) × (is_wide cells k ≡ true) × ((j : ℕ) → 1 ≤ j → j < k → is_wide cells j ≡ false))

-- it gives the side, where the number of the cells stands for none
pub side_is : (cells : ℕ) (found : Option ℕ) → 1 ≤ cells → IsLeastWide cells found → 60 * unwrap_or found cells ≡ side_of cells
side_is cells None some none = sym (ap (λ (k : Option ℕ). 60 * unwrap_or k 0) (find_least (is_wide cells) 1 cells cells some (omega arith) none (all_wide cells some)))
side_is cells (Some k) some least = sym (ap (λ (k : Option ℕ). 60 * unwrap_or k 0) (find_least (is_wide cells) 1 cells k least.0 (omega (arith, least.1)) least.3 least.2))

pub found_few : (cells : ℕ) (found : Option ℕ) → IsLeastWide cells found → unwrap_or found cells ≤ cells
found_few cells None none = omega arith
found_few cells (Some k) least = omega (arith, least.1)

-- where a number passes, one is found that is not greater
found_by : (passes : ℕ → Bool) (from n k : ℕ) → from ≤ k → k < from + n → passes k ≡ true
    → (j : ℕ) × (find passes (range_with_len from n) ≡ Some j) × (from ≤ j) × (j ≤ k)
found_by passes from zero k above below is = absurd (omega (arith, above, below))
found_by passes from (suc n) k above below is =
    let later : from < k → (j : ℕ) × (find passes (range_with_len (from + 1) n) ≡ Some j) × (from + 1 ≤ j) × (j ≤ k) =
    λ behind. found_by passes (from + 1) n k (omega (arith, behind)) (omega (arith, below)) is in
    elim (cases_Bool (passes from)) [
      | inl first ↦ (from, hit passes from n first, omega arith, above)
      | inr other ↦
          let r = later (elim (cases_eq from k) [ inl same ↦ absurd (both_ways (passes from) other (ap passes same ∙ is)) | inr apart ↦ omega (arith, above, apart) ]) in
          (r.0, miss passes from n other ∙ r.1, omega (arith, r.2), r.3)
    ]

-- the side is 60 times a number from 1 to 67
pub record IsSide (side : ℕ) : Type 0 where
  pub k : ℕ
  pub side_is : side ≡ 60 * k
  pub some : 1 ≤ k
  pub few : k ≤ 67

side_by : (cells k : ℕ) → 1 ≤ k → k ≤ cells → k ≤ 67 → is_wide cells k ≡ true → IsSide (side_of cells)
side_by cells k some below few wide =
    let found = found_by (is_wide cells) 1 cells k some (omega (arith, below)) wide in
    record { k = found.0; side_is = ap (λ (o : Option ℕ). 60 * unwrap_or o 0) found.1; some = found.2; few = omega (arith, found.3, few) }

pub side_found : (cells : ℕ) → 1 ≤ cells → cells ≤ 100000 → IsSide (side_of cells)
side_found cells some few = elim (cases_lt cells 67) [
  | inl less ↦ side_by cells cells some (omega arith) (omega (arith, less)) (all_wide cells some)
  | inr more ↦ side_by cells 67 (omega arith) more (omega arith) (le-leb (160 * cells) (3600 * (67 * 67)) (omega (arith, few)))
]
