-- What owners of columns say of their rows.
use Rattle.std.proofs.Common.{◌≡◌, ◌≢◌, ℕ, ◌+◌, ◌<◌, ◌≤◌, ◌⊎◌, inl, inr, List, [], ◌∷◌, length, take, replicate, set, refl, sym, ap, ◌∙◌, arith, suc, zero}
use Rattle.std.specs.Prelude.{slice_index}
use Rattle.std.proofs.lemmas.Bool.{cases_eq, cases_lt}
use Rattle.std.proofs.lemmas.List.{get_or-set_same, get_or-set_other, get_or-take, get_or-replicate, length-replicate, length-take}
use Rattle.std.proofs.lemmas.List.Folds.{sum_by-replicate}
use Rattle.fp_match.specs.Prices.{AreDistinctBelow, IsUsed, IsChoice, IsBest, ArePrices}
use Rattle.fp_match.specs.PriceLaws.{paid, whole, paid_most}
use Rattle.fp_match.specs.Owners.{Agree, unused}

-- the rows have columns of their own
pub distinct_by_owners : (columns rows : ℕ) (chosen owner : List ℕ) → Agree columns rows chosen owner → AreDistinctBelow rows chosen
distinct_by_owners columns rows chosen owner agree i j lt below same =
    let one : slice_index owner (slice_index chosen i) ≡ i = agree.owned i (omega arith) in
    let two : slice_index owner (slice_index chosen j) ≡ j = agree.owned j below in
    let both : slice_index owner (slice_index chosen i) ≡ slice_index owner (slice_index chosen j) = ap (λ s. slice_index owner s) same in
    absurd (omega arith)

-- one of the first m columns is not owned, or each is
pub free_or_owned : (rows m : ℕ) (owner : List ℕ)
    → ((s : ℕ) × ((s < m) × (rows ≤ slice_index owner s))) ⊎ ((s : ℕ) → s < m → slice_index owner s < rows)
free_or_owned rows zero owner = inr (λ s lt. absurd (omega arith))
free_or_owned rows (suc m) owner =
    elim (free_or_owned rows m owner) [
      | inl found ↦ inl (found.0, (omega (arith, found.1.0), found.1.1))
      | inr all ↦ elim (cases_lt (slice_index owner m) rows) [
        | inl lt ↦ inr (λ s below. elim (cases_eq s m) [
          | inl e ↦ rw e lt
          | inr ne ↦ all s (omega arith)
        ])
        | inr free ↦ inl (m, (omega arith, free))
      ]
    ]

ones_paid : (n : ℕ) (xs : List ℕ) → ((i : ℕ) → i < length xs → slice_index xs i < n) → paid (replicate n 1) xs ≡ length xs
ones_paid n [] within = refl
ones_paid n (x ∷ xs) within =
    let here : slice_index (replicate n 1) x ≡ 1 = get_or-replicate n x 1 0 (within 0 (omega arith)) in
    let rest : paid (replicate n 1) xs ≡ length xs = ones_paid n xs (λ i lt. within (suc i) (omega arith)) in
    omega (arith, here, rest)

ones_size : (n : ℕ) → length (replicate n (suc zero)) ≡ n
ones_size n = length-replicate n 1

few_in_all : (n : ℕ) (xs : List ℕ) → ((i : ℕ) → i < length xs → slice_index xs i < n) → AreDistinctBelow (length xs) xs
    → length xs ≤ n
few_in_all n xs within distinct =
    let most : paid (replicate n 1) xs ≤ whole (replicate n 1) =
    paid_most xs (replicate n 1) (λ i lt. rw (ones_size n) (within i lt)) distinct in
    omega (arith, most, ones_paid n xs within, sum_by-replicate (λ (p : ℕ). p) n 1)

-- so many distinct numbers below n are at most n
pub pigeonhole : (m n : ℕ) (xs : List ℕ) → m ≤ length xs → ((i : ℕ) → i < m → slice_index xs i < n) → AreDistinctBelow m xs → m ≤ n
pigeonhole m n xs fits within distinct =
    let size : length (take m xs) ≡ m = omega (arith, length-take m xs) in
    let same = λ (i : ℕ) (lt : i < m). get_or-take m xs i 0 lt in
    let most : length (take m xs) ≤ n = few_in_all n (take m xs)
    (λ i lt. rw (same i (omega arith)) (within i (omega arith)))
    (λ i j lt below e. distinct i j lt (omega arith) (sym (same i (omega arith)) ∙ e ∙ same j (omega arith))) in
    omega arith

-- the columns of rows are a choice
pub choice_by_owners : (columns rows : ℕ) (chosen owner : List ℕ) → length chosen ≡ rows → Agree columns rows chosen owner
    → IsChoice rows columns chosen
choice_by_owners columns rows chosen owner size agree = record {
  each_row = size;
  in_range = λ n lt. agree.in_range n (omega arith);
  distinct = λ i j lt below. distinct_by_owners columns rows chosen owner agree i j lt (omega arith);
}

-- a column that no row has is marked as unused
pub unused_by_owners : (columns rows : ℕ) (chosen owner : List ℕ) (s : ℕ) → length chosen ≡ rows → Agree columns rows chosen owner
    → s < columns → ¬ (IsUsed chosen s) → slice_index owner s ≡ unused
unused_by_owners columns rows chosen owner s size agree lt not_used =
    elim (cases_lt (slice_index owner s) rows) [
      | inl has ↦ absurd (not_used (slice_index owner s, omega arith, agree.holds s lt has))
      | inr free ↦ agree.free s lt free
    ]

-- best columns and free unused columns are prices
pub prices_by_owners : (cost : ℕ → ℕ → ℕ) (columns : ℕ) (chosen owner prices : List ℕ) → Agree columns (length chosen) chosen owner
    → ((s : ℕ) → s < columns → slice_index owner s ≡ unused → slice_index prices s ≡ 0)
    → ((n : ℕ) → n < length chosen → IsBest cost columns prices n (slice_index chosen n))
    → ArePrices cost columns chosen prices
prices_by_owners cost columns chosen owner prices agree free best = record {
  unused = λ s lt not_used. free s lt (unused_by_owners columns (length chosen) chosen owner s refl agree lt not_used);
  best = best;
}

-- one row more, whose column nobody has
pub distinct_more : (row : ℕ) (chosen owner : List ℕ) (columns : ℕ) → Agree columns row chosen owner → row ≤ unused
    → slice_index owner (slice_index chosen row) ≡ unused → AreDistinctBelow (row + 1) chosen
distinct_more row chosen owner columns agree few free i j lt below same =
    elim (cases_eq j row) [
      | inl e ↦
          let mine : slice_index owner (slice_index chosen i) ≡ i = agree.owned i (omega arith) in
          let both : slice_index owner (slice_index chosen i) ≡ slice_index owner (slice_index chosen row) =
          ap (λ s. slice_index owner s) (same ∙ ap (λ k. slice_index chosen k) e) in
          absurd (omega (arith, free))
      | inr ne ↦ distinct_by_owners columns row chosen owner agree i j lt (omega arith) same
    ]

pub room_for_row : (row : ℕ) (chosen owner : List ℕ) (columns : ℕ) → Agree columns row chosen owner → row ≤ length chosen
    → row ≤ columns
room_for_row row chosen owner columns agree fits =
    pigeonhole row columns chosen fits agree.in_range (distinct_by_owners columns row chosen owner agree)

pub agree_step : (row : ℕ) (chosen owner : List ℕ) (columns place : ℕ) → Agree columns row chosen owner → columns ≤ unused
    → row < length chosen → columns ≤ length owner → slice_index chosen row ≡ place → place < columns
    → slice_index owner place ≡ unused → Agree columns (row + 1) chosen (set owner place row)
agree_step row chosen owner columns place agree few fits sized here within free =
    let most : row ≤ columns = room_for_row row chosen owner columns agree (omega arith) in
    let free_here : slice_index owner (slice_index chosen row) ≡ unused = rw here free in
    let more : row + 1 ≤ columns = pigeonhole (row + 1) columns chosen (omega arith)
    (λ n lt. elim (cases_eq n row) [ inl e ↦ rw (e, here) within | inr ne ↦ agree.in_range n (omega arith) ])
    (distinct_more row chosen owner columns agree (omega arith) free_here) in
    let at_place : slice_index (set owner place row) place ≡ row = get_or-set_same owner place row 0 (omega arith) in
    let elsewhere = λ (s : ℕ) (ne : s ≢ place). get_or-set_other owner place s row 0 ne in
    record {
      in_range = λ n lt. elim (cases_eq n row) [ inl e ↦ rw (e, here) within | inr ne ↦ agree.in_range n (omega arith) ];
      owned = λ n lt. elim (cases_eq n row) [
        | inl e ↦ rw (e, here) at_place
        | inr ne ↦
            let old : slice_index owner (slice_index chosen n) ≡ n = agree.owned n (omega arith) in
            let apart : slice_index chosen n ≢ place = λ e. absurd (omega (arith, free, ap (λ s. slice_index owner s) e)) in
            elsewhere _ apart ∙ old
      ];
      holds = λ s lt has. elim (cases_eq s place) [
        | inl e ↦ rw (e, at_place) here
        | inr ne ↦
            let same : slice_index (set owner place row) s ≡ slice_index owner s = elsewhere s ne in
            elim (cases_lt (slice_index owner s) row) [
              | inl earlier ↦ rw same (agree.holds s lt earlier)
              | inr later ↦ absurd (omega (arith, agree.free s lt later))
            ]
      ];
      free = λ s lt out. elim (cases_eq s place) [
        | inl e ↦ absurd (omega (arith, at_place, ap (λ t. slice_index (set owner place row) t) e))
        | inr ne ↦
            let same : slice_index (set owner place row) s ≡ slice_index owner s = elsewhere s ne in
            same ∙ agree.free s lt (omega arith)
      ];
    }
