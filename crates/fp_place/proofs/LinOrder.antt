-- Cells sorted by x.
use Rattle.std.specs.Prelude.{◌≡◌, ◌≢◌, ℕ, zero, suc, ◌+◌, ◌<◌, ◌≤◌, true, false, nat_eq, List, [], ◌∷◌, ◌++◌, length, map, All, AllPairs, Contains, get_or, ℤ, pos, ◌≤ℤ◌, ◌<ℤ◌, ◌⊎◌, Result, Ok, Err, IfOk}
use Rattle.std.specs.Bool.{Decides}
use Rattle.std.specs.List.Sorted.{IsPermutation, IsSorted}
use Rattle.std.specs.Ordering.{MatchOrdering, nat_cmp, int_cmp, ordering_then, is_lt}
use Rattle.std.specs.declared.cmp.Ordering.{Ordering}
use Rattle.std.specs.declared.cmp.Ordering.TheVariants.{Less, Equal, Greater}
use Rattle.std.proofs.Common.{refl, sym, ap, subst, ◌∙◌, arith, inl, inr}
use Rattle.std.proofs.lemmas.Bool.{cases_lt}
use Rattle.std.proofs.lemmas.Bool.Decides.{Decides-eqb, nat_tests}
use Rattle.std.proofs.lemmas.Cmp.{int_ranked}
use Rattle.std.proofs.lemmas.Int.{ints}
use Rattle.std.proofs.lemmas.List.{get_or_append_left, get_or_push, get_or-map, length-map, length_push}
use Rattle.std.proofs.lemmas.List.Elements.{All-map, All-weaker, All-from_get_or}
use Rattle.std.proofs.lemmas.List.Sorted.{IsPermutation-map, All-permutation, Contains-permutation}
use Rattle.std.proofs.lemmas.Map.Keys.{IsDistinct-IsPermutation}
use Rattle.std.proofs.lemmas.Map.Made.{AllPairs-from_IsDistinct, IsDistinct-from_AllPairs}
use Rattle.fp_base.specs.declared.ids.CellId.{CellId}
use Rattle.fp_place.specs.Places.{Place, place_at}
use Rattle.fp_place.specs.LaneOrder.{AreByX, cells_alone}

abbrev pub no_entry : ℤ × ℕ
no_entry = (pos 0, 0)

abbrev pub entry_of : List Place → ℕ → ℤ × ℕ
entry_of places cell = ((place_at places cell).x, cell)

-- the entries of so many cells, in their order
pub record AreEntries (places : List Place) (count : ℕ) (entries : List (ℤ × ℕ)) : Type 0 where
  pub long : length entries ≡ count
  pub each : (cell : ℕ) → cell < count → get_or entries cell no_entry ≡ entry_of places cell

pub entries_more : (places : List Place) (count : ℕ) (entries : List (ℤ × ℕ)) (x : ℤ) → AreEntries places count entries → x ≡ (place_at places count).x
    → AreEntries places (count + 1) (entries ++ (x, count) ∷ [])
entries_more places count entries x are is = record {
  long = omega (arith, are.long, length_push entries (x, count));
  each = λ cell below. by cell below (cases_lt cell count);
}
  where
    by : (cell : ℕ) → cell < count + 1 → (cell < count) ⊎ (count ≤ cell) → get_or (entries ++ (x, count) ∷ []) cell no_entry ≡ entry_of places cell
    by cell below (inl before) = get_or_append_left entries ((x, count) ∷ []) no_entry cell (omega (arith, are.long)) ∙ are.each cell before
    by cell below (inr last) =
        let same : count ≡ cell = omega arith in
        get_or_push entries (x, count) no_entry cell (omega (arith, are.long)) ∙ ap (λ (at : ℤ). (at, count)) is ∙ ap (entry_of places) same

-- an entry has the x of its cell
pub record IsEntry (places : List Place) (entry : ℤ × ℕ) : Type 0 where
  pub within : entry.1 < length places
  pub x_is : entry.0 ≡ (place_at places entry.1).x

abbrev entry_cmp : ℤ × ℕ → ℤ × ℕ → Ordering
entry_cmp a b = ordering_then (int_cmp a.0 b.0) (nat_cmp a.1 b.1)

abbrev cell_of : ℤ × ℕ → CellId
cell_of entry = record { 0 = entry.1 }

abbrev number_of : ℤ × ℕ → ℕ
number_of entry = entry.1

all_entries : (places : List Place) (entries : List (ℤ × ℕ)) → AreEntries places (length places) entries → All (IsEntry places) entries
all_entries places entries are = All-from_get_or (IsEntry places) entries no_entry (λ i below.
    let inside : i < length places = omega (arith, are.long) in
    subst (IsEntry places) (sym (are.each i inside)) (record { within = inside; x_is = refl }))

-- the cells are those of the places
cells_within : (places : List Place) (sorted : List (ℤ × ℕ)) → All (IsEntry places) sorted → All (λ (cell : CellId). cell.0 < length places) (cells_alone sorted)
cells_within places sorted all = All-map (λ (cell : CellId). cell.0 < length places) cell_of sorted
    (All-weaker (IsEntry places) (λ entry. entry.1 < length places) (λ entry is. is.within) sorted all)

cells_there : (places : List Place) (entries sorted : List (ℤ × ℕ)) → AreEntries places (length places) entries → IsPermutation entries sorted
    → (cell : ℕ) → cell < length places → Contains (cells_alone sorted) (record { 0 = cell })
cells_there places entries sorted are moved cell below =
    Contains-permutation (cells_alone entries) (cells_alone sorted) (record { 0 = cell }) (IsPermutation-map cell_of entries sorted moved) (
      cell,
      omega (arith, are.long, length-map entries cell_of),
      get_or-map cell_of entries cell no_entry (record { 0 = cell }) (omega (arith, are.long)) ∙ ap cell_of (are.each cell below),
    )

-- each once
same_numbers : (a b : ℕ) → Decides (nat_eq a b) (a ≡ b)
same_numbers a b = Decides-eqb a b

numbers_flip : (a b : ℕ) → nat_eq a b ≡ nat_eq b a
numbers_flip a b = grind (arith, nat_tests)

numbers_apart : (places : List Place) (entries : List (ℤ × ℕ)) → AreEntries places (length places) entries → AllPairs (λ a b. a ≢ b) (map number_of entries)
numbers_apart places entries are i j d less below same =
    let inside : j < length entries = omega (arith, length-map entries number_of) in
    let first : get_or (map number_of entries) i d ≡ i = get_or-map number_of entries i no_entry d (omega arith) ∙ ap number_of (are.each i (omega (arith, are.long))) in
    let second : get_or (map number_of entries) j d ≡ j = get_or-map number_of entries j no_entry d inside ∙ ap number_of (are.each j (omega (arith, are.long))) in
    omega (arith, first, second, same)

sorted_apart : (places : List Place) (entries sorted : List (ℤ × ℕ)) → AreEntries places (length places) entries → IsPermutation entries sorted
    → AllPairs (λ a b. a ≢ b) (map number_of sorted)
sorted_apart places entries sorted are moved =
    AllPairs-from_IsDistinct same_numbers (map number_of sorted)
    (IsDistinct-IsPermutation nat_eq numbers_flip (map number_of entries) (map number_of sorted) (IsPermutation-map number_of entries sorted moved)
    (IsDistinct-from_AllPairs same_numbers (map number_of entries) (numbers_apart places entries are)))

cells_apart : (sorted : List (ℤ × ℕ)) → AllPairs (λ a b. a ≢ b) (map number_of sorted) → AllPairs (λ (a b : CellId). a.0 ≢ b.0) (cells_alone sorted)
cells_apart sorted apart i j d less below same =
    let inside : j < length sorted = omega (arith, length-map sorted cell_of) in
    let first : get_or (cells_alone sorted) i d ≡ cell_of (get_or sorted i no_entry) = get_or-map cell_of sorted i no_entry d (omega arith) in
    let second : get_or (cells_alone sorted) j d ≡ cell_of (get_or sorted j no_entry) = get_or-map cell_of sorted j no_entry d inside in
    let one : get_or (map number_of sorted) i 0 ≡ (get_or sorted i no_entry).1 = get_or-map number_of sorted i no_entry 0 (omega arith) in
    let two : get_or (map number_of sorted) j 0 ≡ (get_or sorted j no_entry).1 = get_or-map number_of sorted j no_entry 0 inside in
    apart i j 0 less (omega (arith, length-map sorted number_of))
    (one ∙ sym (ap (λ (c : CellId). c.0) first) ∙ same ∙ ap (λ (c : CellId). c.0) second ∙ sym two)

-- in order of x
not_less : (a b : ℤ) (rest : Ordering) → is_lt (ordering_then (int_cmp a b) rest) ≡ false → b ≤ℤ a
not_less a b rest e = by (int_cmp a b) (int_ranked a b (int_cmp a b) refl) e
  where
    by : (o : Ordering) → MatchOrdering o (a <ℤ b) (a ≡ b) (b <ℤ a) → is_lt (ordering_then o rest) ≡ false → b ≤ℤ a
    by Less ranks e = absurd (let nothing : true ≡ false = e in cc)
    by Equal ranks e = omega (arith, ints, ranks)
    by Greater ranks e = omega (arith, ints, ranks)

abbrev x_in : List (ℤ × ℕ) → ℕ → ℤ
x_in sorted k = (get_or sorted k no_entry).0

far : (sorted : List (ℤ × ℕ)) → IsSorted entry_cmp sorted → (i j : ℕ) → i ≤ j → j < length sorted → x_in sorted i ≤ℤ x_in sorted j
far sorted up i zero le below = let same : i ≡ 0 = omega arith in omega (arith, ints, ap (x_in sorted) same)
far sorted up i (suc j) le below = by (cases_lt j i) (λ before. far sorted up i j before (omega arith))
  where
    next : j + 1 ≡ suc j
    next = omega arith

    step : x_in sorted j ≤ℤ x_in sorted (suc j)
    step = subst (λ n. x_in sorted j ≤ℤ x_in sorted n) next
        (not_less (x_in sorted (j + 1)) (x_in sorted j) _ (up j no_entry (omega arith) (omega arith)))

    by : (j < i) ⊎ (i ≤ j) → (i ≤ j → x_in sorted i ≤ℤ x_in sorted j) → x_in sorted i ≤ℤ x_in sorted (suc j)
    by (inl end) rest = let same : i ≡ suc j = omega (arith, le, end) in omega (arith, ints, ap (x_in sorted) same)
    by (inr before) rest = omega (arith, ints, rest before, step)

cells_rise : (places : List Place) (sorted : List (ℤ × ℕ)) → All (IsEntry places) sorted → IsSorted entry_cmp sorted
    → AllPairs (λ (a b : CellId). (place_at places a.0).x ≤ℤ (place_at places b.0).x) (cells_alone sorted)
cells_rise places sorted all up i j d less below =
    let inside : j < length sorted = omega (arith, length-map sorted cell_of) in
    let first : get_or (cells_alone sorted) i d ≡ cell_of (get_or sorted i no_entry) = get_or-map cell_of sorted i no_entry d (omega arith) in
    let second : get_or (cells_alone sorted) j d ≡ cell_of (get_or sorted j no_entry) = get_or-map cell_of sorted j no_entry d inside in
    let x_first = (all i no_entry (omega arith)).x_is in
    let x_second = (all j no_entry inside).x_is in
    let rise = far sorted up i j (omega arith) inside in
    omega (arith, ints, rise, x_first, x_second, ap (λ (c : CellId). (place_at places c.0).x) first, ap (λ (c : CellId). (place_at places c.0).x) second)

pub sorted_by_x : (places : List Place) (count : ℕ) (entries sorted : List (ℤ × ℕ)) → length places ≡ count → AreEntries places count entries → IsPermutation entries sorted
    → IsSorted (λ (a b : ℤ × ℕ). ordering_then (int_cmp a.0 b.0) (nat_cmp a.1 b.1)) sorted → AreByX places (cells_alone sorted)
sorted_by_x places count entries sorted many are moved up =
    let these : AreEntries places (length places) entries = subst (λ n. AreEntries places n entries) (sym many) are in
    let all = All-permutation (IsEntry places) entries sorted moved (all_entries places entries these) in
    record {
      within = cells_within places sorted all;
      there = cells_there places entries sorted these moved;
      apart = cells_apart sorted (sorted_apart places entries sorted these moved);
      rising = cells_rise places sorted all up;
    }

-- what holds where a call succeeds, followed by what follows from it
pub ok_then : {T E : Type 0} (r : Result T E) (P Q : T → Type 0) → IfOk r P → ((x : T) → P x → Q x) → IfOk r Q
ok_then (Ok x) P Q h f = f x h
ok_then (Err e) P Q h f = tt
