-- Cells in order of their area, and their places.
use Rattle.std.proofs.Common.{◌≡◌, ◌≢◌, ℕ, ◌+◌, ◌<◌, ◌≤◌, ◌⊎◌, inl, inr, true, false, nat_eq, IsTrue, List, [], ◌∷◌, ◌++◌, length, map, get_or, set, length-set, Option, Some, None, Result, Ok, Err, IfOk, refl, sym, ap, subst, ◌∙◌, arith}
use Rattle.std.specs.Bool.{Decides}
use Rattle.std.specs.List.{All, AllPairs, Contains}
use Rattle.std.specs.List.Sorted.{IsPermutation, IsSorted, IsNonDecreasingBy}
use Rattle.std.specs.Ordering.{MatchOrdering, nat_cmp, ordering_then, is_lt}
use Rattle.std.specs.declared.cmp.Ordering.{Ordering}
use Rattle.std.specs.declared.cmp.Ordering.TheVariants.{Less, Equal, Greater}
use Rattle.std.proofs.lemmas.Bool.{cases_lt, cases_eq}
use Rattle.std.proofs.lemmas.Bool.Decides.{Decides-eqb, nat_tests}
use Rattle.std.proofs.lemmas.Cmp.{ranked}
use Rattle.std.proofs.lemmas.List.{length-map, length_push, get_or-map, map-append, get_or-set_same, get_or-set_other}
use Rattle.std.proofs.lemmas.List.Elements.{All-map, All-weaker, All-push, Contains-append_left, Contains-push}
use Rattle.std.proofs.lemmas.List.Quantifiers.{all_pairs_push}
use Rattle.std.proofs.lemmas.List.Sorted.{length_permutation, IsPermutation-map, All-permutation, Contains-permutation, IsNonDecreasingBy-from_all_adjacent}
use Rattle.std.proofs.lemmas.Map.Keys.{IsDistinct-IsPermutation}
use Rattle.std.proofs.lemmas.Map.Made.{AllPairs-from_IsDistinct, IsDistinct-from_AllPairs}
use Rattle.fp_base.specs.declared.ids.CellId.{CellId}
use Rattle.fp_base.specs.declared.ids.Die.{Die}
use Rattle.fp_netlist.specs.Netlist.{Netlist}
use Rattle.fp_netlist.specs.Points.{area}
use Rattle.fp_place.specs.Areas.{fits}
use Rattle.fp_gains.specs.OrderParts.{numbers, AreSlots, no_entry, cells_alone, IsEntry, AreAreas, AreApart, AreByArea}

abbrev cell_of : ℕ × ℕ → CellId
cell_of entry = record { 0 = entry.1 }

abbrev number_in : ℕ × ℕ → ℕ
number_in entry = entry.1

-- the entries of one cell more
entry_later : (p : Netlist) (die : Die) (count : ℕ) (entry : ℕ × ℕ) → IsEntry p die count entry → IsEntry p die (count + 1) entry
entry_later p die count entry is = record { within = omega (arith, is.within); fitting = is.fitting; area_is = is.area_is }

pub areas_more : (p : Netlist) (die : Die) (count : ℕ) (entries : List (ℕ × ℕ)) (size : ℕ) → AreAreas p die count entries → IsTrue (fits p count die) → size ≡ area p count die
    → AreAreas p die (count + 1) (entries ++ (size, count) ∷ [])
areas_more p die count entries size are fitting is = record {
  few = omega (arith, are.few, length_push entries (size, count));
  each = All-push (IsEntry p die (count + 1)) entries (size, count) (All-weaker (IsEntry p die count) (IsEntry p die (count + 1)) (entry_later p die count) entries are.each)
      (record { within = omega arith; fitting = fitting; area_is = is });
  there = λ cell less fit. subst (λ (cells : List CellId). Contains cells (record { 0 = cell })) (sym (map-append cell_of entries ((size, count) ∷ []))) (by cell fit less (cases_lt cell count));
  apart = all_pairs_push (λ (a b : ℕ × ℕ). a.1 ≢ b.1) entries (size, count) are.apart (λ k d less same. omega (arith, (are.each k d less).within, same));
}
  where
    by : (cell : ℕ) → IsTrue (fits p cell die) → cell < count + 1 → (cell < count) ⊎ (count ≤ cell) → Contains (cells_alone entries ++ record { 0 = count } ∷ []) (record { 0 = cell })
    by cell fit less (inl before) = Contains-append_left (cells_alone entries) _ _ (are.there cell before fit)
    by cell fit less (inr last) =
        let same : count ≡ cell = omega arith in
        subst (λ (c : ℕ). Contains (cells_alone entries ++ record { 0 = count } ∷ []) (record { 0 = c })) same (Contains-push (cells_alone entries) (record { 0 = count }))

pub areas_same : (p : Netlist) (die : Die) (count : ℕ) (entries : List (ℕ × ℕ)) → AreAreas p die count entries → fits p count die ≡ false → AreAreas p die (count + 1) entries
areas_same p die count entries are out = record {
  few = omega (arith, are.few);
  each = All-weaker (IsEntry p die count) (IsEntry p die (count + 1)) (entry_later p die count) entries are.each;
  there = λ cell less fit. by cell fit less (cases_lt cell count);
  apart = are.apart;
}
  where
    by : (cell : ℕ) → IsTrue (fits p cell die) → cell < count + 1 → (cell < count) ⊎ (count ≤ cell) → Contains (cells_alone entries) (record { 0 = cell })
    by cell fit less (inl before) = are.there cell before fit
    by cell fit less (inr last) =
        let same : count ≡ cell = omega arith in
        absurd (let e : false ≡ true = sym out ∙ ap (λ (c : ℕ). fits p c die) same ∙ fit in cc)

-- sorted entries
same_numbers : (a b : ℕ) → Decides (nat_eq a b) (a ≡ b)
same_numbers a b = Decides-eqb a b

numbers_flip : (a b : ℕ) → nat_eq a b ≡ nat_eq b a
numbers_flip a b = grind (arith, nat_tests)

numbers_apart : (entries : List (ℕ × ℕ)) → AllPairs (λ (a b : ℕ × ℕ). a.1 ≢ b.1) entries → AllPairs (λ (a b : ℕ). a ≢ b) (map number_in entries)
numbers_apart entries apart i j d less below same =
    let inside : j < length entries = omega (arith, length-map entries number_in) in
    apart i j no_entry less inside
    (sym (get_or-map number_in entries i no_entry d (omega arith)) ∙ same ∙ get_or-map number_in entries j no_entry d inside)

cells_apart : (sorted : List (ℕ × ℕ)) → AllPairs (λ (a b : ℕ). a ≢ b) (map number_in sorted) → AreApart (cells_alone sorted)
cells_apart sorted apart i j d less below same =
    let inside : j < length sorted = omega (arith, length-map sorted cell_of) in
    let first : get_or (cells_alone sorted) i d ≡ cell_of (get_or sorted i no_entry) = get_or-map cell_of sorted i no_entry d (omega arith) in
    let second : get_or (cells_alone sorted) j d ≡ cell_of (get_or sorted j no_entry) = get_or-map cell_of sorted j no_entry d inside in
    let one : get_or (map number_in sorted) i 0 ≡ (get_or sorted i no_entry).1 = get_or-map number_in sorted i no_entry 0 (omega arith) in
    let two : get_or (map number_in sorted) j 0 ≡ (get_or sorted j no_entry).1 = get_or-map number_in sorted j no_entry 0 inside in
    apart i j 0 less (omega (arith, length-map sorted number_in))
    (one ∙ sym (ap (λ (c : CellId). c.0) first) ∙ same ∙ ap (λ (c : CellId). c.0) second ∙ sym two)

sorted_apart : (entries sorted : List (ℕ × ℕ)) → AllPairs (λ (a b : ℕ × ℕ). a.1 ≢ b.1) entries → IsPermutation entries sorted → AreApart (cells_alone sorted)
sorted_apart entries sorted apart moved =
    cells_apart sorted
    (AllPairs-from_IsDistinct same_numbers (map number_in sorted)
    (IsDistinct-IsPermutation nat_eq numbers_flip (map number_in entries) (map number_in sorted) (IsPermutation-map number_in entries sorted moved)
    (IsDistinct-from_AllPairs same_numbers (map number_in entries) (numbers_apart entries apart))))

not_less : (a b : ℕ) (rest : Ordering) → is_lt (ordering_then (nat_cmp a b) rest) ≡ false → b ≤ a
not_less a b rest e = by (nat_cmp a b) (ranked a b (nat_cmp a b) refl) e
  where
    by : (o : Ordering) → MatchOrdering o (a < b) (a ≡ b) (b < a) → is_lt (ordering_then o rest) ≡ false → b ≤ a
    by Less ranks e = absurd (let nothing : true ≡ false = e in cc)
    by Equal ranks e = omega (arith, ranks)
    by Greater ranks e = omega (arith, ranks)

abbrev area_in : ℕ × ℕ → ℕ
area_in entry = entry.0

entries_rise : (sorted : List (ℕ × ℕ)) → IsSorted (λ (a b : ℕ × ℕ). ordering_then (nat_cmp a.0 b.0) (nat_cmp a.1 b.1)) sorted → IsNonDecreasingBy area_in sorted
entries_rise sorted up = IsNonDecreasingBy-from_all_adjacent area_in sorted (λ k d less. not_less _ _ _ (up k d (omega arith) less))

cells_rise : (p : Netlist) (die : Die) (count : ℕ) (sorted : List (ℕ × ℕ)) → All (IsEntry p die count) sorted → IsNonDecreasingBy area_in sorted
    → IsNonDecreasingBy (λ (cell : CellId). area p cell.0 die) (cells_alone sorted)
cells_rise p die count sorted each up i j d less below =
    let inside : j < length sorted = omega (arith, length-map sorted cell_of) in
    let first : get_or (cells_alone sorted) i d ≡ cell_of (get_or sorted i no_entry) = get_or-map cell_of sorted i no_entry d (omega arith) in
    let second : get_or (cells_alone sorted) j d ≡ cell_of (get_or sorted j no_entry) = get_or-map cell_of sorted j no_entry d inside in
    let area_first = (each i no_entry (omega arith)).area_is ∙ ap (λ (c : CellId). area p c.0 die) (sym first) in
    let area_second = (each j no_entry inside).area_is ∙ ap (λ (c : CellId). area p c.0 die) (sym second) in
    subst (λ (n : ℕ). n ≤ area p (get_or (cells_alone sorted) j d).0 die) area_first
    (subst (λ (n : ℕ). (get_or sorted i no_entry).0 ≤ n) area_second (up i j no_entry less inside))

pub sorted_by_area : (p : Netlist) (die : Die) (entries sorted : List (ℕ × ℕ)) → AreAreas p die (length p.cells) entries → IsPermutation entries sorted
    → IsSorted (λ (a b : ℕ × ℕ). ordering_then (nat_cmp a.0 b.0) (nat_cmp a.1 b.1)) sorted → AreByArea p die (cells_alone sorted)
sorted_by_area p die entries sorted are moved up = record {
  few = omega (arith, are.few, length_permutation entries sorted moved, length-map sorted cell_of);
  within = All-map (λ (cell : CellId). cell.0 < length p.cells) cell_of sorted (All-weaker (IsEntry p die (length p.cells)) (λ entry. entry.1 < length p.cells) (λ entry is. is.within) sorted each);
  fitting = All-map (λ (cell : CellId). IsTrue (fits p cell.0 die)) cell_of sorted (All-weaker (IsEntry p die (length p.cells)) (λ entry. IsTrue (fits p entry.1 die)) (λ entry is. is.fitting) sorted each);
  there = λ cell less fit. Contains-permutation (cells_alone entries) (cells_alone sorted) (record { 0 = cell }) (IsPermutation-map cell_of entries sorted moved) (are.there cell less fit);
  apart = sorted_apart entries sorted are.apart moved;
  rising = cells_rise p die (length p.cells) sorted each (entries_rise sorted up);
}
  where
    each : All (IsEntry p die (length p.cells)) sorted
    each = All-permutation (IsEntry p die (length p.cells)) entries sorted moved are.each

-- the places of one cell more
abbrev no_cell : CellId
no_cell = record { 0 = 0 }

number_at : (cells : List CellId) (slot : ℕ) → slot < length cells → get_or (numbers cells) slot 0 ≡ (get_or cells slot no_cell).0
number_at cells slot below = get_or-map (λ (cell : CellId). cell.0) cells slot no_cell 0 below

pub slots_more : (many : ℕ) (places : List (Option ℕ)) (cells : List CellId) (count here : ℕ) → AreSlots many places cells count → count < length cells
    → All (λ (cell : CellId). cell.0 < many) cells → AreApart cells → here ≡ (get_or cells count no_cell).0 → AreSlots many (set places here (Some count)) cells (count + 1)
slots_more many places cells count here are below within apart is = record {
  long = length-set places here (Some count) ∙ are.long;
  hold = record {
    found = λ slot less. found_by slot less (cases_lt slot count);
    named = λ cell slot there. named_by cell slot there (cases_eq cell here);
  };
}
  where
    here_is : get_or (numbers cells) count 0 ≡ here
    here_is = number_at cells count below ∙ sym is

    inside : here < length places
    inside = omega (arith, within count no_cell below, are.long, is)

    found_by : (slot : ℕ) → slot < count + 1 → (slot < count) ⊎ (count ≤ slot) → get_or (set places here (Some count)) (get_or (numbers cells) slot 0) None ≡ Some slot
    found_by slot less (inl before) =
        get_or-set_other places here (get_or (numbers cells) slot 0) (Some count) None
        (λ e. apart slot count no_cell before below (sym (number_at cells slot (omega arith)) ∙ e ∙ is))
        ∙ are.hold.found slot before
    found_by slot less (inr last) =
        let same : count ≡ slot = omega arith in
        subst (λ (s : ℕ). get_or (set places here (Some count)) (get_or (numbers cells) s 0) None ≡ Some s) same
        (ap (λ (c : ℕ). get_or (set places here (Some count)) c None) here_is ∙ get_or-set_same places here (Some count) None inside)

    named_by : (cell slot : ℕ) → get_or (set places here (Some count)) cell None ≡ Some slot → (cell ≡ here) ⊎ (cell ≢ here) → (slot < count + 1) × (get_or (numbers cells) slot 0 ≡ cell)
    named_by cell slot there (inl same) =
        let at : Some count ≡ Some slot = sym (get_or-set_same places here (Some count) None inside) ∙ ap (λ (c : ℕ). get_or (set places here (Some count)) c None) (sym same) ∙ there in
        let one : count ≡ slot = cc in
        (omega arith, ap (λ (s : ℕ). get_or (numbers cells) s 0) (sym one) ∙ here_is ∙ sym same)
    named_by cell slot there (inr other) =
        let before = are.hold.named cell slot (sym (get_or-set_other places here cell (Some count) None other) ∙ there) in
        (omega (arith, before.0), before.1)

-- what holds where a call succeeds, followed by what follows from it
pub ok_then : {T E : Type 0} (r : Result T E) (P Q : T → Type 0) → IfOk r P → ((x : T) → P x → Q x) → IfOk r Q
ok_then (Ok x) P Q h f = f x h
ok_then (Err e) P Q h f = tt
