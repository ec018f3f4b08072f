-- The cells of a die, widest first.
use Rattle.std.specs.Prelude.{◌≡◌, ℕ, ◌+◌, ◌<◌, ◌≤◌, Bool, true, false, List, [], ◌∷◌, ◌++◌, length, map, filter, All, ℤ, pos, ◌-ℤ◌, IfOk, Result, Ok, Err}
use Rattle.std.specs.List.{sum_by, range_with_len}
use Rattle.std.specs.List.Sorted.{IsPermutation, IsSorted}
use Rattle.std.specs.Ordering.{nat_cmp, int_cmp, ordering_then, is_lt}
use Rattle.std.specs.declared.cmp.Ordering.{Ordering}
use Rattle.std.proofs.Common.{zero, suc, refl, sym, ap, subst, ◌∙◌, arith, cond}
use Rattle.std.proofs.lemmas.Bool.Decides.{nat_tests}
use Rattle.std.proofs.lemmas.List.{map-append, append-nil}
use Rattle.std.proofs.lemmas.List.Elements.{All-map, All-filter, All-from_get_or, filter-append}
use Rattle.std.proofs.lemmas.List.FromFn.{get_or-range_with_len, length-range_with_len}
use Rattle.std.proofs.lemmas.List.Sorted.{All-permutation, sum_by-IsPermutation}
use Rattle.std.proofs.lemmas.Simd.{map-map}
use Rattle.fp_base.specs.declared.ids.CellId.{CellId}
use Rattle.fp_base.specs.declared.ids.Die.{Die}
use Rattle.fp_netlist.specs.Netlist.{Netlist}
use Rattle.fp_netlist.specs.Points.{width}
use Rattle.fp_place.specs.Places.{die_at, same_die}
use Rattle.fp_score.specs.Pick.{sorted_by, cells_on, widest_first}
use Rattle.fp_coarse.specs.Orders.{numbers_of, entry_on, entries_on}
use Rattle.fp_coarse.specs.SortingLaws.{Goes, entries_ranked, goes_by, rising_ranked, range_ranked, same_ranked, sort_sum, sort_all, sum_by-map}

abbrev number_of : ℤ × ℕ → ℕ
number_of entry = entry.1

abbrev cell_of : ℤ × ℕ → CellId
cell_of entry = record { 0 = entry.1 }

abbrev entry_cmp : ℤ × ℕ → ℤ × ℕ → Ordering
entry_cmp a b = ordering_then (int_cmp a.0 b.0) (nat_cmp a.1 b.1)

abbrev keyed : (ℕ → ℤ) → ℤ × ℕ → Type 0
keyed key entry = entry.0 ≡ key entry.1

not_lower : (m n : ℕ) → is_lt (nat_cmp m n) ≡ false → n ≤ m
not_lower m n e = grind (arith, nat_tests)

entry_goes : (key : ℕ → ℤ) (a b : ℤ × ℕ) → keyed key a → keyed key b → is_lt (entry_cmp b a) ≡ false → Goes key (number_of a) (number_of b)
entry_goes key a b a_is b_is e = goes_by key a.0 b.0 a.1 b.1 (nat_cmp b.1 a.1) a_is b_is (not_lower b.1 a.1) e

abbrev narrowness : Netlist → Die → ℕ → ℤ
narrowness p die cell = pos 0 -ℤ pos (width p cell die)

entries_keyed : (p : Netlist) (dies : List Die) (die : Die) → All (keyed (narrowness p die)) (entries_on p dies die)
entries_keyed p dies die = All-map (keyed (narrowness p die)) (entry_on p die) (cells_on p dies die) (λ i d below. refl)

-- the numbers of sorted entries
numbers_widest : (p : Netlist) (dies : List Die) (die : Die) (entries sorted : List (ℤ × ℕ)) → entries ≡ entries_on p dies die → IsPermutation entries sorted
    → IsSorted entry_cmp sorted → map number_of sorted ≡ widest_first p dies die
numbers_widest p dies die entries sorted is moved up =
    let key : ℕ → ℤ = narrowness p die in
    let cells : List ℕ = cells_on p dies die in
    same_ranked key (map number_of sorted) (sorted_by key cells)
    (entries_ranked entry_cmp number_of key (keyed key) (entry_goes key) sorted
    (All-permutation (keyed key) entries sorted moved (subst (All (keyed key)) (sym is) (entries_keyed p dies die))) up)
    (rising_ranked key cells (range_ranked 0 (length p.cells) (λ cell. same_die (die_at dies cell) die)))
    (λ f. sum_by-map f number_of sorted ∙ sum_by-IsPermutation (λ entry. f (number_of entry)) entries sorted moved ∙ ap (sum_by (λ entry. f (number_of entry))) is
    ∙ sum_by-map (λ entry. f (number_of entry)) (entry_on p die) cells ∙ sym (sort_sum key f cells))

pub order_is : (p : Netlist) (dies : List Die) (die : Die) (entries sorted : List (ℤ × ℕ)) → entries ≡ entries_on p dies die → IsPermutation entries sorted
    → IsSorted (λ (a b : ℤ × ℕ). ordering_then (int_cmp a.0 b.0) (nat_cmp a.1 b.1)) sorted → numbers_of (map (λ (entry : ℤ × ℕ). cell_of entry) sorted) ≡ widest_first p dies die
order_is p dies die entries sorted is moved up = map-map (λ (cell : CellId). cell.0) cell_of sorted ∙ numbers_widest p dies die entries sorted is moved up

-- the cells of sorted entries are those of the problem
cells_below : (p : Netlist) (dies : List Die) (die : Die) → All (λ cell. cell < length p.cells) (cells_on p dies die)
cells_below p dies die =
    All-filter (λ cell. same_die (die_at dies cell) die) (λ cell. cell < length p.cells) (range_with_len 0 (length p.cells))
    (All-from_get_or (λ cell. cell < length p.cells) (range_with_len 0 (length p.cells)) 0 (λ i below.
    let inside : i < length p.cells = omega (arith, below, length-range_with_len 0 (length p.cells)) in
    omega (arith, get_or-range_with_len 0 (length p.cells) i 0 inside, inside)))

pub widest_within : (p : Netlist) (dies : List Die) (die : Die) → All (λ cell. cell < length p.cells) (widest_first p dies die)
widest_within p dies die = sort_all (λ cell. cell < length p.cells) (narrowness p die) (cells_on p dies die) (cells_below p dies die)

pub order_within : (p : Netlist) (dies : List Die) (die : Die) (entries sorted : List (ℤ × ℕ)) → entries ≡ entries_on p dies die → IsPermutation entries sorted
    → All (λ (cell : CellId). cell.0 < length p.cells) (map (λ (entry : ℤ × ℕ). cell_of entry) sorted)
order_within p dies die entries sorted is moved =
    All-map (λ (cell : CellId). cell.0 < length p.cells) cell_of sorted
    (All-permutation (λ entry. number_of entry < length p.cells) entries sorted moved
    (subst (All (λ (entry : ℤ × ℕ). number_of entry < length p.cells)) (sym is)
    (All-map (λ entry. number_of entry < length p.cells) (entry_on p die) (cells_on p dies die) (cells_below p dies die))))

-- one more cell of the range
range_more : (from count : ℕ) → range_with_len from (suc count) ≡ range_with_len from count ++ (from + count) ∷ []
range_more from zero = ap (λ n. n ∷ []) (omega arith)
range_more from (suc count) = ap (λ (l : List ℕ). from ∷ l) (range_more (from + 1) count) ∙ ap (λ n. from ∷ (range_with_len (from + 1) count ++ n ∷ [])) (omega arith)

cells_more : (test : ℕ → Bool) (count : ℕ) → filter test (range_with_len 0 (count + 1)) ≡ filter test (range_with_len 0 count) ++ cond (test count) (count ∷ []) []
cells_more test count =
    ap (λ n. filter test (range_with_len 0 n)) (let next : count + 1 ≡ suc count = omega arith in next)
    ∙ ap (filter test) (range_more 0 count)
    ∙ filter-append test (range_with_len 0 count) ((0 + count) ∷ [])
    ∙ ap (λ n. filter test (range_with_len 0 count) ++ cond (test n) (n ∷ []) []) (let same : 0 + count ≡ count = omega arith in same)

abbrev on_die : List Die → Die → ℕ → Bool
on_die dies die cell = same_die (die_at dies cell) die

pub entries_more : (p : Netlist) (dies : List Die) (die : Die) (count : ℕ) (entries : List (ℤ × ℕ)) (x : ℤ) → entries ≡ map (entry_on p die) (filter (on_die dies die) (range_with_len 0 count))
    → on_die dies die count ≡ true → x ≡ narrowness p die count → entries ++ (x, count) ∷ [] ≡ map (entry_on p die) (filter (on_die dies die) (range_with_len 0 (count + 1)))
entries_more p dies die count entries x is here x_is =
    ap (λ (l : List (ℤ × ℕ)). l ++ (x, count) ∷ []) is
    ∙ ap (λ (z : ℤ). map (entry_on p die) (filter (on_die dies die) (range_with_len 0 count)) ++ (z, count) ∷ []) x_is
    ∙ sym (map-append (entry_on p die) (filter (on_die dies die) (range_with_len 0 count)) (count ∷ []))
    ∙ ap (λ b. map (entry_on p die) (filter (on_die dies die) (range_with_len 0 count) ++ cond b (count ∷ []) [])) (sym here)
    ∙ ap (map (entry_on p die)) (sym (cells_more (on_die dies die) count))

pub entries_same : (p : Netlist) (dies : List Die) (die : Die) (count : ℕ) (entries : List (ℤ × ℕ)) → entries ≡ map (entry_on p die) (filter (on_die dies die) (range_with_len 0 count))
    → on_die dies die count ≡ false → entries ≡ map (entry_on p die) (filter (on_die dies die) (range_with_len 0 (count + 1)))
entries_same p dies die count entries is here =
    is ∙ ap (map (entry_on p die)) (sym (cells_more (on_die dies die) count
    ∙ ap (λ b. filter (on_die dies die) (range_with_len 0 count) ++ cond b (count ∷ []) []) here ∙ append-nil (filter (on_die dies die) (range_with_len 0 count))))

-- what holds where a call succeeds, followed by what follows from it
pub ok_then : {T E : Type 0} (r : Result T E) (P Q : T → Type 0) → IfOk r P → ((x : T) → P x → Q x) → IfOk r Q
ok_then (Ok x) P Q h f = f x h
ok_then (Err e) P Q h f = tt
