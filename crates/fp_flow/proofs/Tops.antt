-- The cells of the top die, listed by rising number: each die is known from the list, and no cell is listed twice.
use Rattle.std.proofs.Common.{◌≡◌, ℕ, zero, suc, ◌+◌, ◌<◌, ◌≤◌, Bool, true, false, cond, List, [], ◌∷◌, ◌++◌, length, map, refl, sym, ap, subst, ◌∙◌, arith}
use Rattle.std.specs.Prelude.{All, nat_eq, ◌||◌}
use Rattle.std.specs.List.{range_with_len, filter, list_any, IsDistinct, AllByRecursion}
use Rattle.std.proofs.lemmas.Bool.Decides.{nat_tests}
use Rattle.std.proofs.lemmas.List.{append-nil}
use Rattle.std.proofs.lemmas.List.Elements.{All-filter, All-map}
use Rattle.std.proofs.lemmas.List.FromFn.{fill_by_all, length-range_with_len, get_or-range_with_len, filter_of_map_range_with_len_more}
use Rattle.fp_base.specs.declared.ids.CellId.{CellId}
use Rattle.fp_base.specs.declared.ids.Die.{Die}
use Rattle.fp_base.specs.declared.ids.Die.TheVariants.{Top, Bottom}
use Rattle.fp_place.specs.Places.{same_die, die_at}
use Rattle.fp_netlist.specs.Netlist.{Netlist}
use Rattle.fp_cert.specs.Shown.{ShownTrial, trial_without}
use Rattle.fp_cert.specs.Standing.{dies_shown}
use Rattle.fp_cert.specs.Trials.{IsRowless}
use Rattle.fp_cert.specs.declared.shown.Ending.TheVariants.{NoRow}
use Rattle.fp_flow.specs.Tops.{cell_of, tops_of}

-- ---- those of a range of numbers that pass a test

abbrev passing : (ℕ → Bool) → ℕ → ℕ → List CellId
passing p from count = filter (λ (cell : CellId). p cell.0) (map cell_of (range_with_len from count))

abbrev is_listed : ℕ → List CellId → Bool
is_listed number cells = list_any (λ (cell : CellId). nat_eq cell.0 number) cells

unequal : (a b : ℕ) → (a ≡ b → ⊥) → nat_eq a b ≡ false
unequal a b differ = grind (arith, nat_tests)

equal : (a : ℕ) → nat_eq a a ≡ true
equal a = grind (arith, nat_tests)

-- a number before the range is not listed
before : (p : ℕ → Bool) (number from count : ℕ) → number < from → is_listed number (passing p from count) ≡ false
before p number from zero below = refl
before p number from (suc count) below = by (p from) (unequal from number (λ same. omega (arith, same))) (before p number (from + 1) count (omega arith))
  where
    by : (b : Bool) → nat_eq from number ≡ false → is_listed number (passing p (from + 1) count) ≡ false
        → is_listed number (cond b (cell_of from ∷ passing p (from + 1) count) (passing p (from + 1) count)) ≡ false
    by true differ rest = ap (λ b. b || is_listed number (passing p (from + 1) count)) differ ∙ rest
    by false differ rest = rest

-- a number of the range is listed where it passes
within : (p : ℕ → Bool) (number from count : ℕ) → from ≤ number → number < from + count → is_listed number (passing p from count) ≡ p number
within p number from zero low high = absurd (omega arith)
within p number from (suc count) low high =
    by (p from) refl (nat_eq from number) refl (before p number (from + 1) count) (λ later. within p number (from + 1) count later (omega arith))
  where
    by : (b : Bool) → p from ≡ b → (here : Bool) → nat_eq from number ≡ here → (number < from + 1 → is_listed number (passing p (from + 1) count) ≡ false)
        → (from + 1 ≤ number → is_listed number (passing p (from + 1) count) ≡ p number)
        → is_listed number (cond b (cell_of from ∷ passing p (from + 1) count) (passing p (from + 1) count)) ≡ p number
    by true passes true is none rest =
        let same : from ≡ number = grind (arith, nat_tests) in
        ap (λ b. b || is_listed number (passing p (from + 1) count)) is ∙ sym passes ∙ ap p same
    by true passes false is none rest =
        let later : from + 1 ≤ number = grind (arith, nat_tests) in
        ap (λ b. b || is_listed number (passing p (from + 1) count)) is ∙ rest later
    by false passes true is none rest =
        let same : from ≡ number = grind (arith, nat_tests) in
        none (omega arith) ∙ sym passes ∙ ap p same
    by false passes false is none rest =
        let later : from + 1 ≤ number = grind (arith, nat_tests) in
        rest later

-- each number that is listed is behind one before the range
behind : (p : ℕ → Bool) (number from count : ℕ) → number < from → AllByRecursion (λ later. nat_eq number later ≡ false) (map (λ (cell : CellId). cell.0) (passing p from count))
behind p number from zero below = tt
behind p number from (suc count) below = by (p from) (unequal number from (λ same. omega (arith, same))) (behind p number (from + 1) count (omega arith))
  where
    by : (b : Bool) → nat_eq number from ≡ false → AllByRecursion (λ later. nat_eq number later ≡ false) (map (λ (cell : CellId). cell.0) (passing p (from + 1) count))
        → AllByRecursion (λ later. nat_eq number later ≡ false) (map (λ (cell : CellId). cell.0) (cond b (cell_of from ∷ passing p (from + 1) count) (passing p (from + 1) count)))
    by true differ rest = (differ, rest)
    by false differ rest = rest

listed_once : (p : ℕ → Bool) (from count : ℕ) → IsDistinct nat_eq (map (λ (cell : CellId). cell.0) (passing p from count))
unfolding IsDistinct
listed_once p from zero = tt
listed_once p from (suc count) = by (p from) (behind p from (from + 1) count (omega arith)) (listed_once p (from + 1) count)
  where
    by : (b : Bool) → AllByRecursion (λ later. nat_eq from later ≡ false) (map (λ (cell : CellId). cell.0) (passing p (from + 1) count))
        → IsDistinct nat_eq (map (λ (cell : CellId). cell.0) (passing p (from + 1) count))
        → IsDistinct nat_eq (map (λ (cell : CellId). cell.0) (cond b (cell_of from ∷ passing p (from + 1) count) (passing p (from + 1) count)))
    by true differ rest = (differ, rest)
    by false differ rest = rest

-- ---- the top die's cells

pub tops_distinct : (dies : List Die) (count : ℕ) → IsDistinct nat_eq (map (λ (cell : CellId). cell.0) (tops_of dies count))
tops_distinct dies count = listed_once (λ number. same_die (die_at dies number) Top) 0 count

die_again : (die : Die) → cond (same_die die Top) Top Bottom ≡ die
die_again Top = refl
die_again Bottom = refl

-- a die is that of the list
listed_again : (dies : List Die) (count number : ℕ) → number < count → die_at dies number ≡ cond (is_listed number (tops_of dies count)) Top Bottom
listed_again dies count number below =
    sym (ap (λ b. cond b Top Bottom) (within (λ k. same_die (die_at dies k) Top) number 0 count (omega arith) (omega arith)) ∙ die_again (die_at dies number))

pub tops_within : (dies : List Die) (count : ℕ) → All (λ (cell : CellId). cell.0 < count) (tops_of dies count)
tops_within dies count =
    All-filter (λ (cell : CellId). same_die (die_at dies cell.0) Top) (λ (cell : CellId). cell.0 < count) (map cell_of (range_with_len 0 count))
    (All-map (λ (cell : CellId). cell.0 < count) cell_of (range_with_len 0 count)
    (λ k d below.
    let inside : k < count = omega (arith, below, length-range_with_len 0 count) in
    omega (arith, get_or-range_with_len 0 count k d inside, inside)))

pub dies_again : (dies : List Die) (count : ℕ) → length dies ≡ count → map (λ number. cond (is_listed number (tops_of dies count)) Top Bottom) (range_with_len 0 count) ≡ dies
dies_again dies count many =
    sym (fill_by_all (λ number. cond (is_listed number (tops_of dies count)) Top Bottom) dies count Top many (λ number below. listed_again dies count number below))

-- ---- one more cell

pub tops_more : (dies : List Die) (number : ℕ) → same_die (die_at dies number) Top ≡ true → tops_of dies number ++ cell_of number ∷ [] ≡ tops_of dies (number + 1)
tops_more dies number on =
    sym (filter_of_map_range_with_len_more (λ (cell : CellId). same_die (die_at dies cell.0) Top) cell_of 0 number number (omega arith)
    ∙ ap (λ b. tops_of dies number ++ cond b (cell_of number ∷ []) []) on)

pub tops_same : (dies : List Die) (number : ℕ) → same_die (die_at dies number) Top ≡ false → tops_of dies number ≡ tops_of dies (number + 1)
tops_same dies number off =
    sym (filter_of_map_range_with_len_more (λ (cell : CellId). same_die (die_at dies cell.0) Top) cell_of 0 number number (omega arith)
    ∙ ap (λ b. tops_of dies number ++ cond b (cell_of number ∷ []) []) off ∙ append-nil (tops_of dies number))

-- ---- the trial

-- a trial that lists them, and nothing else, is one without a row
pub is_rowless : (p : Netlist) (dies : List Die) (cell : CellId) (trial : ShownTrial) → length dies ≡ length p.cells
    → trial ≡ record (trial_without (NoRow cell) 0) { top_cells = tops_of dies (length p.cells) } → IsRowless p dies cell.0 trial
unfolding dies_shown
is_rowless p dies cell trial many is = subst (IsRowless p dies cell.0) (sym is) (record {
  ending_is = refl;
  dies_are = dies_again dies (length p.cells) many;
  within = tops_within dies (length p.cells);
  distinct = tops_distinct dies (length p.cells);
  no_top = refl;
  no_bottom = refl;
  no_cuts = refl;
  no_score = refl;
})
