-- Cells that are marked one after the other: lists of them add up, and all are marked exactly where they are new.
use Rattle.std.proofs.Common.{◌≡◌, ◌≢◌, ℕ, zero, suc, ◌+◌, ◌<◌, Bool, true, false, cond, List, [], ◌∷◌, ◌++◌, length, map, take, drop, set, get_or, replicate, slice_get, Option, Some, None, refl, sym, ap, ◌∙◌, arith}
use Rattle.std.specs.Prelude.{◌⊎◌, ◌↔◌, ◌&&◌, All, IsTrue, nat_eq, nat_lt, option_map}
use Rattle.std.specs.List.{list_all, IsDistinct}
use Rattle.std.specs.Option.{option_and_then}
use Rattle.std.proofs.Common.{inl, inr}
use Rattle.std.proofs.lemmas.Bool.{false≢true}
use Rattle.std.proofs.lemmas.Bool.Decides.{nat_tests}
use Rattle.std.proofs.lemmas.List.{length-set, get_or-set_same, get_or-set_other, get_or-replicate, take-append-drop, take_more}
use Rattle.std.proofs.lemmas.Map.Keys.{apart_from_distinct, IsDistinct-from_apart}
use Rattle.std.proofs.lemmas.Option.{same_Some, slice_get-map, slice_get_within, slice_get-get_or, get_or_from_slice_get}
use Rattle.fp_base.specs.declared.ids.CellId.{CellId}
use Rattle.fp_cert.specs.declared.shown.CellShown.{CellShown}
use Rattle.fp_cert.specs.Shown.{ShownRow}
use Rattle.fp_check.specs.Marks.{marked, cells_in, cells_in_rows, Marks}

-- ---- one list after the other

pub marked_then : (seen : List Bool) (first cells : List ℕ) → marked seen (first ++ cells) ≡ option_and_then (λ held. marked held cells) (marked seen first)
unfolding marked
marked_then seen [] cells = refl
marked_then seen (cell ∷ first) cells = by (get_or seen cell true) (marked_then (set seen cell true) first cells)
  where
    by : (b : Bool) → marked (set seen cell true) (first ++ cells) ≡ option_and_then (λ held. marked held cells) (marked (set seen cell true) first)
        → cond b None (marked (set seen cell true) (first ++ cells)) ≡ option_and_then (λ held. marked held cells) (cond b None (marked (set seen cell true) first))
    by true rest = refl
    by false rest = rest

-- none marked stays none marked
pub front_none : (seen : List Bool) (first cells : List ℕ) → marked seen first ≡ None → marked seen (first ++ cells) ≡ None
front_none seen first cells none = marked_then seen first cells ∙ ap (option_and_then (λ held. marked held cells)) none

pub after_front : (seen held : List Bool) (first cells : List ℕ) → marked seen first ≡ Some held → marked seen (first ++ cells) ≡ marked held cells
after_front seen held first cells is = marked_then seen first cells ∙ ap (option_and_then (λ now. marked now cells)) is

-- ---- the cells of lines and of rows, one more

pub cells_after : (first lines : List CellShown) → cells_in (first ++ lines) ≡ cells_in first ++ cells_in lines
cells_after [] lines = refl
cells_after (line ∷ first) lines = ap (λ cells. line.cell.0 ∷ cells) (cells_after first lines)

append_again : (a b c : List ℕ) → a ++ (b ++ c) ≡ (a ++ b) ++ c
append_again [] b c = refl
append_again (x ∷ a) b c = ap (λ xs. x ∷ xs) (append_again a b c)

pub rows_after : (first rows : List ShownRow) → cells_in_rows (first ++ rows) ≡ cells_in_rows first ++ cells_in_rows rows
rows_after [] rows = refl
rows_after (row ∷ first) rows = ap (λ cells. cells_in row.cells ++ cells) (rows_after first rows) ∙ append_again (cells_in row.cells) (cells_in_rows first) (cells_in_rows rows)

no_more : (cells : List ℕ) → cells ++ [] ≡ cells
no_more [] = refl
no_more (cell ∷ cells) = ap (λ xs. cell ∷ xs) (no_more cells)

pub row_after : (first : List ShownRow) (row : ShownRow) → cells_in_rows (first ++ row ∷ []) ≡ cells_in_rows first ++ cells_in row.cells
row_after first row = rows_after first (row ∷ []) ∙ ap (λ cells. cells_in_rows first ++ cells) (no_more (cells_in row.cells))

-- where a front of lines, or of rows, is not marked, all of them are not
pub lines_none : (seen : List Bool) (lines : List CellShown) (k : ℕ) → marked seen (cells_in (take k lines)) ≡ None → marked seen (cells_in lines) ≡ None
lines_none seen lines k none =
    ap (λ these. marked seen (cells_in these)) (sym (take-append-drop k lines))
    ∙ ap (marked seen) (cells_after (take k lines) (drop k lines))
    ∙ front_none seen (cells_in (take k lines)) (cells_in (drop k lines)) none

pub rows_none : (seen : List Bool) (rows : List ShownRow) (k : ℕ) → marked seen (cells_in_rows (take k rows)) ≡ None → marked seen (cells_in_rows rows) ≡ None
rows_none seen rows k none =
    ap (λ these. marked seen (cells_in_rows these)) (sym (take-append-drop k rows))
    ∙ ap (marked seen) (rows_after (take k rows) (drop k rows))
    ∙ front_none seen (cells_in_rows (take k rows)) (cells_in_rows (drop k rows)) none

pub list_none : (seen : List Bool) (cells : List ℕ) (k : ℕ) → marked seen (take k cells) ≡ None → marked seen cells ≡ None
list_none seen cells k none = ap (marked seen) (sym (take-append-drop k cells)) ∙ front_none seen (take k cells) (drop k cells) none

-- ---- cells that are new

-- each cell has a place and no mark, and none comes twice
pub record AreNew (seen : List Bool) (cells : List ℕ) : Type 0 where
  pub unmarked : (i k : ℕ) → slice_get cells i ≡ Some k → get_or seen k true ≡ false
  pub apart : (i j k : ℕ) → slice_get cells i ≡ Some k → slice_get cells j ≡ Some k → i ≡ j

-- what has no mark has a place
within : (seen : List Bool) (k : ℕ) → get_or seen k true ≡ false → k < length seen
within [] k is = absurd (false≢true (sym is))
within (mark ∷ seen) zero is = omega arith
within (mark ∷ seen) (suc k) is = omega (arith, within seen k is)

same_number : (a b : ℕ) → nat_eq a b ≡ true → a ≡ b
same_number a b is = grind (arith, nat_tests)

other_number : (a b : ℕ) → nat_eq a b ≡ false → a ≢ b
other_number a b is same = false≢true (sym is ∙ grind (arith, nat_tests))

-- a cell without a mark after another one got its own
record IsOther (seen : List Bool) (cell k : ℕ) : Type 0 where
  differs : k ≢ cell
  unmarked : get_or seen k true ≡ false

other_is : (seen : List Bool) (cell k : ℕ) → cell < length seen → get_or (set seen cell true) k true ≡ false → IsOther seen cell k
other_is seen cell k below is = by (nat_eq k cell) refl
  where
    by : (b : Bool) → nat_eq k cell ≡ b → IsOther seen cell k
    by true same =
        let number : cell ≡ k = sym (same_number k cell same) in
        absurd (false≢true (sym is ∙ ap (λ n. get_or (set seen cell true) n true) (sym number) ∙ get_or-set_same seen cell true true below))
    by false other =
        let differs = other_number k cell other in
        record { differs = differs; unmarked = sym (get_or-set_other seen cell k true true differs) ∙ is }

-- all are marked only where they are new,
pub marked_new : (seen : List Bool) (cells : List ℕ) (after : List Bool) → marked seen cells ≡ Some after → AreNew seen cells
unfolding marked
marked_new seen [] after is = record { unmarked = λ i k at. absurd cc; apart = λ i j k at there. absurd cc }
marked_new seen (cell ∷ cells) after is = by (get_or seen cell true) refl is (marked_new (set seen cell true) cells after)
  where
    by : (b : Bool) → get_or seen cell true ≡ b → cond b None (marked (set seen cell true) cells) ≡ Some after
        → (marked (set seen cell true) cells ≡ Some after → AreNew (set seen cell true) cells) → AreNew seen (cell ∷ cells)
    by true had is later = absurd (let none : None ≡ Some after = is in cc)
    by false had is later = record { unmarked = unmarked; apart = apart }
      where
        rest : AreNew (set seen cell true) cells
        rest = later is

        other : (i k : ℕ) → slice_get cells i ≡ Some k → IsOther seen cell k
        other i k at = other_is seen cell k (within seen cell had) (rest.unmarked i k at)

        unmarked : (i k : ℕ) → slice_get (cell ∷ cells) i ≡ Some k → get_or seen k true ≡ false
        unmarked zero k at = ap (λ n. get_or seen n true) (sym (same_Some cell k at)) ∙ had
        unmarked (suc i) k at = (other i k at).unmarked

        apart : (i j k : ℕ) → slice_get (cell ∷ cells) i ≡ Some k → slice_get (cell ∷ cells) j ≡ Some k → i ≡ j
        apart zero zero k at there = refl
        apart zero (suc j) k at there = absurd ((other j k there).differs (sym (same_Some cell k at)))
        apart (suc i) zero k at there = absurd ((other i k at).differs (sym (same_Some cell k there)))
        apart (suc i) (suc j) k at there = ap suc (rest.apart i j k at there)

-- and always then.
pub new_marked : (seen : List Bool) (cells : List ℕ) → AreNew seen cells → (after : List Bool) × (marked seen cells ≡ Some after)
unfolding marked
new_marked seen [] new = (seen, refl)
new_marked seen (cell ∷ cells) new =
    let has : get_or seen cell true ≡ false = new.unmarked 0 cell refl in
    let rest = new_marked (set seen cell true) cells (record {
      unmarked = λ i k at.
          let differs : k ≢ cell = λ same. let both : 0 ≡ suc i = new.apart 0 (suc i) k (ap Some (sym same)) at in absurd (omega (arith, both)) in
          get_or-set_other seen cell k true true differs ∙ new.unmarked (suc i) k at;
      apart = λ i j k at there. let both : suc i ≡ suc j = new.apart (suc i) (suc j) k at there in omega (arith, both);
    }) in
    (rest.0, ap (λ b. cond b None (marked (set seen cell true) cells)) has ∙ rest.1)

-- ---- the marks then

pub length-marked : (seen : List Bool) (cells : List ℕ) (after : List Bool) → marked seen cells ≡ Some after → length after ≡ length seen
unfolding marked
length-marked seen [] after is = ap length (sym (same_Some seen after is))
length-marked seen (cell ∷ cells) after is = by (get_or seen cell true) is (length-marked (set seen cell true) cells after)
  where
    by : (b : Bool) → cond b None (marked (set seen cell true) cells) ≡ Some after
        → (marked (set seen cell true) cells ≡ Some after → length after ≡ length (set seen cell true)) → length after ≡ length seen
    by true is later = absurd (let none : None ≡ Some after = is in cc)
    by false is later = later is ∙ length-set seen cell true

-- a cell that has its mark had it, or is one of those that were marked
pub was_marked : (seen : List Bool) (cells : List ℕ) (after : List Bool) (k : ℕ) → marked seen cells ≡ Some after → get_or after k true ≡ true
    → (get_or seen k true ≡ true) ⊎ ((i : ℕ) × (slice_get cells i ≡ Some k))
unfolding marked
was_marked seen [] after k is mark = inl (ap (λ these. get_or these k true) (same_Some seen after is) ∙ mark)
was_marked seen (cell ∷ cells) after k is mark = by (get_or seen cell true) is (λ rest. was_marked (set seen cell true) cells after k rest mark)
  where
    Was : List Bool → List ℕ → Type 0
    Was marks these = (get_or marks k true ≡ true) ⊎ ((i : ℕ) × (slice_get these i ≡ Some k))

    at : (b : Bool) → nat_eq k cell ≡ b → get_or (set seen cell true) k true ≡ true → (get_or seen k true ≡ true) ⊎ ((i : ℕ) × (slice_get (cell ∷ cells) i ≡ Some k))
    at true same mark = inr (0, ap Some (sym (same_number k cell same)))
    at false other mark = inl (sym (get_or-set_other seen cell k true true (other_number k cell other)) ∙ mark)

    or : (get_or (set seen cell true) k true ≡ true) ⊎ ((i : ℕ) × (slice_get cells i ≡ Some k)) → (get_or seen k true ≡ true) ⊎ ((i : ℕ) × (slice_get (cell ∷ cells) i ≡ Some k))
    or (inl mark) = at (nat_eq k cell) refl mark
    or (inr there) = inr (suc there.0, there.1)

    by : (b : Bool) → cond b None (marked (set seen cell true) cells) ≡ Some after
        → (marked (set seen cell true) cells ≡ Some after → (get_or (set seen cell true) k true ≡ true) ⊎ ((i : ℕ) × (slice_get cells i ≡ Some k)))
        → (get_or seen k true ≡ true) ⊎ ((i : ℕ) × (slice_get (cell ∷ cells) i ≡ Some k))
    by true is later = absurd (let none : None ≡ Some after = is in cc)
    by false is later = or (later is)

-- a mark stays
stays : (seen : List Bool) (cells : List ℕ) (after : List Bool) (k : ℕ) → marked seen cells ≡ Some after → get_or seen k true ≡ true → get_or after k true ≡ true
unfolding marked
stays seen [] after k is mark = ap (λ these. get_or these k true) (sym (same_Some seen after is)) ∙ mark
stays seen (cell ∷ cells) after k is mark = by (get_or seen cell true) refl is (stays (set seen cell true) cells after k)
  where
    still : (b : Bool) → nat_eq k cell ≡ b → get_or seen cell true ≡ false → get_or (set seen cell true) k true ≡ true
    still true same had = ap (λ n. get_or (set seen cell true) n true) (same_number k cell same) ∙ get_or-set_same seen cell true true (within seen cell had)
    still false other had = get_or-set_other seen cell k true true (other_number k cell other) ∙ mark

    by : (b : Bool) → get_or seen cell true ≡ b → cond b None (marked (set seen cell true) cells) ≡ Some after
        → (marked (set seen cell true) cells ≡ Some after → get_or (set seen cell true) k true ≡ true → get_or after k true ≡ true) → get_or after k true ≡ true
    by true had is later = absurd (let none : None ≡ Some after = is in cc)
    by false had is later = later is (still (nat_eq k cell) refl had)

-- and each cell that was marked has its mark
pub is_marked : (seen : List Bool) (cells : List ℕ) (after : List Bool) (i k : ℕ) → marked seen cells ≡ Some after → slice_get cells i ≡ Some k → get_or after k true ≡ true
unfolding marked
is_marked seen [] after i k is at = absurd cc
is_marked seen (cell ∷ cells) after i k is at = by (get_or seen cell true) refl is (λ j. is_marked (set seen cell true) cells after j k) i at
  where
    by : (b : Bool) → get_or seen cell true ≡ b → cond b None (marked (set seen cell true) cells) ≡ Some after
        → ((j : ℕ) → marked (set seen cell true) cells ≡ Some after → slice_get cells j ≡ Some k → get_or after k true ≡ true)
        → (i : ℕ) → slice_get (cell ∷ cells) i ≡ Some k → get_or after k true ≡ true
    by true had is later i at = absurd (let none : None ≡ Some after = is in cc)
    by false had is later zero at =
        let here : get_or (set seen cell true) k true ≡ true = ap (λ n. get_or (set seen cell true) n true) (sym (same_Some cell k at)) ∙ get_or-set_same seen cell true true (within seen cell had) in
        stays (set seen cell true) cells after k is here
    by false had is later (suc i) at = later i is at

-- ---- cells marked where none is

-- each of so many cells comes once, and nothing else does
pub record AreOnce (count : ℕ) (cells : List ℕ) : Type 0 where
  pub within : (i k : ℕ) → slice_get cells i ≡ Some k → k < count
  pub apart : (i j k : ℕ) → slice_get cells i ≡ Some k → slice_get cells j ≡ Some k → i ≡ j
  pub there : (k : ℕ) → k < count → (i : ℕ) × (slice_get cells i ≡ Some k)

none_yet : (count k : ℕ) → k < count → get_or (replicate count false) k true ≡ false
none_yet count k below = get_or-replicate count k false true below

long : (count : ℕ) → length (replicate count false) ≡ count
long zero = refl
long (suc count) = omega (arith, long count)

pub all_marked : (seen : List Bool) → IsTrue (list_all (λ mark. mark) seen) → (k : ℕ) → get_or seen k true ≡ true
all_marked [] all k = refl
all_marked (true ∷ seen) all zero = refl
all_marked (true ∷ seen) all (suc k) = all_marked seen all k
all_marked (false ∷ seen) all k = absurd (false≢true all)

pub marked_all : (seen : List Bool) → ((k : ℕ) → k < length seen → get_or seen k true ≡ true) → IsTrue (list_all (λ mark. mark) seen)
marked_all [] each = refl
marked_all (true ∷ seen) each = marked_all seen (λ k below. each (suc k) (omega (arith, below)))
marked_all (false ∷ seen) each = absurd (false≢true (each 0 (omega arith)))

-- all are marked, and no cell is left, exactly where each comes once
pub once_marked : (count : ℕ) (cells : List ℕ) (seen : List Bool) → marked (replicate count false) cells ≡ Some seen → IsTrue (list_all (λ mark. mark) seen) → AreOnce count cells
once_marked count cells seen is all = record {
  within = λ i k at. omega (arith, within (replicate count false) k (new.unmarked i k at), long count);
  apart = new.apart;
  there = λ k below. by k below (was_marked (replicate count false) cells seen k is (all_marked seen all k));
}
  where
    new : AreNew (replicate count false) cells
    new = marked_new (replicate count false) cells seen is

    by : (k : ℕ) → k < count → (get_or (replicate count false) k true ≡ true) ⊎ ((i : ℕ) × (slice_get cells i ≡ Some k)) → (i : ℕ) × (slice_get cells i ≡ Some k)
    by k below (inl had) = absurd (false≢true (sym (none_yet count k below) ∙ had))
    by k below (inr there) = there

pub new_of_once : (count : ℕ) (cells : List ℕ) → AreOnce count cells → AreNew (replicate count false) cells
new_of_once count cells once = record { unmarked = λ i k at. none_yet count k (once.within i k at); apart = once.apart }

pub all_of_once : (count : ℕ) (cells : List ℕ) (seen : List Bool) → AreOnce count cells → marked (replicate count false) cells ≡ Some seen → IsTrue (list_all (λ mark. mark) seen)
all_of_once count cells seen once is =
    marked_all seen (λ k below.
    let there = once.there k (omega (arith, below, length-marked (replicate count false) cells seen is, long count)) in
    is_marked (replicate count false) cells seen there.0 k is there.1)

-- ---- cells of which none comes twice

apart_at : (cells : List ℕ) → IsDistinct nat_eq cells → (i j k : ℕ) → slice_get cells i ≡ Some k → slice_get cells j ≡ Some k → i < j → ⊥
apart_at cells distinct i j k at there before =
    let differ = apart_from_distinct nat_eq cells i j 0 distinct before (slice_get_within cells j k there) in
    let one : get_or cells i 0 ≡ get_or cells j 0 = get_or_from_slice_get cells i k 0 at ∙ sym (get_or_from_slice_get cells j k 0 there) in
    other_number (get_or cells i 0) (get_or cells j 0) differ one

no_order : (i j : ℕ) → (i < j → ⊥) → (j < i → ⊥) → i ≡ j
no_order i j before behind = by (nat_lt i j) refl (nat_lt j i) refl
  where
    less : (a b : ℕ) → nat_lt a b ≡ true → a < b
    less a b is = grind (arith, nat_tests)

    same : (a b : ℕ) → nat_lt a b ≡ false → nat_lt b a ≡ false → a ≡ b
    same a b first second = grind (arith, nat_tests)

    by : (b : Bool) → nat_lt i j ≡ b → (c : Bool) → nat_lt j i ≡ c → i ≡ j
    by true is c other = absurd (before (less i j is))
    by false is true other = absurd (behind (less j i other))
    by false is false other = same i j is other

pub new_of_distinct : (count : ℕ) (cells : List ℕ) → ((i k : ℕ) → slice_get cells i ≡ Some k → k < count) → IsDistinct nat_eq cells → AreNew (replicate count false) cells
new_of_distinct count cells below distinct = record {
  unmarked = λ i k at. none_yet count k (below i k at);
  apart = λ i j k at there. no_order i j (apart_at cells distinct i j k at there) (apart_at cells distinct j i k there at);
}

pub distinct_of_new : (seen : List Bool) (cells : List ℕ) → AreNew seen cells → IsDistinct nat_eq cells
distinct_of_new seen cells new =
    IsDistinct-from_apart nat_eq cells (λ i j d before below. by i j d before below (nat_eq (get_or cells i d) (get_or cells j d)) refl)
  where
    by : (i j d : ℕ) → i < j → j < length cells → (b : Bool) → nat_eq (get_or cells i d) (get_or cells j d) ≡ b → nat_eq (get_or cells i d) (get_or cells j d) ≡ false
    by i j d before below true same =
        let first = slice_get-get_or cells i d (omega (arith, before, below)) in
        let second = slice_get-get_or cells j d below in
        let number = same_number (get_or cells i d) (get_or cells j d) same in
        let one : i ≡ j = new.apart i j (get_or cells j d) (first ∙ ap Some number) second in
        absurd (omega (arith, one, before))
    by i j d before below false other = other

-- ---- one more

pub none_marked : (seen : List Bool) → marked seen [] ≡ Some seen
unfolding marked
none_marked seen = refl

pub has_place : (seen : List Bool) (cell : ℕ) → get_or seen cell true ≡ false → cell < length seen
has_place = within

pub marked_one : (seen : List Bool) (cell : ℕ) → get_or seen cell true ≡ false → marked seen (cell ∷ []) ≡ Some (set seen cell true)
unfolding marked
marked_one seen cell is = ap (λ b. cond b None (Some (set seen cell true))) is

pub had_mark : (seen : List Bool) (cell : ℕ) → get_or seen cell true ≡ true → marked seen (cell ∷ []) ≡ None
unfolding marked
had_mark seen cell is = ap (λ b. cond b None (Some (set seen cell true))) is

-- a marking that goes on, and one that stops
pub goes : (new : Bool) (now : List Bool) (wanted : Option (List Bool)) → Marks new now wanted → new ≡ true → wanted ≡ Some now
goes true now wanted is new = sym is
goes false now wanted is new = absurd (false≢true new)

pub stops : (new : Bool) (now : List Bool) (wanted : Option (List Bool)) → Marks new now wanted → new ≡ false → wanted ≡ None
stops true now wanted is new = absurd (false≢true (sym new))
stops false now wanted is new = sym is

-- of lists that end in what is marked last
pub go_on : (seen held now : List Bool) (first cells next : List ℕ) (new : Bool) → marked seen first ≡ Some held → next ≡ first ++ cells → Marks new now (marked held cells) → new ≡ true
    → marked seen next ≡ Some now
go_on seen held now first cells next new is one_more marks is_new = ap (marked seen) one_more ∙ after_front seen held first cells is ∙ goes new now (marked held cells) marks is_new

pub stop_here : (seen held now : List Bool) (first cells next : List ℕ) (new : Bool) → marked seen first ≡ Some held → next ≡ first ++ cells → Marks new now (marked held cells) → new ≡ false
    → marked seen next ≡ None
stop_here seen held now first cells next new is one_more marks is_new = ap (marked seen) one_more ∙ after_front seen held first cells is ∙ stops new now (marked held cells) marks is_new

pub line_more : (lines : List CellShown) (k : ℕ) (d : CellShown) → k < length lines → cells_in (take (k + 1) lines) ≡ cells_in (take k lines) ++ (get_or lines k d).cell.0 ∷ []
line_more lines k d below = ap cells_in (take_more lines k d below) ∙ cells_after (take k lines) (get_or lines k d ∷ [])

pub row_more : (rows : List ShownRow) (k : ℕ) (row : ShownRow) → k < length rows → row ≡ get_or rows k row
    → cells_in_rows (take (k + 1) rows) ≡ cells_in_rows (take k rows) ++ cells_in row.cells
row_more rows k row below there = ap cells_in_rows (take_more rows k row below ∙ ap (λ (r : ShownRow). take k rows ++ r ∷ []) (sym there)) ∙ row_after (take k rows) row

numbers_after : (first cells : List CellId) → map (λ (cell : CellId). cell.0) (first ++ cells) ≡ map (λ (cell : CellId). cell.0) first ++ map (λ (cell : CellId). cell.0) cells
numbers_after [] cells = refl
numbers_after (cell ∷ first) cells = ap (λ numbers. cell.0 ∷ numbers) (numbers_after first cells)

pub cell_more : (cells : List CellId) (k : ℕ) (d : CellId) → k < length cells
    → map (λ (cell : CellId). cell.0) (take (k + 1) cells) ≡ map (λ (cell : CellId). cell.0) (take k cells) ++ (get_or cells k d).0 ∷ []
cell_more cells k d below = ap (map (λ (cell : CellId). cell.0)) (take_more cells k d below) ∙ numbers_after (take k cells) (get_or cells k d ∷ [])

pub cells_none : (seen : List Bool) (cells : List CellId) (k : ℕ) → marked seen (map (λ (cell : CellId). cell.0) (take k cells)) ≡ None → marked seen (map (λ (cell : CellId). cell.0) cells) ≡ None
cells_none seen cells k none =
    ap (λ these. marked seen (map (λ (cell : CellId). cell.0) these)) (sym (take-append-drop k cells))
    ∙ ap (marked seen) (numbers_after (take k cells) (drop k cells))
    ∙ front_none seen (map (λ (cell : CellId). cell.0) (take k cells)) (map (λ (cell : CellId). cell.0) (drop k cells)) none

-- ---- what a marking shows

-- all are marked, and each cell has its mark, exactly where each comes once
pub shows_once : (count : ℕ) (cells : List ℕ) (seen : List Bool) (new : Bool) → Marks new seen (marked (replicate count false) cells)
    → IsTrue (new && list_all (λ mark. mark) seen) ↔ AreOnce count cells
shows_once count cells seen true marks =
    (λ all. once_marked count cells seen (sym marks) all, λ once. all_of_once count cells seen once (sym marks))
shows_once count cells seen false marks = (
  λ no. absurd (false≢true no),
  λ once.
      let all = new_marked (replicate count false) cells (new_of_once count cells once) in
      absurd (let none : None ≡ Some all.0 = marks ∙ all.1 in cc),
)

-- no cell comes twice where all are marked
pub shows_apart : (count : ℕ) (cells : List ℕ) (seen : List Bool) → marked (replicate count false) cells ≡ Some seen → IsDistinct nat_eq cells
shows_apart count cells seen is = distinct_of_new (replicate count false) cells (marked_new (replicate count false) cells seen is)

pub not_apart : (count : ℕ) (cells : List ℕ) → ((i k : ℕ) → slice_get cells i ≡ Some k → k < count) → marked (replicate count false) cells ≡ None → IsDistinct nat_eq cells → ⊥
not_apart count cells below none distinct =
    let all = new_marked (replicate count false) cells (new_of_distinct count cells below distinct) in
    let some : None ≡ Some all.0 = sym none ∙ all.1 in cc

pub numbers_within : (count : ℕ) (cells : List CellId) → All (λ cell. cell.0 < count) cells → (i k : ℕ) → slice_get (map (λ (cell : CellId). cell.0) cells) i ≡ Some k → k < count
numbers_within count cells each i k at = by (slice_get cells i) refl (sym (slice_get-map (λ (cell : CellId). cell.0) cells i) ∙ at)
  where
    by : (o : Option CellId) → slice_get cells i ≡ o → option_map (λ (cell : CellId). cell.0) o ≡ Some k → k < count
    by None there is = absurd (let none : None ≡ Some k = is in cc)
    by (Some cell) there is =
        let inside = each i cell (slice_get_within cells i cell there) in
        omega (arith, ap (λ (c : CellId). c.0) (get_or_from_slice_get cells i cell cell there), same_Some cell.0 k is, inside)
