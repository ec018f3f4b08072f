-- How many cells lanes list in which each cell stands once, how many nets are cut, and how many cells can be listed that are distinct.
use Rattle.std.specs.Prelude.{◌≡◌, ◌⊎◌, ℕ, zero, suc, ◌+◌, ◌<◌, ◌≤◌, Bool, true, false, nat_eq, ◌||◌, List, [], ◌∷◌, ◌++◌, length, map, All, slice_get, Some}
use Rattle.std.specs.List.{range_with_len, list_any, IsDistinct}
use Rattle.std.proofs.Common.{refl, ap, ◌∙◌, arith, inl, inr}
use Rattle.std.proofs.lemmas.Bool.{cases_lt}
use Rattle.std.proofs.lemmas.Bool.Decides.{nat_tests}
use Rattle.std.proofs.lemmas.List.{length-append, length-map}
use Rattle.std.proofs.lemmas.List.Elements.{All-head, All-tail, All-map}
use Rattle.std.proofs.lemmas.List.FromFn.{length-range_with_len}
use Rattle.std.proofs.lemmas.List.Sums.{sum_by-cons, length-filter, count_by-le-length}
use Rattle.std.proofs.lemmas.Map.Steps.{length-le_from_distinct_below}
use Rattle.fp_base.specs.declared.ids.CellId.{CellId}
use Rattle.fp_base.specs.declared.ids.Die.{Die}
use Rattle.fp_base.specs.declared.ids.Die.TheVariants.{Top, Bottom}
use Rattle.fp_netlist.specs.Netlist.{Netlist}
use Rattle.fp_place.specs.Cut.{is_cut}
use Rattle.fp_place.specs.Placed.{LaneList, lanes_on, entry_at, StandOnce}
use Rattle.fp_cert.specs.declared.shown.CellShown.{CellShown}
use Rattle.fp_cert.specs.OfProblem.{cells_in}
use Rattle.fp_cert.specs.RowsLaws.{counted, times, times_all, one_more, in_range}
use Rattle.fp_cert.specs.Shown.{ShownRow}
use Rattle.fp_cert.specs.Standing.{lane_shown}
use Rattle.fp_cert.specs.Trials.{cut_nets}

-- ---- numbers that each stand once, below a bound

equal : (a b : ℕ) → nat_eq a b ≡ true → a ≡ b
equal a b is = grind (arith, nat_tests)

itself : (a : ℕ) → nat_eq a a ≡ true
itself a = grind (arith, nat_tests)

none : (count : ℕ) → (1 ≤ count → ⊥) → count ≡ 0
none zero never = refl
none (suc count) never = absurd (never (omega arith))

times_append : (number : ℕ) (xs ys : List ℕ) → times number (xs ++ ys) ≡ times number xs + times number ys
times_append number [] ys = omega arith
times_append number (x ∷ xs) ys = omega (arith, times_append number xs ys)

each_counts : (numbers : List ℕ) (count : ℕ) → ((number : ℕ) → 1 ≤ times number numbers → number < count) → length numbers ≤ times_all (range_with_len 0 count) numbers
each_counts [] count below = omega arith
each_counts (x ∷ xs) count below =
    let here = ap counted (itself x) in
    let first : x < count = below x (omega (arith, here)) in
    omega (arith, one_more x (range_with_len 0 count) xs, in_range 0 count x (omega arith) (omega (arith, first)), each_counts xs count (λ number some. below number (omega (arith, some))))

most_counts : (numbers xs : List ℕ) → ((number : ℕ) → times number xs ≤ 1) → times_all numbers xs ≤ length numbers
most_counts [] xs once = omega arith
most_counts (number ∷ numbers) xs once = omega (arith, once number, most_counts numbers xs once)

-- numbers below a bound that each stand once are at most as many as the bound says
few_once : (numbers : List ℕ) (count : ℕ) → ((number : ℕ) → times number numbers ≤ 1) → ((number : ℕ) → 1 ≤ times number numbers → number < count) → length numbers ≤ count
few_once numbers count once below =
    omega (arith, each_counts numbers count below, most_counts (range_with_len 0 count) numbers once, length-range_with_len 0 count)

-- ---- the cells of lanes

abbrev numbers_of : List CellId → List ℕ
numbers_of lane = map (λ (cell : CellId). cell.0) lane

-- the cells of lanes, one lane after the other
abbrev listed : LaneList → List ℕ
listed [] = []
listed (lane ∷ lanes) = numbers_of lane ++ listed lanes

-- a number that counts is that of an entry
in_lane : (number : ℕ) (lane : List CellId) → 1 ≤ times number (numbers_of lane) → (rank : ℕ) × (slice_get lane rank ≡ Some (record { 0 = number }))
in_lane number [] some = absurd (omega (arith, some))
in_lane number (cell ∷ lane) some = by (nat_eq cell.0 number) refl some (in_lane number lane)
  where
    by : (b : Bool) → nat_eq cell.0 number ≡ b → 1 ≤ (counted b + times number (numbers_of lane))
        → (1 ≤ times number (numbers_of lane) → (rank : ℕ) × (slice_get lane rank ≡ Some (record { 0 = number })))
        → (rank : ℕ) × (slice_get (cell ∷ lane) rank ≡ Some (record { 0 = number }))
    by true same some rest = (0, ap (λ k. Some (record { 0 = k })) (equal cell.0 number same))
    by false other some rest = let found = rest (omega (arith, some)) in (suc found.0, found.1)

lane_once : (number : ℕ) (lane : List CellId) → ((r s : ℕ) → slice_get lane r ≡ Some (record { 0 = number }) → slice_get lane s ≡ Some (record { 0 = number }) → r ≡ s)
    → times number (numbers_of lane) ≤ 1
lane_once number [] once = omega arith
lane_once number (cell ∷ lane) once = by (nat_eq cell.0 number) refl (lane_once number lane (λ r s one other. let same = once (suc r) (suc s) one other in omega (arith, same)))
  where
    by : (b : Bool) → nat_eq cell.0 number ≡ b → times number (numbers_of lane) ≤ 1 → (counted b + times number (numbers_of lane)) ≤ 1
    by true same rest =
        let later = none (times number (numbers_of lane)) (λ some.
        let found = in_lane number lane some in
        let rank = once 0 (suc found.0) (ap (λ k. Some (record { 0 = k })) (equal cell.0 number same)) found.1 in
        omega (arith, rank)) in
        omega (arith, later)
    by false other rest = omega (arith, rest)

in_lanes : (number : ℕ) (lanes : LaneList) → 1 ≤ times number (listed lanes) → (segment : ℕ) × (rank : ℕ) × (entry_at lanes segment rank ≡ Some (record { 0 = number }))
unfolding entry_at
in_lanes number [] some = absurd (omega (arith, some))
in_lanes number (lane ∷ lanes) some = by (cases_lt 0 (times number (numbers_of lane))) (in_lanes number lanes)
  where
    by : (0 < times number (numbers_of lane)) ⊎ (times number (numbers_of lane) ≤ 0)
        → (1 ≤ times number (listed lanes) → (segment : ℕ) × (rank : ℕ) × (entry_at lanes segment rank ≡ Some (record { 0 = number })))
        → (segment : ℕ) × (rank : ℕ) × (entry_at (lane ∷ lanes) segment rank ≡ Some (record { 0 = number }))
    by (inl here) rest = let found = in_lane number lane (omega (arith, here)) in (0, found.0, found.1)
    by (inr not) rest = let found = rest (omega (arith, some, not, times_append number (numbers_of lane) (listed lanes))) in (suc found.0, found.1, found.2)

-- a number names one entry at most
abbrev IsOnceIn : ℕ → LaneList → Type 0
IsOnceIn number lanes = (i j r s : ℕ) → entry_at lanes i r ≡ Some (record { 0 = number }) → entry_at lanes j s ≡ Some (record { 0 = number }) → (i ≡ j) × (r ≡ s)

lanes_once : (number : ℕ) (lanes : LaneList) → IsOnceIn number lanes → times number (listed lanes) ≤ 1
unfolding entry_at
lanes_once number [] once = omega arith
lanes_once number (lane ∷ lanes) once =
    by (cases_lt 0 (times number (numbers_of lane))) (lane_once number lane (λ r s one other. (once 0 0 r s one other).1))
    (lanes_once number lanes (λ i j r s one other. let same = once (suc i) (suc j) r s one other in (omega (arith, same.0), same.1)))
  where
    by : (0 < times number (numbers_of lane)) ⊎ (times number (numbers_of lane) ≤ 0) → times number (numbers_of lane) ≤ 1 → times number (listed lanes) ≤ 1
        → times number (numbers_of lane ++ listed lanes) ≤ 1
    by (inl here) first rest =
        let found = in_lane number lane (omega (arith, here)) in
        let later = none (times number (listed lanes)) (λ some.
        let other = in_lanes number lanes some in
        let same = (once 0 (suc other.0) found.0 other.1 found.1 other.2).0 in
        omega (arith, same)) in
        omega (arith, first, later, times_append number (numbers_of lane) (listed lanes))
    by (inr not) first rest = omega (arith, rest, not, times_append number (numbers_of lane) (listed lanes))

-- ---- the lanes of both dies

once_on : (cells : ℕ) (top bottom : LaneList) → StandOnce cells top bottom → (die : Die) (number : ℕ) → IsOnceIn number (lanes_on top bottom die)
once_on cells top bottom once die number = λ i j r s one other.
    (once.one_segment die die i j r s (record { 0 = number }) one other, once.one_rank die die i j r s (record { 0 = number }) one other)

both_once : (cells : ℕ) (top bottom : LaneList) → StandOnce cells top bottom → (number : ℕ) → times number (listed top ++ listed bottom) ≤ 1
both_once cells top bottom once number = by (cases_lt 0 (times number (listed top)))
  where
    by : (0 < times number (listed top)) ⊎ (times number (listed top) ≤ 0) → times number (listed top ++ listed bottom) ≤ 1
    by (inl here) =
        let found = in_lanes number top (omega (arith, here)) in
        let later = none (times number (listed bottom)) (λ some.
        let other = in_lanes number bottom some in
        let same : Top ≡ Bottom = once.one_die Top Bottom found.0 other.0 found.1 other.1 (record { 0 = number }) found.2 other.2 in
        absurd cc) in
        omega (arith, lanes_once number top (once_on cells top bottom once Top number), later, times_append number (listed top) (listed bottom))
    by (inr not) = omega (arith, lanes_once number bottom (once_on cells top bottom once Bottom number), not, times_append number (listed top) (listed bottom))

both_within : (cells : ℕ) (top bottom : LaneList) → StandOnce cells top bottom → (number : ℕ) → 1 ≤ times number (listed top ++ listed bottom) → number < cells
both_within cells top bottom once number some = by (cases_lt 0 (times number (listed top)))
  where
    by : (0 < times number (listed top)) ⊎ (times number (listed top) ≤ 0) → number < cells
    by (inl here) =
        let found = in_lanes number top (omega (arith, here)) in
        once.within Top found.0 found.1 (record { 0 = number }) found.2
    by (inr not) =
        let found = in_lanes number bottom (omega (arith, some, not, times_append number (listed top) (listed bottom))) in
        once.within Bottom found.0 found.1 (record { 0 = number }) found.2

length-listed : (rows : List ShownRow) → length (listed (map lane_shown rows)) ≡ cells_in rows
length-listed [] = refl
length-listed (row ∷ rows) =
    let first : length (numbers_of (lane_shown row)) ≡ length row.cells =
    length-map (lane_shown row) (λ (cell : CellId). cell.0) ∙ length-map row.cells (λ (cell : CellShown). cell.cell) in
    let both = length-append (numbers_of (lane_shown row)) (listed (map lane_shown rows)) in
    let sum = sum_by-cons (λ (r : ShownRow). length r.cells) row rows in
    omega (arith, first, both, sum, length-listed rows)

-- Rows in which each cell is listed once list at most as many cells as there are.
pub few_cells_in : (cells : ℕ) (top bottom : List ShownRow) → StandOnce cells (map lane_shown top) (map lane_shown bottom) → cells_in top + cells_in bottom ≤ cells
few_cells_in cells top bottom once =
    let few = few_once (listed (map lane_shown top) ++ listed (map lane_shown bottom)) cells (both_once cells (map lane_shown top) (map lane_shown bottom) once)
    (both_within cells (map lane_shown top) (map lane_shown bottom) once) in
    let both = length-append (listed (map lane_shown top)) (listed (map lane_shown bottom)) in
    omega (arith, few, both, length-listed top, length-listed bottom)

-- ---- cut nets, and distinct cells

-- no more nets are cut than there are
pub few_cut : (p : Netlist) (dies : List Die) → length (cut_nets p dies) ≤ length p.nets
few_cut p dies =
    omega (arith, length-filter (is_cut p dies) (range_with_len 0 (length p.nets)), count_by-le-length (is_cut p dies) (range_with_len 0 (length p.nets)), length-range_with_len 0 (length p.nets))

below_all : (numbers : List ℕ) (count number : ℕ) → All (λ n. n < count) numbers → list_any (nat_eq number) numbers ≡ true → number < count
below_all [] count number all is = absurd (let no : false ≡ true = is in cc)
below_all (first ∷ rest) count number all is =
    by (nat_eq number first) refl is (below_all rest count number (All-tail (λ n. n < count) first rest all))
  where
    by : (b : Bool) → nat_eq number first ≡ b → (b || list_any (nat_eq number) rest) ≡ true → (list_any (nat_eq number) rest ≡ true → number < count) → number < count
    by true same is behind = omega (arith, equal number first same, All-head (λ n. n < count) first rest all)
    by false other is behind = behind is

-- cells of a problem, each listed once, are at most as many as it has
pub few_distinct : (cells : List CellId) (count : ℕ) → IsDistinct nat_eq (map (λ cell. cell.0) cells) → All (λ (cell : CellId). cell.0 < count) cells → length cells ≤ count
few_distinct cells count distinct within =
    omega (
      arith,
      length-le_from_distinct_below (numbers_of cells) count distinct (λ number is. below_all (numbers_of cells) count number (All-map (λ n. n < count) (λ (cell : CellId). cell.0) cells within) is),
      length-map cells (λ (cell : CellId). cell.0),
    )
