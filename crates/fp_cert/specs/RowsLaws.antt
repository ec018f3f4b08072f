-- Laws of a trial's rows: a lane whose cells have room on its segment is a row that can be placed best, and a row that is placed is in order.
use Rattle.std.specs.Prelude.{◌≡◌, ◌≢◌, ℕ, zero, suc, ◌+◌, ◌<◌, ◌≤◌, ◌^◌, max, Bool, true, false, nat_eq, ◌==◌, if◌then◌else◌, List, [], ◌∷◌, length, map, get_or, slice_get, Some, ℤ, pos, neg_ℤ, ◌+ℤ◌, ◌≤ℤ◌}
use Rattle.std.specs.List.{sum_by, range_with_len}
use Rattle.std.proofs.Common.{refl, sym, ap, subst, ◌∙◌, arith}
use Rattle.std.proofs.lemmas.Bool.Decides.{nat_tests}
use Rattle.std.proofs.lemmas.Int.{ints}
use Rattle.std.proofs.lemmas.List.{length-map, get_or-map}
use Rattle.std.proofs.lemmas.List.Elements.{All-map}
use Rattle.std.proofs.lemmas.Option.{slice_get-get_or}
use Rattle.std.proofs.lemmas.List.FromFn.{length-range_with_len}
use Rattle.std.proofs.lemmas.List.Sums.{sum_by-cons}
use Rattle.fp_base.specs.declared.ids.CellId.{CellId}
use Rattle.fp_base.specs.declared.ids.Die.{Die}
use Rattle.fp_base.specs.declared.ids.Point.{Point}
use Rattle.fp_tech.specs.declared.dies.Segment.{Segment}
use Rattle.fp_tech.specs.Plan.{segments}
use Rattle.fp_netlist.specs.declared.problem.Conn.{Conn}
use Rattle.fp_netlist.specs.Netlist.{Netlist, ids_where, conns_of_cell, IsSound}
use Rattle.fp_netlist.specs.NetlistLaws.{lib_within}
use Rattle.fp_netlist.specs.Points.{width}
use Rattle.fp_place.specs.Places.{Place, place_at}
use Rattle.fp_place.specs.Placed.{LaneList, lanes_on, entry_at, StandOnce, StandBetween}
use Rattle.fp_place.specs.PlacedLaws.{LiesInRange, entry_on, segment_in_range}
use Rattle.fp_rows.specs.declared.RowCell.{RowCell}
use Rattle.fp_rows.specs.Squares.{Feasible, IsCell, IsRow, total_width, total_weight}
use Rattle.fp_score.specs.Pick.{point_at}
use Rattle.fp_cert.specs.declared.shown.CellShown.{CellShown}
use Rattle.fp_cert.specs.Trials.{weight, row_cell}

-- ---- how often numbers stand in a list

abbrev pub counted : Bool → ℕ
counted true = 1
counted false = 0

-- how often a number stands in a list
abbrev pub times : ℕ → List ℕ → ℕ
times number [] = 0
times number (x ∷ xs) = counted (nat_eq x number) + times number xs

-- how often the numbers of a list stand in another, in all
abbrev pub times_all : List ℕ → List ℕ → ℕ
times_all [] xs = 0
times_all (number ∷ numbers) xs = times number xs + times_all numbers xs

-- no two numbers of a list are one
AreApart : List ℕ → Type 0
AreApart numbers = (i j : ℕ) → i < j → j < length numbers → get_or numbers i 0 ≢ get_or numbers j 0

no_times : (numbers : List ℕ) → times_all numbers [] ≡ 0
no_times [] = refl
no_times (number ∷ numbers) = omega (arith, no_times numbers)

pub one_more : (x : ℕ) (numbers xs : List ℕ) → times_all numbers (x ∷ xs) ≡ times x numbers + times_all numbers xs
one_more x [] xs = refl
one_more x (number ∷ numbers) xs =
    let rest = one_more x numbers xs in
    let same = ap counted (either_way x number) in
    omega (arith, rest, same)
  where
    either_way : (a b : ℕ) → nat_eq a b ≡ nat_eq b a
    either_way a b = grind (arith, nat_tests)

times_none : (x : ℕ) (numbers : List ℕ) → ((k : ℕ) → k < length numbers → x ≢ get_or numbers k 0) → times x numbers ≡ 0
times_none x [] other = refl
times_none x (number ∷ numbers) other =
    let first : nat_eq number x ≡ false = unlike number x (λ same. other 0 (omega arith) (sym same)) in
    let rest = times_none x numbers (λ k below. other (suc k) (omega (arith, below))) in
    omega (arith, ap counted first, rest)
  where
    unlike : (a b : ℕ) → a ≢ b → nat_eq a b ≡ false
    unlike a b other = grind (arith, nat_tests)

times_once : (x : ℕ) (numbers : List ℕ) → AreApart numbers → times x numbers ≤ 1
unfolding AreApart
times_once x [] apart = omega arith
times_once x (number ∷ numbers) apart = by (nat_eq number x) refl (times_once x numbers (λ i j before below. apart (suc i) (suc j) (omega (arith, before)) (omega (arith, below))))
  where
    equal : (a b : ℕ) → nat_eq a b ≡ true → a ≡ b
    equal a b is = grind (arith, nat_tests)

    by : (b : Bool) → nat_eq number x ≡ b → times x numbers ≤ 1 → (counted b + times x numbers) ≤ 1
    by true same rest =
        let here : number ≡ x = equal number x same in
        let none = times_none x numbers (λ k below it. apart 0 (suc k) (omega arith) (omega (arith, below)) (here ∙ it)) in
        omega (arith, none)
    by false other rest = omega (arith, rest)

-- distinct numbers stand at most so often in a list as it is long
times_fit : (numbers xs : List ℕ) → AreApart numbers → times_all numbers xs ≤ length xs
times_fit numbers [] apart = omega (arith, no_times numbers)
times_fit numbers (x ∷ xs) apart = omega (arith, one_more x numbers xs, times_once x numbers apart, times_fit numbers xs apart)

-- a number of a range stands in it
pub in_range : (from count number : ℕ) → from ≤ number → number < from + count → 1 ≤ times number (range_with_len from count)
in_range from zero number low high = absurd (omega (arith, low, high))
in_range from (suc count) number low high = by (nat_eq from number) refl (λ above. in_range (from + 1) count number above (omega (arith, high)))
  where
    above : (a b : ℕ) → nat_eq a b ≡ false → a ≤ b → a + 1 ≤ b
    above a b is low = grind (arith, nat_tests)

    by : (b : Bool) → nat_eq from number ≡ b → (from + 1 ≤ number → 1 ≤ times number (range_with_len (from + 1) count))
        → 1 ≤ (counted b + times number (range_with_len (from + 1) count))
    by true same rest = omega arith
    by false other rest = omega (arith, rest (above from number other low))

-- so there are no more distinct numbers below a bound than the bound says
long_enough : (numbers : List ℕ) (count : ℕ) → ((k : ℕ) → k < length numbers → get_or numbers k 0 < count) → length numbers ≤ times_all numbers (range_with_len 0 count)
long_enough [] count below = omega arith
long_enough (number ∷ numbers) count below =
    omega (arith, in_range 0 count number (omega arith) (omega (arith, below 0 (omega arith))), long_enough numbers count (λ k within. below (suc k) (omega (arith, within))))

few_apart : (numbers : List ℕ) (count : ℕ) → AreApart numbers → ((k : ℕ) → k < length numbers → get_or numbers k 0 < count) → length numbers ≤ count
few_apart numbers count apart below =
    omega (arith, long_enough numbers count below, times_fit numbers (range_with_len 0 count) apart, length-range_with_len 0 count)

-- ---- the weights of a lane's cells

cells_of_conns : Netlist → List ℕ
cells_of_conns p = map (λ (conn : Conn). conn.cell.0) p.conns

conn_times : (cell i : ℕ) (conns : List Conn) → length (ids_where (λ (conn : Conn). conn.cell.0 == cell) i conns) ≡ times cell (map (λ (conn : Conn). conn.cell.0) conns)
unfolding ids_where
conn_times cell i [] = refl
conn_times cell i (conn ∷ conns) = by (conn.cell.0 == cell) (conn_times cell (i + 1) conns)
  where
    by : (b : Bool) → length (ids_where (λ (conn : Conn). conn.cell.0 == cell) (i + 1) conns) ≡ times cell (map (λ (conn : Conn). conn.cell.0) conns)
        → length (if b then i ∷ ids_where (λ (conn : Conn). conn.cell.0 == cell) (i + 1) conns else ids_where (λ (conn : Conn). conn.cell.0 == cell) (i + 1) conns)
        ≡ counted b + times cell (map (λ (conn : Conn). conn.cell.0) conns)
    by true rest = omega (arith, rest)
    by false rest = omega (arith, rest)

weights : Netlist → List ℕ → ℕ
weights p [] = 0
weights p (cell ∷ cells) = weight p cell + weights p cells

weights_fit : (p : Netlist) (cells : List ℕ) → weights p cells ≤ length cells + times_all cells (cells_of_conns p)
unfolding weights cells_of_conns conns_of_cell
weights_fit p [] = omega arith
weights_fit p (cell ∷ cells) =
    let one : max 1 (length (conns_of_cell p cell)) ≤ 1 + length (conns_of_cell p cell) = omega arith in
    omega (arith, one, conn_times cell 0 p.conns, weights_fit p cells)

-- distinct cells of a problem weigh at most as much as it has cells and connections
weights_small : (p : Netlist) (cells : List ℕ) → IsSound p → AreApart cells → ((k : ℕ) → k < length cells → get_or cells k 0 < length p.cells) → weights p cells ≤ 2 ^ 22
unfolding cells_of_conns
weights_small p cells is apart within =
    omega (
      arith,
      weights_fit p cells,
      few_apart cells (length p.cells) apart within,
      times_fit cells (cells_of_conns p) apart,
      length-map p.conns (λ (conn : Conn). conn.cell.0),
      is.few_cells,
      is.few_conns,
    )

-- ---- a lane as a row

-- a cell of a lane as one of a row
abbrev pub cell_for : Netlist → Die → List Point → CellId → RowCell
cell_for p die targets cell = record { width = pos (width p cell.0 die); target = (point_at targets cell.0).x; weight = pos (weight p cell.0) }

numbers_of : List CellId → List ℕ
numbers_of lane = map (λ (cell : CellId). cell.0) lane

all_weights : (p : Netlist) (die : Die) (targets : List Point) (lane : List CellId) → total_weight (map (cell_for p die targets) lane) ≡ pos (weights p (numbers_of lane))
unfolding weights numbers_of
all_weights p die targets [] = refl
all_weights p die targets (cell ∷ lane) = let rest = all_weights p die targets lane in omega (arith, ints, rest)

all_widths : (p : Netlist) (die : Die) (targets : List Point) (lane : List CellId) → total_width (map (cell_for p die targets) lane) ≡ pos (sum_by (λ (cell : CellId). width p cell.0 die) lane)
all_widths p die targets [] = refl
all_widths p die targets (cell ∷ lane) =
    let rest = all_widths p die targets lane in
    let sum = sum_by-cons (λ (c : CellId). width p c.0 die) cell lane in
    omega (arith, ints, rest, sum)

no_cell : CellId
no_cell = record { 0 = 0 }

-- a target's x is within 2^32 of 0
pub record IsNearX (x : ℤ) : Type 0 where
  pub low : neg_ℤ (pos (2 ^ 32)) ≤ℤ x
  pub high : x ≤ℤ pos (2 ^ 32)

-- A lane of cells that each stand once, and for which its segment has room, is a row that can be placed best, for targets in range.
pub row_is : (p : Netlist) (top bottom : LaneList) (die : Die) (number : ℕ) (segment : Segment) (lane : List CellId) (targets : List Point) → IsSound p
    → StandOnce (length p.cells) top bottom → slice_get (segments p.plan die) number ≡ Some segment → slice_get (lanes_on top bottom die) number ≡ Some lane
    → pos (sum_by (λ (cell : CellId). width p cell.0 die) lane) ≤ℤ segment.length → ((cell : ℕ) → cell < length p.cells → IsNearX (point_at targets cell).x)
    → IsRow (map (cell_for p die targets) lane) segment.start (segment.start +ℤ segment.length)
unfolding AreApart numbers_of
row_is p top bottom die number segment lane targets is once there held room near = record {
  each = record { each = All-map IsCell (cell_for p die targets) lane (λ k d below. cell_is (get_or lane k d) (within k d below)); weight = omega (arith, ints, weight_is, all_weights p die targets lane) };
  start = lies.start.least;
  ordered = omega (arith, ints, lies.some);
  finish = omega (arith, ints, lies.end.most);
  room = omega (arith, ints, room, all_widths p die targets lane);
}
  where
    lies : LiesInRange segment
    lies = segment_in_range p.plan is.plan die number segment there

    entry : (k : ℕ) (d : CellId) → k < length lane → entry_at (lanes_on top bottom die) number k ≡ Some (get_or lane k d)
    entry k d below = entry_on (lanes_on top bottom die) number k lane held ∙ slice_get-get_or lane k d below

    within : (k : ℕ) (d : CellId) → k < length lane → (get_or lane k d).0 < length p.cells
    within k d below = once.within die number k (get_or lane k d) (entry k d below)

    at : (k : ℕ) → k < length lane → get_or (numbers_of lane) k 0 ≡ (get_or lane k no_cell).0
    at k below = get_or-map (λ (cell : CellId). cell.0) lane k no_cell 0 below

    long : length (numbers_of lane) ≡ length lane
    long = length-map lane (λ (cell : CellId). cell.0)

    apart : AreApart (numbers_of lane)
    apart i j before below same =
        let first : i < length lane = omega (arith, before, below, long) in
        let second : j < length lane = omega (arith, below, long) in
        let cell : get_or lane i no_cell ≡ get_or lane j no_cell = ap (λ k. record { 0 = k }) (sym (at i first) ∙ same ∙ at j second) in
        let rank = once.one_rank die die number number i j (get_or lane j no_cell) (entry i no_cell first ∙ ap Some cell) (entry j no_cell second) in
        absurd (omega (arith, rank, before))

    weight_is : weights p (numbers_of lane) ≤ 2 ^ 22
    weight_is = weights_small p (numbers_of lane) is apart (λ k below.
        let inside : k < length lane = omega (arith, below, long) in
        omega (arith, at k inside, within k no_cell inside))

    cell_is : (cell : CellId) → cell.0 < length p.cells → IsCell (cell_for p die targets cell)
    cell_is cell below =
        let lib = lib_within p cell.0 die is below in
        let target = near cell.0 below in
        record {
          width_from = omega (arith, ints, lib.some_width);
          width_to = omega (arith, ints, lib.width);
          weight_from = omega (arith, ints);
          target_from = target.low;
          target_to = target.high;
        }

-- ---- a placed row

-- Feasible positions are a lane in order, where each cell's place has the x that its line shows.
pub feasible_in_order : (p : Netlist) (die : Die) (places : List Place) (cells : List CellShown) (from to : ℤ) → ((k : ℕ) (cell : CellShown) → slice_get cells k ≡ Some cell
    → cell.x ≡ (place_at places cell.cell.0).x) → Feasible (map (row_cell p die) cells) from to (map (λ (cell : CellShown). cell.x) cells)
    → StandBetween p die places from to (map (λ (cell : CellShown). cell.cell) cells)
feasible_in_order p die places [] from to same feasible = feasible
feasible_in_order p die places (cell ∷ cells) from to same feasible =
    let here = same 0 cell refl in (
      subst (λ x. from ≤ℤ x) here feasible.0,
      subst (λ x. StandBetween p die places (x +ℤ pos (width p cell.cell.0 die)) to (map (λ (c : CellShown). c.cell) cells)) here
          (feasible_in_order p die places cells (cell.x +ℤ pos (width p cell.cell.0 die)) to (λ k c at. same (suc k) c at) feasible.1),
    )
