-- Cells that are laid on their segments in order of their targets.
use Rattle.std.specs.Prelude.{◌≡◌, ℕ, ◌<◌, Bool, true, false, nat_eq, List, [], ◌∷◌, ◌++◌, length, map, filter, All, get_or, set, replicate, ◌⊎◌, ℤ, pos}
use Rattle.std.specs.List.{sum_by}
use Rattle.std.specs.Ordering.{nat_cmp, ordering_then, is_lt}
use Rattle.std.proofs.Common.{refl, sym, ap, ◌∙◌, arith, cond, inl, inr}
use Rattle.std.proofs.lemmas.Bool.{cases_eq, eq-eqb}
use Rattle.std.proofs.lemmas.Bool.Decides.{nat_tests}
use Rattle.std.proofs.lemmas.List.{map-append, append-nil, length-set, get_or-set_same, get_or-set_other, get_or-replicate, length-replicate}
use Rattle.std.proofs.lemmas.List.Elements.{All-map, filter-append}
use Rattle.std.proofs.lemmas.List.FromFn.{fill_by_all}
use Rattle.std.proofs.lemmas.List.Sorted.{All-permutation, sum_by-IsPermutation}
use Rattle.std.proofs.lemmas.Simd.{map-map}
use Rattle.fp_base.specs.declared.ids.CellId.{CellId}
use Rattle.fp_base.specs.declared.ids.Die.{Die}
use Rattle.fp_base.specs.declared.ids.Point.{Point}
use Rattle.fp_tech.specs.Plan.{segments}
use Rattle.fp_netlist.specs.Netlist.{Netlist}
use Rattle.fp_place.specs.Placed.{LaneList}
use Rattle.fp_score.specs.Pick.{Taken, sorted_by, point_at, in_order, lanes_by}
use Rattle.fp_coarse.specs.declared.order.Choice.{Choice}
use Rattle.fp_coarse.specs.Orders.{taken_as, taken_of, entry_by, target_cmp, AreByTarget}
use Rattle.fp_coarse.specs.Picking.{IsChoice}
use Rattle.fp_coarse.specs.SortingLaws.{Goes, GoesBefore, Ranked, entries_ranked, goes_by, not_less, rising_ranked, numbers_ranked, same_ranked, sort_sum, sum_by-map, sum_by-filter}

abbrev Entry : Type 0
Entry = ℤ × ℕ × ℕ

abbrev number_of : Entry → ℕ
number_of entry = entry.1

abbrev cell_of : Entry → CellId
cell_of entry = record { 0 = entry.1 }

abbrev pub is_on : ℕ → Entry → Bool
is_on segment entry = nat_eq entry.2 segment

abbrev keyed : (ℕ → ℤ) → Entry → Type 0
keyed key entry = entry.0 ≡ key entry.1

abbrev target_x : List Point → ℕ → ℤ
target_x targets cell = (point_at targets cell).x

entry_goes : (key : ℕ → ℤ) (a b : Entry) → keyed key a → keyed key b → is_lt (target_cmp b a) ≡ false → Goes key (number_of a) (number_of b)
entry_goes key a b a_is b_is e =
    goes_by key a.0 b.0 a.1 b.1 (ordering_then (nat_cmp b.1 a.1) (nat_cmp b.2 a.2)) a_is b_is (not_less b.1 a.1 (nat_cmp b.2 a.2)) e

-- what is ranked is ranked without some
filter_before : (key : ℕ → ℤ) (a : ℕ) (test : Entry → Bool) (entries : List Entry) → GoesBefore key a (map number_of entries) → GoesBefore key a (map number_of (filter test entries))
filter_before key a test [] all = tt
filter_before key a test (entry ∷ entries) all = by (test entry) (filter_before key a test entries all.1)
  where
    by : (b : Bool) → GoesBefore key a (map number_of (filter test entries)) → GoesBefore key a (map number_of (cond b (entry ∷ filter test entries) (filter test entries)))
    by true rest = (all.0, rest)
    by false rest = rest

filter_ranked : (key : ℕ → ℤ) (test : Entry → Bool) (entries : List Entry) → Ranked key (map number_of entries) → Ranked key (map number_of (filter test entries))
filter_ranked key test [] all = tt
filter_ranked key test (entry ∷ entries) all = by (test entry) (filter_ranked key test entries all.1)
  where
    by : (b : Bool) → Ranked key (map number_of (filter test entries)) → Ranked key (map number_of (cond b (entry ∷ filter test entries) (filter test entries)))
    by true rest = (filter_before key (number_of entry) test entries all.0, rest)
    by false rest = rest

-- the cells of a segment, in order
abbrev cells_in : List Choice → ℕ → List ℕ
cells_in choices segment = map (λ (t : Taken). t.cell) (filter (λ (t : Taken). nat_eq t.segment segment) (taken_of choices))

abbrev weight : (ℕ → ℕ) → ℕ → Choice → ℕ
weight f segment choice = cond (nat_eq choice.segment segment) (f choice.cell.0) 0

sum_entries : (targets : List Point) (choices : List Choice) (entries : List Entry) (segment : ℕ) (f : ℕ → ℕ) → AreByTarget targets choices entries
    → sum_by f (map number_of (filter (is_on segment) entries)) ≡ sum_by (weight f segment) choices
sum_entries targets choices entries segment f are =
    sum_by-map f number_of (filter (is_on segment) entries)
    ∙ sum_by-filter (λ (entry : Entry). f (number_of entry)) (is_on segment) entries
    ∙ sum_by-IsPermutation (λ (entry : Entry). cond (is_on segment entry) (f (number_of entry)) 0) (map (entry_by targets) choices) entries are.moved
    ∙ sum_by-map (λ (entry : Entry). cond (is_on segment entry) (f (number_of entry)) 0) (entry_by targets) choices

sum_cells : (choices : List Choice) (segment : ℕ) (f : ℕ → ℕ) → sum_by f (cells_in choices segment) ≡ sum_by (weight f segment) choices
sum_cells choices segment f =
    sum_by-map f (λ (t : Taken). t.cell) (filter (λ (t : Taken). nat_eq t.segment segment) (taken_of choices))
    ∙ sum_by-filter (λ (t : Taken). f t.cell) (λ (t : Taken). nat_eq t.segment segment) (taken_of choices)
    ∙ sum_by-map (λ (t : Taken). cond (nat_eq t.segment segment) (f t.cell) 0) taken_as choices

lane_is : (targets : List Point) (choices : List Choice) (entries : List Entry) (segment : ℕ) → AreByTarget targets choices entries
    → map number_of (filter (is_on segment) entries) ≡ in_order targets (taken_of choices) segment
unfolding in_order
lane_is targets choices entries segment are =
    let key : ℕ → ℤ = target_x targets in
    let cells : List ℕ = cells_in choices segment in
    let rising : List ℕ = sorted_by (λ cell. pos cell) cells in
    same_ranked key (map number_of (filter (is_on segment) entries)) (sorted_by key rising)
    (filter_ranked key (is_on segment) entries (entries_ranked target_cmp number_of key (keyed key) (entry_goes key) entries
    (All-permutation (keyed key) (map (entry_by targets) choices) entries are.moved (All-map (keyed key) (entry_by targets) choices (λ i d below. refl))) are.sorted))
    (rising_ranked key rising (numbers_ranked cells))
    (λ f. sum_entries targets choices entries segment f are ∙ sym (sum_cells choices segment f) ∙ sym (sort_sum (λ cell. pos cell) f cells) ∙ sym (sort_sum key f rising))

-- lanes, as cells are pushed onto them
pub record HoldEntries (count : ℕ) (entries : List (ℤ × ℕ × ℕ)) (lanes : LaneList) : Type 0 where
  pub long : length lanes ≡ count
  pub each : (number : ℕ) → number < count → get_or lanes number [] ≡ map cell_of (filter (is_on number) entries)

pub hold_none : (count : ℕ) (lanes : LaneList) → lanes ≡ replicate count [] → HoldEntries count [] lanes
hold_none count lanes is = record {
  long = ap length is ∙ length-replicate count [];
  each = λ number below. ap (λ (l : LaneList). get_or l number []) is ∙ get_or-replicate count number [] [] below;
}

filter_one : (test : Entry → Bool) (entries : List Entry) (entry : Entry) → test entry ≡ true → filter test (entries ++ entry ∷ []) ≡ filter test entries ++ entry ∷ []
filter_one test entries entry passes = filter-append test entries (entry ∷ []) ∙ ap (λ b. filter test entries ++ cond b (entry ∷ []) []) passes

filter_none : (test : Entry → Bool) (entries : List Entry) (entry : Entry) → test entry ≡ false → filter test (entries ++ entry ∷ []) ≡ filter test entries
filter_none test entries entry fails =
    filter-append test entries (entry ∷ []) ∙ ap (λ b. filter test entries ++ cond b (entry ∷ []) []) fails ∙ append-nil (filter test entries)

apart_test : (a b : ℕ) → (a ≡ b → ⊥) → nat_eq a b ≡ false
apart_test a b apart = grind (arith, nat_tests)

pub hold_more : (count : ℕ) (entries : List (ℤ × ℕ × ℕ)) (entry : ℤ × ℕ × ℕ) (lanes new : LaneList) → HoldEntries count entries lanes → entry.2 < count
    → new ≡ set lanes entry.2 (get_or lanes entry.2 [] ++ record { 0 = entry.1 } ∷ []) → HoldEntries count (entries ++ entry ∷ []) new
hold_more count entries entry lanes new is below new_is = record {
  long = ap length new_is ∙ length-set lanes entry.2 (get_or lanes entry.2 [] ++ cell_of entry ∷ []) ∙ is.long;
  each = λ number inside. ap (λ (l : LaneList). get_or l number []) new_is ∙ by number inside (cases_eq entry.2 number);
}
  where
    by : (number : ℕ) → number < count → ((entry.2 ≡ number) ⊎ (entry.2 ≡ number → ⊥))
        → get_or (set lanes entry.2 (get_or lanes entry.2 [] ++ record { 0 = entry.1 } ∷ [])) number [] ≡ map cell_of (filter (is_on number) (entries ++ entry ∷ []))
    by number inside (inl same) =
        ap (λ n. get_or (set lanes entry.2 (get_or lanes entry.2 [] ++ cell_of entry ∷ [])) n []) (sym same)
        ∙ get_or-set_same lanes entry.2 (get_or lanes entry.2 [] ++ cell_of entry ∷ []) [] (omega (arith, below, is.long))
        ∙ ap (λ n. get_or lanes n [] ++ cell_of entry ∷ []) same
        ∙ ap (λ (l : List CellId). l ++ cell_of entry ∷ []) (is.each number inside)
        ∙ sym (map-append cell_of (filter (is_on number) entries) (entry ∷ []))
        ∙ ap (map cell_of) (sym (filter_one (is_on number) entries entry (eq-eqb entry.2 number same)))
    by number inside (inr apart) =
        get_or-set_other lanes entry.2 number (get_or lanes entry.2 [] ++ cell_of entry ∷ []) [] (λ e. apart (sym e))
        ∙ is.each number inside
        ∙ ap (map cell_of) (sym (filter_none (is_on number) entries entry (apart_test entry.2 number apart)))

pub lanes_are : (p : Netlist) (die : Die) (targets : List Point) (choices : List Choice) (entries : List (ℤ × ℕ × ℕ)) (lanes : LaneList) → AreByTarget targets choices entries
    → HoldEntries (length (segments p.plan die)) entries lanes → lanes ≡ lanes_by p die targets (taken_of choices)
unfolding lanes_by
lanes_are p die targets choices entries lanes are is =
    fill_by_all (λ segment. map (λ cell. record { 0 = cell }) (in_order targets (taken_of choices) segment)) lanes (length (segments p.plan die)) [] is.long
    (λ segment below. is.each segment below ∙ sym (map-map (λ (cell : ℕ). let id : CellId = record { 0 = cell } in id) number_of (filter (is_on segment) entries))
    ∙ ap (map (λ (cell : ℕ). let id : CellId = record { 0 = cell } in id)) (lane_is targets choices entries segment are))

-- each entry's segment is one of the die
pub entries_within : (p : Netlist) (die : Die) (targets : List Point) (choices : List Choice) (entries : List (ℤ × ℕ × ℕ)) → AreByTarget targets choices entries → All (IsChoice p die) choices
    → All (λ (entry : ℤ × ℕ × ℕ). entry.2 < length (segments p.plan die)) entries
entries_within p die targets choices entries are all =
    All-permutation (λ (entry : Entry). entry.2 < length (segments p.plan die)) (map (entry_by targets) choices) entries are.moved
    (All-map (λ (entry : Entry). entry.2 < length (segments p.plan die)) (entry_by targets) choices (λ i d below. (all i d below).segment))
