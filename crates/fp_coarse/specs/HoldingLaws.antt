-- What the lanes of a pick hold: each cell once, on its own die, with room on each segment.
use Rattle.std.specs.Prelude.{◌≡◌, ℕ, ◌+◌, ◌<◌, ◌≤◌, Bool, true, false, nat_eq, if◌then◌else◌, List, [], ◌∷◌, ◌++◌, length, map, filter, All, get_or, Option, Some, None, slice_get, Result, Ok, Err, IsTrue, ◌⊎◌, pos, ◌-ℤ◌, ◌≤ℤ◌}
use Rattle.std.specs.Option.{option_and_then}
use Rattle.std.specs.List.{sum_by}
use Rattle.std.proofs.Common.{refl, sym, ap, subst, ◌∙◌, arith, cond, inl, inr}
use Rattle.std.proofs.lemmas.Bool.{cases_eq, cases_lt, eq-eqb}
use Rattle.std.proofs.lemmas.Bool.Decides.{nat_tests}
use Rattle.std.proofs.lemmas.Int.{ints}
use Rattle.std.proofs.lemmas.List.{length-map, get_or-map, map-append, append_assoc, append-nil}
use Rattle.std.proofs.lemmas.List.Elements.{All-head, All-tail, All-push}
use Rattle.std.proofs.lemmas.List.FromFn.{length-map-range_with_len, get_or-map-range_with_len}
use Rattle.std.proofs.lemmas.List.Sums.{sum_by_push, sum_by-cons}
use Rattle.std.proofs.lemmas.Option.{slice_get_within, slice_get-get_or, slice_get_past, get_or_from_slice_get}
use Rattle.fp_base.specs.declared.ids.CellId.{CellId}
use Rattle.fp_base.specs.declared.ids.Die.{Die}
use Rattle.fp_base.specs.declared.ids.Die.TheVariants.{Top, Bottom}
use Rattle.fp_base.specs.declared.ids.Point.{Point}
use Rattle.fp_tech.specs.Plan.{segments}
use Rattle.fp_netlist.specs.Netlist.{Netlist, IsSound}
use Rattle.fp_netlist.specs.Points.{width}
use Rattle.fp_place.specs.Places.{die_at, same_die}
use Rattle.fp_place.specs.Placed.{lanes_on, entry_at}
use Rattle.fp_score.specs.FirstFit.{segment_at}
use Rattle.fp_score.specs.Pick.{Taken, Lined, after_both, picked, sorted_by, taken_width, is_open, reach_cost, point_at, nearest_open, or_no_row, taken_by, cells_on, widest_first, pick_on, in_order, lanes_by}
use Rattle.fp_coarse.specs.Nearest.{AreSegments, IsLeastOrNone}
use Rattle.fp_coarse.specs.Picking.{HoldAll, lane_width}
use Rattle.fp_coarse.specs.CountingLaws.{same, same_other, count, counts_at, stands_in, one_place, range_most, range_holds, range_passes, segment_of, counts_all, sum_most, counts_there, counts_once}
use Rattle.fp_coarse.specs.FirstsLaws.{least_is}
use Rattle.fp_coarse.specs.SegmentsLaws.{rows_are}
use Rattle.fp_coarse.specs.SortingLaws.{sort_sum, sum_by-map, sum_by-filter}

-- what took segments: each one of the die, with room for all on it
pub record AreSound (p : Netlist) (die : Die) (taken : List Taken) : Type 0 where
  pub within : All (λ (t : Taken). t.segment < length (segments p.plan die)) taken
  pub fits : (segment : ℕ) → segment < length (segments p.plan die) → pos (taken_width p die segment taken) ≤ℤ (segment_at p.plan die segment).length

sound_none : (p : Netlist) (die : Die) → AreSegments (segments p.plan die) → AreSound p die []
unfolding taken_width
sound_none p die are = record {
  within = λ i d below. absurd (omega (arith, below));
  fits = λ segment below. let some = (are.each segment below).some in omega (arith, ints, some);
}

sound_more : (p : Netlist) (die : Die) (taken : List Taken) (cell segment : ℕ) → AreSound p die taken → segment < length (segments p.plan die)
    → IsTrue (is_open p die taken cell segment) → AreSound p die (taken ++ record { cell = cell; segment = segment } ∷ [])
unfolding taken_width
sound_more p die taken cell segment sound below open_is = record {
  within = All-push (λ (t : Taken). t.segment < length (segments p.plan die)) taken (record { cell = cell; segment = segment }) sound.within below;
  fits = λ number inside. by number inside (cases_eq segment number);
}
  where
    holds : pos (taken_width p die segment taken + width p cell die) ≤ℤ (segment_at p.plan die segment).length
    holds = grind (arith, ints)

    more : (number : ℕ) → taken_width p die number (taken ++ record { cell = cell; segment = segment } ∷ []) ≡ taken_width p die number taken + (if nat_eq segment number then width p cell die else 0)
    more number = sum_by_push (λ (t : Taken). if nat_eq t.segment number then width p t.cell die else 0) taken (record { cell = cell; segment = segment })

    by : (number : ℕ) → number < length (segments p.plan die) → ((segment ≡ number) ⊎ (segment ≡ number → ⊥))
        → pos (taken_width p die number (taken ++ record { cell = cell; segment = segment } ∷ [])) ≤ℤ (segment_at p.plan die number).length
    by number inside (inl e) =
        let added : (if nat_eq segment number then width p cell die else 0) ≡ width p cell die = ap (λ (b : Bool). if b then width p cell die else 0) (eq-eqb segment number e) in
        let room : pos (taken_width p die number taken + width p cell die) ≤ℤ (segment_at p.plan die number).length =
        subst (λ n. pos (taken_width p die n taken + width p cell die) ≤ℤ (segment_at p.plan die n).length) e holds in
        omega (arith, ints, room, more number, added)
    by number inside (inr apart) =
        let test : nat_eq segment number ≡ false = grind (arith, nat_tests) in
        let added : (if nat_eq segment number then width p cell die else 0) ≡ 0 = ap (λ (b : Bool). if b then width p cell die else 0) test in
        omega (arith, ints, sound.fits number inside, more number, added)

-- what these cells took, after some
record AreFrom (p : Netlist) (die : Die) (before : List Taken) (cells : List ℕ) (taken : List Taken) : Type 0 where
  sound : AreSound p die taken
  cells_are : map (λ (t : Taken). t.cell) taken ≡ map (λ (t : Taken). t.cell) before ++ cells

abbrev gave : List Taken → Result (List Taken) ℕ
gave taken = Ok taken

abbrev stuck : ℕ → Result (List Taken) ℕ
stuck cell = Err cell

all_sound : (p : Netlist) (targets : List Point) (die : Die) (cells : List ℕ) (before taken : List Taken) → AreSound p die before
    → taken_by p die targets before cells ≡ Ok taken → AreFrom p die before cells taken
unfolding taken_by nearest_open
all_sound p targets die [] before taken sound e =
    let these : before ≡ taken = (let given : gave before ≡ gave taken = e in cc) in
    record { sound = subst (AreSound p die) these sound; cells_are = ap (map (λ (t : Taken). t.cell)) (sym these) ∙ sym (append-nil (map (λ (t : Taken). t.cell) before)) }
all_sound p targets die (cell ∷ cells) before taken sound e =
    by (nearest_open p die targets before cell)
    (least_is (is_open p die before cell) (λ segment. reach_cost (segment_at p.plan die segment) (width p cell die) (point_at targets cell)) (length (segments p.plan die))) e
    (λ segment next rest. all_sound p targets die cells (before ++ record { cell = cell; segment = segment } ∷ []) taken next rest)
  where
    joined : (segment : ℕ) → AreFrom p die (before ++ record { cell = cell; segment = segment } ∷ []) cells taken → AreFrom p die before (cell ∷ cells) taken
    joined segment from = record {
      sound = from.sound;
      cells_are = from.cells_are ∙ ap (λ (l : List ℕ). l ++ cells) (map-append (λ (t : Taken). t.cell) before (record { cell = cell; segment = segment } ∷ []))
          ∙ append_assoc (map (λ (t : Taken). t.cell) before) (cell ∷ []) cells;
    }

    by : (o : Option ℕ) → IsLeastOrNone (is_open p die before cell) (λ segment. reach_cost (segment_at p.plan die segment) (width p cell die) (point_at targets cell)) 0 (length (segments p.plan die)) o
        → or_no_row cell o (λ segment. taken_by p die targets (before ++ record { cell = cell; segment = segment } ∷ []) cells) ≡ Ok taken
        → ((segment : ℕ) → AreSound p die (before ++ record { cell = cell; segment = segment } ∷ [])
        → taken_by p die targets (before ++ record { cell = cell; segment = segment } ∷ []) cells ≡ Ok taken
        → AreFrom p die (before ++ record { cell = cell; segment = segment } ∷ []) cells taken)
        → AreFrom p die before (cell ∷ cells) taken
    by None is e rest = absurd (let nothing : stuck cell ≡ gave taken = e in cc)
    by (Some segment) is e rest = joined segment (rest segment (sound_more p die before cell segment sound is.below is.passing) e)

-- what the cells of a die took
pub record TakenOn (p : Netlist) (dies : List Die) (die : Die) (taken : List Taken) : Type 0 where
  pub sound : AreSound p die taken
  pub cells_are : map (λ (t : Taken). t.cell) taken ≡ widest_first p dies die

pub taken_on : (p : Netlist) (dies : List Die) (targets : List Point) (die : Die) (taken : List Taken) → AreSegments (segments p.plan die)
    → pick_on p dies targets die ≡ Ok taken → TakenOn p dies die taken
taken_on p dies targets die taken are e =
    let from = all_sound p targets die (widest_first p dies die) [] taken (sound_none p die are) e in
    record { sound = from.sound; cells_are = from.cells_are }

-- a lane's cells are those that took its segment
in_order_sum : (targets : List Point) (taken : List Taken) (segment : ℕ) (f : ℕ → ℕ)
    → sum_by f (in_order targets taken segment) ≡ sum_by (λ (t : Taken). cond (nat_eq t.segment segment) (f t.cell) 0) taken
unfolding in_order
in_order_sum targets taken segment f =
    let cells : List ℕ = map (λ (t : Taken). t.cell) (filter (λ (t : Taken). nat_eq t.segment segment) taken) in
    sort_sum (λ cell. (point_at targets cell).x) f (sorted_by (λ cell. pos cell) cells) ∙ sort_sum (λ cell. pos cell) f cells
    ∙ sum_by-map f (λ (t : Taken). t.cell) (filter (λ (t : Taken). nat_eq t.segment segment) taken)
    ∙ sum_by-filter (λ (t : Taken). f t.cell) (λ (t : Taken). nat_eq t.segment segment) taken

count_all : (p : Netlist) (dies : List Die) (die : Die) (taken : List Taken) (cell : ℕ) → TakenOn p dies die taken
    → sum_by (counts_all cell) taken ≡ count cell (cells_on p dies die)
count_all p dies die taken cell is =
    sym (sum_by-map (same cell) (λ (t : Taken). t.cell) taken) ∙ ap (count cell) is.cells_are
    ∙ sort_sum (λ c. pos 0 -ℤ pos (width p c die)) (same cell) (cells_on p dies die)

-- a lane's entry
abbrev id_of : ℕ → CellId
id_of cell = record { 0 = cell }

record IsEntry (p : Netlist) (targets : List Point) (die : Die) (taken : List Taken) (segment rank : ℕ) (cell : CellId) : Type 0 where
  within : segment < length (segments p.plan die)
  inside : rank < length (in_order targets taken segment)
  is : get_or (in_order targets taken segment) rank 0 ≡ cell.0

lane_at : (p : Netlist) (targets : List Point) (die : Die) (taken : List Taken) (segment : ℕ) → segment < length (segments p.plan die)
    → get_or (lanes_by p die targets taken) segment [] ≡ map id_of (in_order targets taken segment)
unfolding lanes_by
lane_at p targets die taken segment below =
    get_or-map-range_with_len (λ segment. map id_of (in_order targets taken segment)) 0 (length (segments p.plan die)) segment segment [] below (omega arith)

pub lanes_long : (p : Netlist) (targets : List Point) (die : Die) (taken : List Taken) → length (lanes_by p die targets taken) ≡ length (segments p.plan die)
unfolding lanes_by
lanes_long p targets die taken = length-map-range_with_len (λ segment. map id_of (in_order targets taken segment)) 0 (length (segments p.plan die))

entry_there : (p : Netlist) (targets : List Point) (die : Die) (taken : List Taken) (segment rank : ℕ) → segment < length (segments p.plan die)
    → entry_at (lanes_by p die targets taken) segment rank ≡ slice_get (map id_of (in_order targets taken segment)) rank
unfolding entry_at
entry_there p targets die taken segment rank below =
    ap (option_and_then (λ (lane : List CellId). slice_get lane rank))
    (slice_get-get_or (lanes_by p die targets taken) segment [] (omega (arith, below, lanes_long p targets die taken)) ∙ ap Some (lane_at p targets die taken segment below))

entry_past : (p : Netlist) (targets : List Point) (die : Die) (taken : List Taken) (segment rank : ℕ) → length (segments p.plan die) ≤ segment
    → entry_at (lanes_by p die targets taken) segment rank ≡ None
unfolding entry_at
entry_past p targets die taken segment rank past =
    ap (option_and_then (λ (lane : List CellId). slice_get lane rank)) (slice_get_past (lanes_by p die targets taken) segment (omega (arith, past, lanes_long p targets die taken)))

abbrev found : CellId → Option CellId
found cell = Some cell

abbrev nothing_there : Option CellId
nothing_there = None

is_entry : (p : Netlist) (targets : List Point) (die : Die) (taken : List Taken) (segment rank : ℕ) (cell : CellId)
    → entry_at (lanes_by p die targets taken) segment rank ≡ Some cell → IsEntry p targets die taken segment rank cell
is_entry p targets die taken segment rank cell e = by (cases_lt segment (length (segments p.plan die)))
  where
    read : segment < length (segments p.plan die) → slice_get (map id_of (in_order targets taken segment)) rank ≡ Some cell
    read below = sym (entry_there p targets die taken segment rank below) ∙ e

    inside : segment < length (segments p.plan die) → rank < length (in_order targets taken segment)
    inside below = omega (arith, slice_get_within (map id_of (in_order targets taken segment)) rank cell (read below), length-map (in_order targets taken segment) id_of)

    by : (segment < length (segments p.plan die)) ⊎ (length (segments p.plan die) ≤ segment) → IsEntry p targets die taken segment rank cell
    by (inl below) = record {
      within = below;
      inside = inside below;
      is = ap (λ (c : CellId). c.0) (sym (get_or-map id_of (in_order targets taken segment) rank 0 (id_of 0) (inside below))
          ∙ get_or_from_slice_get (map id_of (in_order targets taken segment)) rank cell (id_of 0) (read below));
    }
    by (inr past) = absurd (let none : nothing_there ≡ found cell = sym (entry_past p targets die taken segment rank past) ∙ e in cc)

has_entry : (p : Netlist) (targets : List Point) (die : Die) (taken : List Taken) (segment rank cell : ℕ) → segment < length (segments p.plan die)
    → rank < length (in_order targets taken segment) → get_or (in_order targets taken segment) rank 0 ≡ cell
    → entry_at (lanes_by p die targets taken) segment rank ≡ Some (record { 0 = cell })
has_entry p targets die taken segment rank cell below inside is =
    entry_there p targets die taken segment rank below
    ∙ slice_get-get_or (map id_of (in_order targets taken segment)) rank (id_of 0) (omega (arith, inside, length-map (in_order targets taken segment) id_of))
    ∙ ap Some (get_or-map id_of (in_order targets taken segment) rank 0 (id_of 0) inside ∙ ap id_of is)

-- what an entry says of its cell
record Stands (p : Netlist) (dies : List Die) (targets : List Point) (die : Die) (taken : List Taken) (segment rank : ℕ) (cell : CellId) : Type 0 where
  die_is : die_at dies cell.0 ≡ die
  cell_in : cell.0 < length p.cells
  segment_is : segment_of taken cell.0 ≡ segment
  few : count cell.0 (in_order targets taken segment) ≤ 1
  entry : IsEntry p targets die taken segment rank cell

is_same : (a b : Die) → same_die a b ≡ true → a ≡ b
is_same Top Top e = refl
is_same Top Bottom e = absurd (let no_more : false ≡ true = e in cc)
is_same Bottom Top e = absurd (let no_more : false ≡ true = e in cc)
is_same Bottom Bottom e = refl

same_itself : (a : Die) → same_die a a ≡ true
same_itself Top = refl
same_itself Bottom = refl

stands : (p : Netlist) (dies : List Die) (targets : List Point) (die : Die) (taken : List Taken) (segment rank : ℕ) (cell : CellId) → TakenOn p dies die taken
    → entry_at (lanes_by p die targets taken) segment rank ≡ Some cell → Stands p dies targets die taken segment rank cell
stands p dies targets die taken segment rank cell is e =
    let entry = is_entry p targets die taken segment rank cell e in
    let on = in_order_sum targets taken segment (same cell.0) in
    let all = count_all p dies die taken cell.0 is in
    let here = counts_at cell.0 (in_order targets taken segment) rank entry.inside entry.is in
    let most = sum_most segment cell.0 taken in
    let once = range_most cell.0 0 (length p.cells) (λ c. same_die (die_at dies c) die) in
    let passes = range_passes cell.0 0 (length p.cells) (λ c. same_die (die_at dies c) die) (omega (arith, here, on, most, all)) in
    record {
      die_is = is_same (die_at dies cell.0) die passes.passes;
      cell_in = omega (arith, passes.below);
      segment_is = counts_once segment cell.0 taken (omega (arith, all, once)) (omega (arith, here, on));
      few = omega (arith, on, most, all, once);
      entry = entry;
    }

segment_within : (bound cell : ℕ) (taken : List Taken) → All (λ (t : Taken). t.segment < bound) taken → 1 ≤ sum_by (counts_all cell) taken → segment_of taken cell < bound
unfolding segment_of
segment_within bound cell [] all some = absurd (omega (arith, some))
segment_within bound cell (t ∷ taken) all some = by (cases_eq t.cell cell) (segment_within bound cell taken (All-tail (λ (t : Taken). t.segment < bound) t taken all))
  where
    head : t.segment < bound
    head = All-head (λ (t : Taken). t.segment < bound) t taken all

    by : (t.cell ≡ cell) ⊎ (t.cell ≡ cell → ⊥) → (1 ≤ sum_by (counts_all cell) taken → segment_of taken cell < bound) → cond (nat_eq t.cell cell) t.segment (segment_of taken cell) < bound
    by (inl here) rest = subst (λ b. cond b t.segment (segment_of taken cell) < bound) (sym (eq-eqb t.cell cell here)) head
    by (inr apart) rest =
        subst (λ b. cond b t.segment (segment_of taken cell) < bound) (sym (let test : nat_eq t.cell cell ≡ false = grind (arith, nat_tests) in test))
        (rest (omega (arith, some, sum_by-cons (counts_all cell) t taken, same_other cell t.cell apart)))

-- each cell of a die has an entry
record HasEntry (p : Netlist) (targets : List Point) (die : Die) (taken : List Taken) (cell : ℕ) : Type 0 where
  segment : ℕ
  rank : ℕ
  there : entry_at (lanes_by p die targets taken) segment rank ≡ Some (record { 0 = cell })

has : (p : Netlist) (dies : List Die) (targets : List Point) (die : Die) (taken : List Taken) (cell : ℕ) → TakenOn p dies die taken → cell < length p.cells
    → die_at dies cell ≡ die → HasEntry p targets die taken cell
has p dies targets die taken cell is below on =
    let passes : same_die (die_at dies cell) die ≡ true = ap (λ d. same_die d die) on ∙ same_itself die in
    let some = range_holds cell 0 (length p.cells) (λ c. same_die (die_at dies c) die) passes (omega arith) (omega (arith, below)) in
    let all = count_all p dies die taken cell is in
    let there = counts_there cell taken (omega (arith, some, all)) in
    let found = stands_in cell (in_order targets taken (segment_of taken cell)) (omega (arith, there, in_order_sum targets taken (segment_of taken cell) (same cell))) in
    record {
      segment = segment_of taken cell;
      rank = found.rank;
      there = has_entry p targets die taken (segment_of taken cell) found.rank cell
          (segment_within (length (segments p.plan die)) cell taken is.sound.within (omega (arith, some, all))) found.within found.is;
    }

-- a segment has room for its lane
lane_fits : (p : Netlist) (dies : List Die) (targets : List Point) (die : Die) (taken : List Taken) (segment : ℕ) → TakenOn p dies die taken → segment < length (segments p.plan die)
    → pos (lane_width p die (get_or (lanes_by p die targets taken) segment [])) ≤ℤ (segment_at p.plan die segment).length
unfolding taken_width
lane_fits p dies targets die taken segment is below =
    let wide = ap (lane_width p die) (lane_at p targets die taken segment below)
    ∙ sum_by-map (λ (cell : CellId). width p cell.0 die) id_of (in_order targets taken segment)
    ∙ in_order_sum targets taken segment (λ cell. width p cell die) in
    omega (arith, ints, is.sound.fits segment below, wide)

-- both dies
abbrev both : List Taken → List Taken → Die → List Taken
both top bottom Top = top
both top bottom Bottom = bottom

pub hold_all : (p : Netlist) (dies : List Die) (targets : List Point) (top bottom : List Taken) → TakenOn p dies Top top → TakenOn p dies Bottom bottom
    → HoldAll p dies (lanes_by p Top targets top) (lanes_by p Bottom targets bottom)
hold_all p dies targets top bottom on_top on_bottom = record {
  once = record {
    there = λ cell below. there cell below (die_at dies cell) refl;
    within = λ die segment rank cell e. (at die segment rank cell e).cell_in;
    one_die = one_die;
    one_segment = λ a b i j r s cell one two. one_segment a b i j r s cell (one_die a b i j r s cell one two) one two;
    one_rank = λ a b i j r s cell one two.
        one_rank a b i j r s cell (one_die a b i j r s cell one two) (one_segment a b i j r s cell (one_die a b i j r s cell one two) one two) (at a i r cell one) (at b j s cell two);
  };
  lanes = long;
  own_die = λ die segment rank cell e. (at die segment rank cell e).die_is;
  fits = fits;
}
  where
    at : (die : Die) (segment rank : ℕ) (cell : CellId) → entry_at (lanes_on (lanes_by p Top targets top) (lanes_by p Bottom targets bottom) die) segment rank ≡ Some cell
        → Stands p dies targets die (both top bottom die) segment rank cell
    at Top segment rank cell e = stands p dies targets Top top segment rank cell on_top e
    at Bottom segment rank cell e = stands p dies targets Bottom bottom segment rank cell on_bottom e

    there : (cell : ℕ) → cell < length p.cells → (die : Die) → die_at dies cell ≡ die
        → (d : Die) × (segment : ℕ) × (rank : ℕ) × (entry_at (lanes_on (lanes_by p Top targets top) (lanes_by p Bottom targets bottom) d) segment rank ≡ Some (record { 0 = cell }))
    there cell below Top on = let h = has p dies targets Top top cell on_top below on in (Top, h.segment, h.rank, h.there)
    there cell below Bottom on = let h = has p dies targets Bottom bottom cell on_bottom below on in (Bottom, h.segment, h.rank, h.there)

    one_die : (a b : Die) (i j r s : ℕ) (cell : CellId) → entry_at (lanes_on (lanes_by p Top targets top) (lanes_by p Bottom targets bottom) a) i r ≡ Some cell
        → entry_at (lanes_on (lanes_by p Top targets top) (lanes_by p Bottom targets bottom) b) j s ≡ Some cell → a ≡ b
    one_die a b i j r s cell one two = sym (at a i r cell one).die_is ∙ (at b j s cell two).die_is

    one_segment : (a b : Die) (i j r s : ℕ) (cell : CellId) → a ≡ b → entry_at (lanes_on (lanes_by p Top targets top) (lanes_by p Bottom targets bottom) a) i r ≡ Some cell
        → entry_at (lanes_on (lanes_by p Top targets top) (lanes_by p Bottom targets bottom) b) j s ≡ Some cell → i ≡ j
    one_segment a b i j r s cell e one two =
        sym (at a i r cell one).segment_is ∙ ap (λ d. segment_of (both top bottom d) cell.0) e ∙ (at b j s cell two).segment_is

    one_rank : (a b : Die) (i j r s : ℕ) (cell : CellId) → a ≡ b → i ≡ j → Stands p dies targets a (both top bottom a) i r cell → Stands p dies targets b (both top bottom b) j s cell → r ≡ s
    one_rank a b i j r s cell dies_same segments_same one two =
        let same_lane : in_order targets (both top bottom b) j ≡ in_order targets (both top bottom a) i =
        ap (λ d. in_order targets (both top bottom d) j) (sym dies_same) ∙ ap (in_order targets (both top bottom a)) (sym segments_same) in
        one_place cell.0 (in_order targets (both top bottom a) i) r s one.few one.entry.inside
        (omega (arith, two.entry.inside, ap length same_lane)) one.entry.is (sym (ap (λ (l : List ℕ). get_or l s 0) same_lane) ∙ two.entry.is)

    long : (die : Die) → length (lanes_on (lanes_by p Top targets top) (lanes_by p Bottom targets bottom) die) ≡ length (segments p.plan die)
    long Top = lanes_long p targets Top top
    long Bottom = lanes_long p targets Bottom bottom

    fits : (die : Die) (segment : ℕ) → segment < length (segments p.plan die)
        → pos (lane_width p die (get_or (lanes_on (lanes_by p Top targets top) (lanes_by p Bottom targets bottom) die) segment [])) ≤ℤ (segment_at p.plan die segment).length
    fits Top segment below = lane_fits p dies targets Top top segment on_top below
    fits Bottom segment below = lane_fits p dies targets Bottom bottom segment on_bottom below

-- a cell that finds no segment is one of those that are taken
pub stuck_within : (p : Netlist) (targets : List Point) (die : Die) (cells : List ℕ) (bound : ℕ) (before : List Taken) (cell : ℕ) → All (λ c. c < bound) cells
    → taken_by p die targets before cells ≡ Err cell → cell < bound
unfolding taken_by
stuck_within p targets die [] bound before cell all e = absurd (let nothing : gave before ≡ stuck cell = e in cc)
stuck_within p targets die (first ∷ cells) bound before cell all e =
    by (nearest_open p die targets before first) e (λ segment. stuck_within p targets die cells bound (before ++ record { cell = first; segment = segment } ∷ []) cell (All-tail (λ c. c < bound) first cells all))
  where
    by : (o : Option ℕ) → or_no_row first o (λ segment. taken_by p die targets (before ++ record { cell = first; segment = segment } ∷ []) cells) ≡ Err cell
        → ((segment : ℕ) → taken_by p die targets (before ++ record { cell = first; segment = segment } ∷ []) cells ≡ Err cell → cell < bound) → cell < bound
    by None e rest =
        let same : first ≡ cell = (let given : stuck first ≡ stuck cell = e in cc) in
        omega (arith, All-head (λ c. c < bound) first cells all, same)
    by (Some segment) e rest = rest segment e

-- ---- the lanes that a pick gives

both_hold : (p : Netlist) (dies : List Die) (targets : List Point) (top bottom : Result (List Taken) ℕ) (lined : Lined) → IsSound p → pick_on p dies targets Top ≡ top
    → pick_on p dies targets Bottom ≡ bottom → after_both p targets top bottom ≡ Ok lined → HoldAll p dies lined.top lined.bottom
both_hold p dies targets (Err cell) bottom lined sound on_top on_bottom e = absurd cc
both_hold p dies targets (Ok top) (Err cell) lined sound on_top on_bottom e = absurd cc
both_hold p dies targets (Ok top) (Ok bottom) lined sound on_top on_bottom e =
    let same : ◌≡◌ {A = Lined} (record { top = lanes_by p Top targets top; bottom = lanes_by p Bottom targets bottom }) lined = cc in
    subst (λ (l : Lined). HoldAll p dies l.top l.bottom) same
    (hold_all p dies targets top bottom (taken_on p dies targets Top top (rows_are p.plan sound.plan Top) on_top) (taken_on p dies targets Bottom bottom (rows_are p.plan sound.plan Bottom) on_bottom))

-- they hold each cell once, on its own die, with room on each segment
pub picked_holds : (p : Netlist) (dies : List Die) (targets : List Point) (lined : Lined) → IsSound p → picked p dies targets ≡ Ok lined → HoldAll p dies lined.top lined.bottom
unfolding picked
picked_holds p dies targets lined sound e = both_hold p dies targets (pick_on p dies targets Top) (pick_on p dies targets Bottom) lined sound refl refl e
