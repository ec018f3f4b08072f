-- Where the cells of a drawing stand.
use Rattle.std.proofs.Common.{◌≡◌, ℕ, ◌+◌, ◌-◌, ◌<◌, ◌≤◌, Bool, true, false, List, [], ◌∷◌, ◌++◌, length, replicate, find, get_or, slice_get, Option, Some, None, ℤ, pos, ◌+ℤ◌, ◌≤ℤ◌, IsTrue, ◌↔◌, refl, sym, ap, subst, ◌∙◌, arith, ◌⊎◌, inl, inr}
use Rattle.std.specs.Option.{option_map}
use Rattle.std.specs.List.Sorted.{IsPartitionedBy, IsPartitionPoint}
use Rattle.std.proofs.lemmas.List.{get_or_default, get_or_append_left}
use Rattle.std.proofs.Math.Seq.{get_or-append_seam}
use Rattle.std.proofs.lemmas.List.FromFn.{map-range_with_len_more, length-map-range_with_len}
use Rattle.std.proofs.lemmas.Option.{same_Some, slice_get_within, slice_get-get_or, get_or_from_slice_get}
use Rattle.std.proofs.lemmas.Int.{ints}
use Rattle.std.proofs.lemmas.Bool.{cases_lt, cases_order}
use Rattle.fp_base.specs.declared.ids.Die.{Die}
use Rattle.fp_base.specs.declared.ids.Die.TheVariants.{Top, Bottom}
use Rattle.fp_base.specs.declared.ids.Point.{Point}
use Rattle.fp_tech.specs.declared.dies.Segment.{Segment}
use Rattle.fp_tech.specs.declared.dies.DieSpec.{DieSpec}
use Rattle.fp_tech.specs.Plan.{Plan, spec_of, segments, IsPlan, ComesBehind}
use Rattle.fp_netlist.specs.Netlist.{Netlist}
use Rattle.fp_netlist.specs.Points.{width}
use Rattle.fp_place.specs.declared.drawn.DrawnCell.{DrawnCell}
use Rattle.fp_place.specs.declared.seen.Seen.{Seen}
use Rattle.fp_place.specs.declared.seen.Seen.TheVariants.{Never, Once, Often}
use Rattle.fp_place.specs.Places.{Place, nowhere, place_at}
use Rattle.fp_place.specs.Drawing.{Drawing, is_cell, first_line, place_in, places_in}
use Rattle.fp_place.specs.Legal.{StandsIn, StandsOnce, StandsOnSegment, FitsItsDie}
use Rattle.fp_place.specs.declared.fault.Fault.{Fault}
use Rattle.fp_place.specs.Breaks.{EachOnce, OnSegments, Heights}
use Rattle.fp_place.specs.FirstFaults.{IsFaultOf, IsFirstFault, HoldBelow, cell_subject}
use Rattle.fp_place.proofs.FaultLemmas.{none_below, one_more, first_fault}
use Rattle.fp_place.specs.Seen.{all_noted, Tells, cell_number, corner_of}
use Rattle.fp_place.proofs.SeenLemmas.{tells_read}
use Rattle.fp_place.specs.Standing.{place_once, starts_by, ComesBefore, AreInOrder, IsLast, FindsLast, AreFound, StandsOn, FindsSegment, IsInSegment, AreInSegments, AreStanding}
use Rattle.fp_place.specs.PlacedLaws.{LiesInRange, segment_in_range}
use Rattle.fp_tech.specs.PlanLaws.{segments_rise}

-- the first line's place, by its corner
abbrev corner_on : Die → Point → Place
corner_on die at = record { die = die; x = at.x; y = at.y }

-- what both dies' lines tell of a cell
pub record IsPlaceOf (drawing : Drawing) (cell : ℕ) (found : Option Place) : Type 0 where
  pub once : (place : Place) → found ≡ Some place → StandsOnce drawing cell
  pub is : (place : Place) → found ≡ Some place → place ≡ place_in drawing cell
  pub not_once : found ≡ None → StandsOnce drawing cell → ⊥

on_top : (first second : Option DrawnCell) (at : Point) → option_map corner_of first ≡ Some at → corner_on Top at ≡ first_line first second
on_top None second at e = absurd (let nothing : None ≡ Some at = e in cc)
on_top (Some line) second at e = ap (corner_on Top) (sym (same_Some (corner_of line) at e))

on_bottom : (first second : Option DrawnCell) (at : Point) → first ≡ None → option_map corner_of second ≡ Some at → corner_on Bottom at ≡ first_line first second
on_bottom first None at none e = absurd (let nothing : None ≡ Some at = e in cc)
on_bottom first (Some line) at none e = ap (corner_on Bottom) (sym (same_Some (corner_of line) at e)) ∙ ap (λ o. first_line o (Some line)) (sym none)

pub place_found : (drawing : Drawing) (cell : ℕ) (top bottom : Seen) → Tells (is_cell cell) corner_of drawing.top top → Tells (is_cell cell) corner_of drawing.bottom bottom
    → IsPlaceOf drawing cell (place_once top bottom)
place_found drawing cell Never Never above below = record {
  once = λ place e. absurd (let nothing : None ≡ Some place = e in cc);
  is = λ place e. absurd (let nothing : None ≡ Some place = e in cc);
  not_once = λ e once. omega (arith, once, above.0, below.0);
}
place_found drawing cell (Once at) Never above below = record {
  once = λ place e. omega (arith, above.0, below.0);
  is = λ place e. sym (same_Some (corner_on Top at) place e) ∙ on_top (find (is_cell cell) drawing.top) (find (is_cell cell) drawing.bottom) at above.1;
  not_once = λ e. absurd (let nothing : Some (corner_on Top at) ≡ None = e in cc);
}
place_found drawing cell Never (Once at) above below = record {
  once = λ place e. omega (arith, above.0, below.0);
  is = λ place e. sym (same_Some (corner_on Bottom at) place e) ∙ on_bottom (find (is_cell cell) drawing.top) (find (is_cell cell) drawing.bottom) at above.1 below.1;
  not_once = λ e. absurd (let nothing : Some (corner_on Bottom at) ≡ None = e in cc);
}
place_found drawing cell (Once at) (Once other) above below = record {
  once = λ place e. absurd (let nothing : None ≡ Some place = e in cc);
  is = λ place e. absurd (let nothing : None ≡ Some place = e in cc);
  not_once = λ e once. omega (arith, once, above.0, below.0);
}
place_found drawing cell (Once at) Often above below = record {
  once = λ place e. absurd (let nothing : None ≡ Some place = e in cc);
  is = λ place e. absurd (let nothing : None ≡ Some place = e in cc);
  not_once = λ e once. omega (arith, once, above.0, below);
}
place_found drawing cell Never Often above below = record {
  once = λ place e. absurd (let nothing : None ≡ Some place = e in cc);
  is = λ place e. absurd (let nothing : None ≡ Some place = e in cc);
  not_once = λ e once. omega (arith, once, above.0, below);
}
place_found drawing cell Often bottom above below = record {
  once = λ place e. absurd (let nothing : None ≡ Some place = e in cc);
  is = λ place e. absurd (let nothing : None ≡ Some place = e in cc);
  not_once = λ e once. omega (arith, once, above);
}

-- one more place
pub places_more : (drawing : Drawing) (cell : ℕ) (place : Place) (places : List Place) → places ≡ places_in drawing cell → place ≡ place_in drawing cell
    → places ++ place ∷ [] ≡ places_in drawing (cell + 1)
places_more drawing cell place places are is =
    ap (λ ps. ps ++ place ∷ []) are ∙ ap (λ q. places_in drawing cell ++ q ∷ []) is ∙ sym (map-range_with_len_more (place_in drawing) 0 cell cell (omega arith))

-- a die's segments rise
pub segments_in_order : (plan : Plan) → IsPlan plan → (die : Die) → AreInOrder (segments plan die)
segments_in_order plan is die = record {
  rise = λ j k a b less at_j at_k. comes (spec_of plan die) a b (tall die) (segment_in_range plan is die j a at_j).some (segments_rise plan die j k a b less at_j at_k);
}
  where
    tall : (die : Die) → 1 ≤ (spec_of plan die).height
    tall Top = is.setup.top.some_height
    tall Bottom = is.setup.bottom.some_height

    comes : (spec : DieSpec) (a b : Segment) → 1 ≤ spec.height → pos 1 ≤ℤ a.length → ComesBehind spec a b → ComesBefore a b
    comes spec a b high some (inl above) = inl (omega (arith, ints, above))
    comes spec a b high some (inr right) = inr (right.0, omega (arith, ints, right.1, some), right.1)

-- those that start at a place or before it come first
pub started_first : (list : List Segment) (place : Place) → AreInOrder list → IsPartitionedBy (λ segment. starts_by segment place) list
started_first list place is i j d le below started = by (cases_lt i j)
  where
    before : (a b : Segment) → ComesBefore a b → starts_by b place ≡ true → starts_by a place ≡ true
    before a b (inl lower) e = grind (arith, ints)
    before a b (inr right) e = grind (arith, ints)

    by : (i < j) ⊎ (j ≤ i) → starts_by (get_or list i d) place ≡ true
    by (inl less) =
        before (get_or list i d) (get_or list j d)
        (is.rise i j (get_or list i d) (get_or list j d) less (slice_get-get_or list i d (omega arith)) (slice_get-get_or list j d below)) started
    by (inr more) = let same : j ≡ i = omega (arith, le, more) in subst (λ k. starts_by (get_or list k d) place ≡ true) same started

-- what a partition point tells
pub last_found : (list : List Segment) (place : Place) (count : ℕ) → count ≤ length list
    → IsPartitionPoint (λ segment. starts_by segment place ≡ true) (λ segment. starts_by segment place ≡ false) list count → 0 < count → IsLast list place (count - 1)
last_found list place count within parts some = record {
  within = omega arith;
  started = λ segment there.
      subst (λ s. starts_by s place ≡ true) (get_or_from_slice_get list (count - 1) segment segment there) (parts.0 (count - 1) segment (omega arith) (omega arith));
  last = λ later segment less there started.
      let in_list : later < length list = slice_get_within list later segment there in
      let not_yet : starts_by segment place ≡ false =
      subst (λ s. starts_by s place ≡ false) (get_or_from_slice_get list later segment segment there) (parts.1 later segment (omega arith) (omega arith)) in
      absurd (let nothing : true ≡ false = sym started ∙ not_yet in cc);
}

pub none_found : (list : List Segment) (place : Place) (count : ℕ)
    → IsPartitionPoint (λ segment. starts_by segment place ≡ true) (λ segment. starts_by segment place ≡ false) list count → count ≤ 0 → FindsLast list place None
none_found list place count parts none number segment there started =
    let in_list : number < length list = slice_get_within list number segment there in
    let not_yet : starts_by segment place ≡ false =
    subst (λ s. starts_by s place ≡ false) (get_or_from_slice_get list number segment segment there) (parts.1 number segment (omega arith) (omega arith)) in
    absurd (let nothing : true ≡ false = sym started ∙ not_yet in cc)

-- a segment on which a place stands starts at the place or before it
stands_started : (segment : Segment) (width : ℕ) (place : Place) → StandsIn segment width place → starts_by segment place ≡ true
stands_started segment width place stands = let row = stands.row in let starts = stands.starts in grind (arith, ints)

-- a segment on which a place stands is the last that starts at the place or before it
stands_last : (list : List Segment) (place : Place) (width number own : ℕ) (segment : Segment) → AreInOrder list → IsLast list place number
    → slice_get list own ≡ Some segment → StandsIn segment width place → own ≡ number
stands_last list place width number own segment is found there stands = by (cases_order own number)
  where
    started : starts_by segment place ≡ true
    started = stands_started segment width place stands

    past : (a b : Segment) → ComesBefore a b → StandsIn a width place → starts_by b place ≡ true → ⊥
    past a b (inl lower) on e = let row = on.row in grind (arith, ints)
    past a b (inr right) on e = let ends = on.ends in let row = on.row in grind (arith, ints)

    by : (own ≡ number) ⊎ ((own < number) ⊎ (number < own)) → own ≡ number
    by (inl same) = same
    by (inr (inl less)) =
        let at : slice_get list number ≡ Some (get_or list number segment) = slice_get-get_or list number segment found.within in
        absurd (past segment (get_or list number segment) (is.rise own number segment (get_or list number segment) less there at) stands (found.started (get_or list number segment) at))
    by (inr (inr more)) = absurd (found.last own segment more there started)

-- no segment starts at a place or before it
pub no_start : (plan : Plan) (place : Place) (width : ℕ) (list : List Segment) (told : Option ℕ) (found : Option ℕ) → list ≡ segments plan place.die → FindsLast list place told → told ≡ None
    → found ≡ None → FindsSegment plan place width found
no_start plan place width list told found list_is finds none found_is =
    subst (FindsSegment plan place width) (sym found_is)
    (λ number stands.
    (subst (FindsLast list place) none finds) number stands.segment (subst (λ l. slice_get l number ≡ Some stands.segment) (sym list_is) stands.there)
    (stands_started stands.segment width place stands.stands))

-- a read segment is there
read_there : (plan : Plan) (die : Die) (list : List Segment) (number : ℕ) (d : Segment) → list ≡ segments plan die → number < length list
    → slice_get (segments plan die) number ≡ Some (get_or list number d)
read_there plan die list number d list_is below = ap (λ (l : List Segment). slice_get l number) (sym list_is) ∙ slice_get-get_or list number d below

-- a read segment lies in range
pub read_in_range : (plan : Plan) (die : Die) (list : List Segment) (number : ℕ) (d : Segment) → IsPlan plan → list ≡ segments plan die → number < length list
    → LiesInRange (get_or list number d)
read_in_range plan die list number d is list_is below = segment_in_range plan is die number (get_or list number d) (read_there plan die list number d list_is below)

-- the last segment that starts at a place or before it, where the place stands on it
pub on_last : (plan : Plan) (place : Place) (width : ℕ) (list : List Segment) (number : ℕ) (d : Segment) → list ≡ segments plan place.die → number < length list
    → StandsIn (get_or list number d) width place → StandsOn plan place width number
on_last plan place width list number d list_is below stands = record {
  segment = get_or list number d;
  there = read_there plan place.die list number d list_is below;
  stands = stands;
}

-- where it does not stand on the last of those it stands on none
pub not_on_last : (plan : Plan) (place : Place) (width : ℕ) (list : List Segment) (number : ℕ) (d : Segment) → list ≡ segments plan place.die → AreInOrder list
    → IsLast list place number → (StandsIn (get_or list number d) width place → ⊥) → (own : ℕ) → StandsOn plan place width own → ⊥
not_on_last plan place width list number d list_is rises found fails own stands =
    let there : slice_get list own ≡ Some stands.segment = ap (λ (l : List Segment). slice_get l own) list_is ∙ stands.there in
    let same : own ≡ number = stands_last list place width number own stands.segment rises found there stands.stands in
    let is_read : get_or list number d ≡ stands.segment = ap (λ k. get_or list k d) (sym same) ∙ get_or_from_slice_get list own stands.segment d there in
    fails (subst (λ s. StandsIn s width place) (sym is_read) stands.stands)

-- standing on a segment, by x and by y
pub stands_iff : (segment : Segment) (wide : Die → ℕ) (view place : Place) (width : ℤ) (lies level : Bool) → view ≡ place → width ≡ pos (wide view.die)
    → (IsTrue lies ↔ (segment.start ≤ℤ view.x) × ((view.x +ℤ width) ≤ℤ (segment.start +ℤ segment.length))) → lies ≡ true → (IsTrue level ↔ view.y ≡ segment.y)
    → (IsTrue level ↔ StandsIn segment (wide place.die) place)
stands_iff segment wide view place width lies level same width_is lies_iff lies_is level_iff =
    subst (λ (q : Place). IsTrue level ↔ StandsIn segment (wide q.die) q) same
    (let within = subst (λ w. (segment.start ≤ℤ view.x) × ((view.x +ℤ w) ≤ℤ (segment.start +ℤ segment.length))) width_is (lies_iff.0 lies_is) in
    (λ h. record { row = level_iff.0 h; starts = within.0; ends = within.1 }, λ stands. level_iff.1 stands.row))

-- the cells' places, so far and all
pub place_more : (drawing : Drawing) (cell : ℕ) (top bottom : Seen) (found : Option Place) → Tells (is_cell cell) corner_of drawing.top top → Tells (is_cell cell) corner_of drawing.bottom bottom
    → found ≡ place_once top bottom → IsPlaceOf drawing cell found
place_more drawing cell top bottom found above below is = subst (IsPlaceOf drawing cell) (sym is) (place_found drawing cell top bottom above below)

-- one more cell of which something holds
pub below_next : (holds : ℕ → Type 0) (cell : ℕ) → ((before : ℕ) → before < cell → holds before) → holds cell → (before : ℕ) → before < cell + 1 → holds before
below_next holds cell below here before less = by (cases_lt before cell)
  where
    by : (before < cell) ⊎ (cell ≤ before) → holds before
    by (inl less) = below before less
    by (inr from) = subst holds (let same : cell ≡ before = omega (arith, from, less) in same) here

-- what the lines of a die tell of a cell
pub cell_told : (lines drawn : List DrawnCell) (seen : List Seen) (n cell : ℕ) (slot : Seen) → seen ≡ all_noted cell_number corner_of (replicate n Never) lines → lines ≡ drawn
    → cell < n → slot ≡ get_or seen cell slot → Tells (is_cell cell) corner_of drawn slot
cell_told lines drawn seen n cell slot are lines_are below is =
    tells_read cell_number corner_of drawn seen n cell slot (are ∙ ap (all_noted cell_number corner_of (replicate n Never)) lines_are) below is

-- a cell's place as it is read
pub place_read : (places : List Place) (cell : ℕ) (place : Place) → cell < length places → place ≡ get_or places cell place → place ≡ place_at places cell
place_read places cell place below is = is ∙ get_or_default places cell place nowhere below

pub no_segment : (p : Netlist) (places : List Place) (cell : ℕ) (place : Place) → cell < length places → place ≡ get_or places cell place
    → ((number : ℕ) → StandsOn p.plan place (width p cell place.die) number → ⊥) → StandsOnSegment p places cell → ⊥
no_segment p places cell place below is none stands =
    (subst (λ (q : Place). (number : ℕ) → StandsOn p.plan q (width p cell q.die) number → ⊥) (place_read places cell place below is) none) stands.number
    (record { segment = stands.segment; there = stands.there; stands = stands.stands })

pub in_segment : (p : Netlist) (places : List Place) (numbers : List ℕ) (cell : ℕ) → IsInSegment p places numbers cell → StandsOnSegment p places cell
in_segment p places numbers cell is = record { number = get_or numbers cell 0; segment = is.segment; there = is.there; stands = is.stands }

pub numbers_more : (p : Netlist) (places : List Place) (numbers more : List ℕ) (number cell : ℕ) (place : Place) → more ≡ numbers ++ number ∷ [] → length numbers ≡ cell → cell < length places
    → place ≡ get_or places cell place → StandsOn p.plan place (width p cell place.die) number → ((before : ℕ) → before < cell → IsInSegment p places numbers before)
    → (before : ℕ) → before < cell + 1 → IsInSegment p places more before
numbers_more p places numbers more number cell place e many below is stands all =
    below_next (IsInSegment p places more) cell
    (λ before less. subst (StandsOn p.plan (place_at places before) (width p before (place_at places before).die))
    (sym (ap (λ (rs : List ℕ). get_or rs before 0) e ∙ get_or_append_left numbers (number ∷ []) 0 before (omega (arith, less, many)))) (all before less))
    (subst (StandsOn p.plan (place_at places cell) (width p cell (place_at places cell).die))
    (sym (ap (λ (rs : List ℕ). get_or rs cell 0) e ∙ ap (get_or (numbers ++ number ∷ []) cell) refl ∙ at_end)) (subst (λ (q : Place). StandsOn p.plan q (width p cell q.die) number) (place_read places cell place below is) stands))
  where
    at_end : get_or (numbers ++ number ∷ []) cell 0 ≡ number
    at_end = ap (λ n. get_or (numbers ++ number ∷ []) n 0) (sym many) ∙ get_or-append_seam numbers number [] 0

-- the first three rules, one by one
pub first_done : (p : Netlist) (drawing : Drawing) (places : List Place) → ((cell : ℕ) → cell < length p.cells → StandsOnce drawing cell) → HoldBelow p drawing places 2
first_done p drawing places once = one_more p drawing places EachOnce 2 refl (none_below p drawing places) once

pub second_done : (p : Netlist) (drawing : Drawing) (places : List Place) (numbers : List ℕ) → ((cell : ℕ) → cell < length p.cells → StandsOnce drawing cell) → AreInSegments p places numbers
    → HoldBelow p drawing places 3
second_done p drawing places numbers once are =
    one_more p drawing places OnSegments 3 refl (first_done p drawing places once) (λ cell less. in_segment p places numbers cell (are.in_segments cell less))

pub third_done : (p : Netlist) (drawing : Drawing) (places : List Place) (numbers : List ℕ) → ((cell : ℕ) → cell < length p.cells → StandsOnce drawing cell) → AreInSegments p places numbers
    → ((cell : ℕ) → cell < length p.cells → FitsItsDie p places cell) → HoldBelow p drawing places 4
third_done p drawing places numbers once are fit = one_more p drawing places Heights 4 refl (second_done p drawing places numbers once are) fit

pub first_broken : (p : Netlist) (drawing : Drawing) (fault : Fault) → IsFaultOf (length p.cells) (StandsOnce drawing) 1 cell_subject fault
    → IsFirstFault p drawing (places_in drawing (length p.cells)) fault
first_broken p drawing fault is =
    first_fault p drawing (places_in drawing (length p.cells)) EachOnce fault (none_below p drawing (places_in drawing (length p.cells))) is

pub second_broken : (p : Netlist) (drawing : Drawing) (given places : List Place) (fault : Fault) → given ≡ places → AreFound drawing (length p.cells) places
    → IsFaultOf (length p.cells) (StandsOnSegment p given) 2 cell_subject fault → IsFirstFault p drawing (places_in drawing (length p.cells)) fault
second_broken p drawing given places fault e found is =
    subst (λ ps. IsFirstFault p drawing ps fault) (e ∙ found.places_are)
    (first_fault p drawing given OnSegments fault (first_done p drawing given found.once) is)

pub third_broken : (p : Netlist) (drawing : Drawing) (read given places : List Place) (numbers : List ℕ) (fault : Fault) → read ≡ places → given ≡ places
    → AreFound drawing (length p.cells) places → AreInSegments p read numbers
    → IsFaultOf (length p.cells) (FitsItsDie p given) 3 cell_subject fault → IsFirstFault p drawing (places_in drawing (length p.cells)) fault
third_broken p drawing read given places numbers fault r e found are is =
    subst (λ ps. IsFirstFault p drawing ps fault) (e ∙ found.places_are)
    (first_fault p drawing given Heights fault (second_done p drawing given numbers found.once (subst (λ ps. AreInSegments p ps numbers) (r ∙ sym e) are)) is)

pub all_standing : (p : Netlist) (drawing : Drawing) (read given places : List Place) (numbers : List ℕ) → read ≡ places → given ≡ places
    → AreFound drawing (length p.cells) places → AreInSegments p read numbers → ((cell : ℕ) → cell < length p.cells → FitsItsDie p given cell) → AreStanding p drawing places numbers
all_standing p drawing read given places numbers r e found are fit =
    let here : AreInSegments p places numbers = subst (λ ps. AreInSegments p ps numbers) r are in
    let fitting : ((cell : ℕ) → cell < length p.cells → FitsItsDie p places cell) = subst (λ ps. (cell : ℕ) → cell < length p.cells → FitsItsDie p ps cell) e fit in
    record {
      plan = here.plan;
      places_are = found.places_are;
      holds = third_done p drawing places numbers found.once here fitting;
      numbers_many = here.many;
      on_segments = λ cell less. record {
        segment = (here.in_segments cell less).segment;
        there = (here.in_segments cell less).there;
        stands = (here.in_segments cell less).stands;
        fitting = fitting cell less;
      };
    }

pub found_many : (p : Netlist) (drawing : Drawing) (given places : List Place) → given ≡ places → AreFound drawing (length p.cells) places → length given ≡ length p.cells
found_many p drawing given places e found =
    ap length (e ∙ found.places_are) ∙ length-map-range_with_len (place_in drawing) 0 (length p.cells)
