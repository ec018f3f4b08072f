-- Lanes of cells in order of x: each cell stands once, on its own segment.
use Rattle.std.specs.Prelude.{◌≡◌, ◌≢◌, ℕ, zero, suc, ◌<◌, Bool, true, false, ◌&&◌, nat_eq, List, [], ◌∷◌, length, filter, AllPairs, get_or, slice_get, Some, IsTrue, ◌≤ℤ◌, ◌⊎◌}
use Rattle.std.proofs.Common.{cond, refl, sym, ap, subst, ◌∙◌, arith, inl, inr}
use Rattle.std.specs.Option.{option_and_then}
use Rattle.std.proofs.lemmas.Bool.{and_parts, cases_order, eqb-true, eq-eqb}
use Rattle.std.proofs.lemmas.List.Elements.{All-filter, filter_passes}
use Rattle.std.proofs.lemmas.List.Kept.{AllPairs-filter}
use Rattle.std.proofs.lemmas.Option.{option_and_then_some, slice_get-get_or, slice_get_within, get_or_from_slice_get}
use Rattle.fp_base.specs.declared.ids.CellId.{CellId}
use Rattle.fp_base.specs.declared.ids.Die.{Die}
use Rattle.fp_tech.specs.Plan.{segments}
use Rattle.fp_netlist.specs.Netlist.{Netlist}
use Rattle.fp_netlist.specs.Points.{width}
use Rattle.fp_place.specs.Places.{Place, place_at, same_die}
use Rattle.fp_place.specs.Areas.{fits}
use Rattle.fp_place.specs.Legal.{StandsIn}
use Rattle.fp_place.specs.Lining.{IsOnSegment}
use Rattle.fp_place.specs.Placed.{LaneList, lanes_on, entry_at, StandOnce}
use Rattle.fp_place.specs.LaneOrder.{AreByX, AreRanked, HoldInOrder, IsOnLane, is_of}
use Rattle.fp_place.specs.PlacesLaws.{same_die-true, same_die-refl}
use Rattle.fp_place.proofs.LinFill.{lanes_long}

-- an element that passes is in the filtered list
at_filter : (test : CellId → Bool) (cells : List CellId) (cell : CellId) (k : ℕ) → k < length cells → get_or cells k cell ≡ cell → test cell ≡ true
    → (rank : ℕ) × (slice_get (filter test cells) rank ≡ Some cell)
at_filter test [] cell k below at passes = absurd (omega arith)
at_filter test (first ∷ cells) cell zero below at passes =
    (0, subst (λ b. slice_get (cond b (first ∷ filter test cells) (filter test cells)) 0 ≡ Some cell) (sym (ap test at ∙ passes)) (ap Some at))
at_filter test (first ∷ cells) cell (suc k) below at passes = by (test first) (at_filter test cells cell k (omega arith) at passes)
  where
    by : (b : Bool) → (rank : ℕ) × (slice_get (filter test cells) rank ≡ Some cell) → (rank : ℕ) × (slice_get (cond b (first ∷ filter test cells) (filter test cells)) rank ≡ Some cell)
    by true found = (suc found.0, found.1)
    by false found = found

-- an element of a list whose elements differ stands at one rank
one_place : (cells : List CellId) → AllPairs (λ (a b : CellId). a.0 ≢ b.0) cells → (cell : CellId) (r s : ℕ) → slice_get cells r ≡ Some cell → slice_get cells s ≡ Some cell → r ≡ s
one_place cells apart cell r s here there = by (cases_order r s)
  where
    first : get_or cells r cell ≡ cell
    first = get_or_from_slice_get cells r cell cell here

    second : get_or cells s cell ≡ cell
    second = get_or_from_slice_get cells s cell cell there

    by : (r ≡ s) ⊎ ((r < s) ⊎ (s < r)) → r ≡ s
    by (inl same) = same
    by (inr (inl less)) = absurd (apart r s cell less (slice_get_within cells s cell there) (ap (λ (c : CellId). c.0) (first ∙ sym second)))
    by (inr (inr less)) = absurd (apart s r cell less (slice_get_within cells r cell here) (ap (λ (c : CellId). c.0) (second ∙ sym first)))

-- an entry of lanes
pub entry_from : (lanes : LaneList) (number rank : ℕ) (lane : List CellId) (cell : CellId) → slice_get lanes number ≡ Some lane → slice_get lane rank ≡ Some cell
    → entry_at lanes number rank ≡ Some cell
unfolding entry_at
entry_from lanes number rank lane cell there at = ap (option_and_then (λ l. slice_get l rank)) there ∙ at

pub record InLane (lanes : LaneList) (number rank : ℕ) (cell : CellId) : Type 0 where
  pub lane : List CellId
  pub there : slice_get lanes number ≡ Some lane
  pub at : slice_get lane rank ≡ Some cell

pub entry_in : (lanes : LaneList) (number rank : ℕ) (cell : CellId) → entry_at lanes number rank ≡ Some cell → InLane lanes number rank cell
unfolding entry_at
entry_in lanes number rank cell e =
    option_and_then_some {P = InLane lanes number rank cell} (λ lane. slice_get lane rank) (slice_get lanes number) cell e
    (λ lane there at. record { lane = lane; there = there; at = at })

-- an entry of lanes that hold cells in order
record IsEntryOf (p : Netlist) (places : List Place) (numbers : List ℕ) (order : List CellId) (die : Die) (number rank : ℕ) (cell : CellId) : Type 0 where
  below : number < length (segments p.plan die)
  at : slice_get (filter (is_of places numbers die number) order) rank ≡ Some cell

pub lane_is : (p : Netlist) (places : List Place) (numbers : List ℕ) (order : List CellId) (top bottom : LaneList) → HoldInOrder p places numbers order top bottom
    → (die : Die) (number : ℕ) (lane : List CellId) → slice_get (lanes_on top bottom die) number ≡ Some lane → lane ≡ filter (is_of places numbers die number) order
lane_is p places numbers order top bottom hold die number lane there =
    let within = slice_get_within (lanes_on top bottom die) number lane there in
    sym (get_or_from_slice_get (lanes_on top bottom die) number lane [] there)
    ∙ hold.lanes die number (omega (arith, within, lanes_long p places numbers order top bottom hold die))

entry_of : (p : Netlist) (places : List Place) (numbers : List ℕ) (order : List CellId) (top bottom : LaneList) → HoldInOrder p places numbers order top bottom
    → (die : Die) (number rank : ℕ) (cell : CellId) → entry_at (lanes_on top bottom die) number rank ≡ Some cell → IsEntryOf p places numbers order die number rank cell
entry_of p places numbers order top bottom hold die number rank cell e =
    let found = entry_in (lanes_on top bottom die) number rank cell e in
    let within = slice_get_within (lanes_on top bottom die) number found.lane found.there in
    record {
      below = omega (arith, within, lanes_long p places numbers order top bottom hold die);
      at = subst (λ (l : List CellId). slice_get l rank ≡ Some cell) (lane_is p places numbers order top bottom hold die number found.lane found.there) found.at;
    }

entry_back : (p : Netlist) (places : List Place) (numbers : List ℕ) (order : List CellId) (top bottom : LaneList) → HoldInOrder p places numbers order top bottom
    → (die : Die) (number rank : ℕ) (cell : CellId) → IsEntryOf p places numbers order die number rank cell → entry_at (lanes_on top bottom die) number rank ≡ Some cell
entry_back p places numbers order top bottom hold die number rank cell is =
    let long = lanes_long p places numbers order top bottom hold die in
    entry_from (lanes_on top bottom die) number rank (get_or (lanes_on top bottom die) number []) cell
    (slice_get-get_or (lanes_on top bottom die) number [] (let within = is.below in omega (arith, within, long)))
    (ap (λ (l : List CellId). slice_get l rank) (hold.lanes die number is.below) ∙ is.at)

-- what is known of an entry's cell
pub record IsOwned (places : List Place) (numbers : List ℕ) (die : Die) (number : ℕ) (cell : CellId) : Type 0 where
  pub die_is : (place_at places cell.0).die ≡ die
  pub number_is : get_or numbers cell.0 0 ≡ number
  pub within : cell.0 < length places

owned : (p : Netlist) (places : List Place) (numbers : List ℕ) (order : List CellId) → AreByX places order → (die : Die) (number rank : ℕ) (cell : CellId)
    → IsEntryOf p places numbers order die number rank cell → IsOwned places numbers die number cell
owned p places numbers order sorted die number rank cell is =
    let test : CellId → Bool = is_of places numbers die number in
    let inside = slice_get_within (filter test order) rank cell is.at in
    let same : get_or (filter test order) rank cell ≡ cell = get_or_from_slice_get (filter test order) rank cell cell is.at in
    let passes : test cell ≡ true = sym (ap test same) ∙ filter_passes test order rank cell inside in
    let parts = and_parts (same_die (place_at places cell.0).die die) (nat_eq (get_or numbers cell.0 0) number) passes in
    record {
      die_is = same_die-true (place_at places cell.0).die die parts.0;
      number_is = eqb-true (get_or numbers cell.0 0) number parts.1;
      within = subst (λ (c : CellId). c.0 < length places) same (All-filter test (λ (c : CellId). c.0 < length places) order sorted.within rank cell inside);
    }

-- what lanes were made of
pub record AreMade (p : Netlist) (places : List Place) (numbers : List ℕ) (order : List CellId) (top bottom : LaneList) : Type 0 where
  pub many : length places ≡ length p.cells
  pub on_segments : (cell : ℕ) → cell < length p.cells → IsOnSegment p places numbers cell
  pub sorted : AreByX places order
  pub hold : HoldInOrder p places numbers order top bottom

pub entry_owned : (p : Netlist) (places : List Place) (numbers : List ℕ) (order : List CellId) (top bottom : LaneList) → AreMade p places numbers order top bottom
    → (die : Die) (number rank : ℕ) (cell : CellId) → entry_at (lanes_on top bottom die) number rank ≡ Some cell → IsOwned places numbers die number cell
entry_owned p places numbers order top bottom made die number rank cell e =
    owned p places numbers order made.sorted die number rank cell (entry_of p places numbers order top bottom made.hold die number rank cell e)

cell_there : (p : Netlist) (places : List Place) (numbers : List ℕ) (order : List CellId) (top bottom : LaneList) → AreMade p places numbers order top bottom
    → (cell : ℕ) → cell < length p.cells → (die : Die) × (number : ℕ) × (rank : ℕ) × (entry_at (lanes_on top bottom die) number rank ≡ Some (record { 0 = cell }))
cell_there p places numbers order top bottom made cell below =
    let die = (place_at places cell).die in
    let number = get_or numbers cell 0 in
    let on = made.on_segments cell below in
    let here = made.sorted.there cell (let many = made.many in omega (arith, many)) in
    let passes : is_of places numbers die number (record { 0 = cell }) ≡ true =
    ap (λ (b : Bool). b && nat_eq number number) (same_die-refl die) ∙ eq-eqb number number refl in
    let found = at_filter (is_of places numbers die number) order (record { 0 = cell }) here.0 here.1 here.2 passes in (
      die,
      number,
      found.0,
      entry_back p places numbers order top bottom made.hold die number found.0 (record { 0 = cell })
          (record { below = slice_get_within (segments p.plan die) number on.segment on.there; at = found.1 }),
    )

one_rank : (p : Netlist) (places : List Place) (numbers : List ℕ) (order : List CellId) → AreByX places order → (a b : Die) (i j r s : ℕ) (cell : CellId) → a ≡ b → i ≡ j
    → IsEntryOf p places numbers order a i r cell → IsEntryOf p places numbers order b j s cell → r ≡ s
one_rank p places numbers order sorted a b i j r s cell same_dies same_numbers first second =
    one_place (filter (is_of places numbers a i) order) (AllPairs-filter (λ (x y : CellId). x.0 ≢ y.0) (is_of places numbers a i) order sorted.apart) cell r s first.at
    (subst (λ d. slice_get (filter (is_of places numbers d i) order) s ≡ Some cell) (sym same_dies)
    (subst (λ n. slice_get (filter (is_of places numbers b n) order) s ≡ Some cell) (sym same_numbers) second.at))

stand_once : (p : Netlist) (places : List Place) (numbers : List ℕ) (order : List CellId) (top bottom : LaneList) → AreMade p places numbers order top bottom
    → StandOnce (length p.cells) top bottom
stand_once p places numbers order top bottom made = record {
  there = cell_there p places numbers order top bottom made;
  within = λ die number rank cell e. let owner = entry_owned p places numbers order top bottom made die number rank cell e in let many = made.many in let within = owner.within in omega (arith, many, within);
  one_die = λ a b i j r s cell e f. one_die a b i j r s cell e f;
  one_segment = λ a b i j r s cell e f. one_segment a b i j r s cell e f;
  one_rank = λ a b i j r s cell e f. one_rank p places numbers order made.sorted a b i j r s cell (one_die a b i j r s cell e f) (one_segment a b i j r s cell e f)
      (entry_of p places numbers order top bottom made.hold a i r cell e) (entry_of p places numbers order top bottom made.hold b j s cell f);
}
  where
    one_die : (a b : Die) (i j r s : ℕ) (cell : CellId) → entry_at (lanes_on top bottom a) i r ≡ Some cell → entry_at (lanes_on top bottom b) j s ≡ Some cell → a ≡ b
    one_die a b i j r s cell e f = sym (entry_owned p places numbers order top bottom made a i r cell e).die_is ∙ (entry_owned p places numbers order top bottom made b j s cell f).die_is

    one_segment : (a b : Die) (i j r s : ℕ) (cell : CellId) → entry_at (lanes_on top bottom a) i r ≡ Some cell → entry_at (lanes_on top bottom b) j s ≡ Some cell → i ≡ j
    one_segment a b i j r s cell e f = sym (entry_owned p places numbers order top bottom made a i r cell e).number_is ∙ (entry_owned p places numbers order top bottom made b j s cell f).number_is

entry_on_lane : (p : Netlist) (places : List Place) (numbers : List ℕ) (die : Die) (number : ℕ) (cell : CellId) → IsOnSegment p places numbers cell.0 → IsOwned places numbers die number cell
    → IsOnLane p places die number cell.0
entry_on_lane p places numbers die number cell on own = record {
  die_is = own.die_is;
  segment = on.segment;
  there = subst (λ n. slice_get (segments p.plan die) n ≡ Some on.segment) own.number_is
      (subst (λ d. slice_get (segments p.plan d) (get_or numbers cell.0 0) ≡ Some on.segment) own.die_is on.there);
  stands = subst (λ d. StandsIn on.segment (width p cell.0 d) (place_at places cell.0)) own.die_is on.stands;
  fitting = subst (λ d. IsTrue (fits p cell.0 d)) own.die_is on.fitting;
}

pub are_ranked : (p : Netlist) (places : List Place) (numbers : List ℕ) (order : List CellId) (top bottom : LaneList) → AreMade p places numbers order top bottom
    → AreRanked p places top bottom
are_ranked p places numbers order top bottom made = record {
  top_lanes = made.hold.top_lanes;
  bottom_lanes = made.hold.bottom_lanes;
  once = stand_once p places numbers order top bottom made;
  on_lane = λ die number rank cell e.
      let own = entry_owned p places numbers order top bottom made die number rank cell e in
      let many = made.many in let within = own.within in
      entry_on_lane p places numbers die number cell (made.on_segments cell.0 (omega (arith, many, within))) own;
  rising = λ die number lane there.
      subst (AllPairs (λ (a b : CellId). (place_at places a.0).x ≤ℤ (place_at places b.0).x)) (sym (lane_is p places numbers order top bottom made.hold die number lane there))
      (AllPairs-filter (λ (a b : CellId). (place_at places a.0).x ≤ℤ (place_at places b.0).x) (is_of places numbers die number) order made.sorted.rising);
}
