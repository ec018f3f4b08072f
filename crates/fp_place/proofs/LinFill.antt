-- Lanes, as cells are pushed onto them.
use Rattle.std.specs.Prelude.{◌≡◌, ℕ, ◌<◌, Bool, true, false, ◌&&◌, nat_eq, List, [], ◌∷◌, ◌++◌, length, filter, get_or, ◌⊎◌}
use Rattle.std.proofs.Common.{cond, refl, sym, ap, ◌∙◌, arith, inl, inr}
use Rattle.std.proofs.lemmas.Bool.{cases_eq, eq-eqb}
use Rattle.std.proofs.lemmas.Bool.Decides.{nat_tests}
use Rattle.std.proofs.lemmas.List.{get_or_read, append-nil, length-set, get_or-set_same, get_or-set_other}
use Rattle.std.proofs.lemmas.List.Elements.{filter-append}
use Rattle.fp_base.specs.declared.ids.CellId.{CellId}
use Rattle.fp_base.specs.declared.ids.Die.{Die}
use Rattle.fp_base.specs.declared.ids.Die.TheVariants.{Top, Bottom}
use Rattle.fp_tech.specs.Plan.{segments}
use Rattle.fp_netlist.specs.Netlist.{Netlist}
use Rattle.fp_place.specs.declared.lined.Lined.{Lined}
use Rattle.fp_place.specs.Places.{Place, place_at, same_die, nowhere}
use Rattle.fp_place.specs.Placed.{LaneList, lanes_on}
use Rattle.fp_place.specs.LaneOrder.{HoldInOrder, is_of, with_last, pushed}

filter_one : (test : CellId → Bool) (cells : List CellId) (cell : CellId) → test cell ≡ true → filter test (cells ++ cell ∷ []) ≡ filter test cells ++ cell ∷ []
filter_one test cells cell passes = filter-append test cells (cell ∷ []) ∙ ap (λ b. filter test cells ++ cond b (cell ∷ []) []) passes

filter_none : (test : CellId → Bool) (cells : List CellId) (cell : CellId) → test cell ≡ false → filter test (cells ++ cell ∷ []) ≡ filter test cells
filter_none test cells cell fails =
    filter-append test cells (cell ∷ []) ∙ ap (λ b. filter test cells ++ cond b (cell ∷ []) []) fails ∙ append-nil (filter test cells)

eq-nat_eq-false : (a b : ℕ) → (a ≡ b → ⊥) → nat_eq a b ≡ false
eq-nat_eq-false a b apart = grind (arith, nat_tests)

-- one lane, where one more cell goes to a lane of the same die
lane_more : (lanes : LaneList) (own number : ℕ) (cell : CellId) (test : CellId → Bool) (cells : List CellId) → own < length lanes
    → get_or lanes number [] ≡ filter test cells → test cell ≡ nat_eq own number → get_or (with_last lanes own cell) number [] ≡ filter test (cells ++ cell ∷ [])
lane_more lanes own number cell test cells below is says = by (cases_eq own number)
  where
    by : (own ≡ number) ⊎ (own ≡ number → ⊥) → get_or (with_last lanes own cell) number [] ≡ filter test (cells ++ cell ∷ [])
    by (inl same) =
        ap (λ n. get_or (with_last lanes own cell) n []) (sym same)
        ∙ get_or-set_same lanes own (get_or lanes own [] ++ cell ∷ []) [] below
        ∙ ap (λ n. get_or lanes n [] ++ cell ∷ []) same
        ∙ ap (λ ys. ys ++ cell ∷ []) is
        ∙ sym (filter_one test cells cell (says ∙ eq-eqb own number same))
    by (inr apart) =
        get_or-set_other lanes own number (get_or lanes own [] ++ cell ∷ []) [] (λ e. apart (sym e)) ∙ is
        ∙ sym (filter_none test cells cell (says ∙ eq-nat_eq-false own number apart))

is_of_here : (places : List Place) (numbers : List ℕ) (die : Die) (own number : ℕ) (cell : CellId) → (place_at places cell.0).die ≡ die → same_die die die ≡ true
    → get_or numbers cell.0 0 ≡ own → is_of places numbers die number cell ≡ nat_eq own number
is_of_here places numbers die own number cell die_is itself own_is =
    ap (λ d. same_die d die && nat_eq (get_or numbers cell.0 0) number) die_is
    ∙ ap (λ (b : Bool). b && nat_eq (get_or numbers cell.0 0) number) itself
    ∙ ap (λ r. nat_eq r number) own_is

is_of_there : (places : List Place) (numbers : List ℕ) (die other : Die) (number : ℕ) (cell : CellId) → (place_at places cell.0).die ≡ die → same_die die other ≡ false
    → is_of places numbers other number cell ≡ false
is_of_there places numbers die other number cell die_is apart =
    ap (λ d. same_die d other && nat_eq (get_or numbers cell.0 0) number) die_is ∙ ap (λ (b : Bool). b && nat_eq (get_or numbers cell.0 0) number) apart

-- both dies' lanes
pub hold_more : (p : Netlist) (places : List Place) (numbers : List ℕ) (cells : List CellId) (lined : Lined) (die : Die) (own : ℕ) (cell : CellId)
    → HoldInOrder p places numbers cells lined.top lined.bottom → (place_at places cell.0).die ≡ die → get_or numbers cell.0 0 ≡ own → own < length (segments p.plan die)
    → HoldInOrder p places numbers (cells ++ cell ∷ []) (pushed lined die own cell).top (pushed lined die own cell).bottom
hold_more p places numbers cells lined Top own cell is die_is own_is below = record {
  top_lanes = length-set lined.top own (get_or lined.top own [] ++ cell ∷ []) ∙ is.top_lanes;
  bottom_lanes = is.bottom_lanes;
  lanes = by;
}
  where
    by : (d : Die) (number : ℕ) → number < length (segments p.plan d) → get_or (lanes_on (with_last lined.top own cell) lined.bottom d) number [] ≡ filter (is_of places numbers d number) (cells ++ cell ∷ [])
    by Top number inside = lane_more lined.top own number cell (is_of places numbers Top number) cells (omega (arith, is.top_lanes)) (is.lanes Top number inside)
        (is_of_here places numbers Top own number cell die_is refl own_is)
    by Bottom number inside = is.lanes Bottom number inside ∙ sym (filter_none (is_of places numbers Bottom number) cells cell (is_of_there places numbers Top Bottom number cell die_is refl))
hold_more p places numbers cells lined Bottom own cell is die_is own_is below = record {
  top_lanes = is.top_lanes;
  bottom_lanes = length-set lined.bottom own (get_or lined.bottom own [] ++ cell ∷ []) ∙ is.bottom_lanes;
  lanes = by;
}
  where
    by : (d : Die) (number : ℕ) → number < length (segments p.plan d) → get_or (lanes_on lined.top (with_last lined.bottom own cell) d) number [] ≡ filter (is_of places numbers d number) (cells ++ cell ∷ [])
    by Bottom number inside = lane_more lined.bottom own number cell (is_of places numbers Bottom number) cells (omega (arith, is.bottom_lanes)) (is.lanes Bottom number inside)
        (is_of_here places numbers Bottom own number cell die_is refl own_is)
    by Top number inside = is.lanes Top number inside ∙ sym (filter_none (is_of places numbers Top number) cells cell (is_of_there places numbers Bottom Top number cell die_is refl))

-- as many lanes as segments
pub lanes_long : (p : Netlist) (places : List Place) (numbers : List ℕ) (cells : List CellId) (top bottom : LaneList) → HoldInOrder p places numbers cells top bottom
    → (die : Die) → length (lanes_on top bottom die) ≡ length (segments p.plan die)
lanes_long p places numbers cells top bottom is Top = is.top_lanes
lanes_long p places numbers cells top bottom is Bottom = is.bottom_lanes

-- a place that was read
pub place_read : (places : List Place) (cell : ℕ) (read seen : Place) → cell < length places → read ≡ get_or places cell read → seen ≡ read → place_at places cell ≡ seen
place_read places cell read seen below is same = sym (same ∙ get_or_read places cell read below is nowhere)
