-- From lined up cells and centres to a placement.
use Rattle.std.proofs.Common.{◌≡◌, ℕ, ◌+◌, ◌<◌, ◌≤◌, List, length, map, get_or, set, length-set, All, Option, Some, None, slice_get, ℤ, pos, ◌+ℤ◌, refl, sym, ap, subst, ◌∙◌, ◌⊎◌, inl, inr, arith}
use Rattle.std.proofs.lemmas.List.{get_or_default, get_or-map, length-map, get_or-set_same, get_or-set_other, ext_get_or}
use Rattle.std.proofs.lemmas.List.Elements.{All-from_get_or, All-get_or}
use Rattle.std.proofs.lemmas.Bool.{cases_lt}
use Rattle.std.proofs.lemmas.Option.{same_Some}
use Rattle.std.proofs.lemmas.Int.{ints}
use Rattle.fp_base.specs.declared.ids.Die.{Die}
use Rattle.fp_base.specs.declared.ids.Point.{Point}
use Rattle.fp_tech.specs.declared.dies.Segment.{Segment}
use Rattle.fp_tech.specs.Plan.{segments, IsPlan}
use Rattle.fp_netlist.specs.Netlist.{Netlist}
use Rattle.fp_place.specs.declared.placement.Spot.{Spot}
use Rattle.fp_place.specs.Places.{Place, nowhere, place_at}
use Rattle.fp_place.specs.Drawing.{IsCoordinate}
use Rattle.fp_place.specs.Lining.{AreLined}
use Rattle.fp_place.specs.Placed.{LaneList, Placed, no_spot, spot_at, place_of, places_of, IsSpotOf, IsPlacementOf, StandBetween}
use Rattle.fp_place.specs.Joining.{AreInRange}
use Rattle.fp_place.specs.LinedUp.{AreOnSegments, AreLinedUp, AreNamed, IsLaid}
use Rattle.fp_place.specs.Legal.{StandsIn}
use Rattle.fp_netlist.specs.Points.{width}
use Rattle.fp_place.specs.PlacedLaws.{place_in_range}

-- the first terminals are set
pub record AreSetBelow (old new : Placed) (centres : List (Option Point)) (net : ℕ) : Type 0 where
  pub spots : new.spots ≡ old.spots
  pub top : new.top ≡ old.top
  pub bottom : new.bottom ≡ old.bottom
  pub many : length new.terminals ≡ length centres
  pub set : (before : ℕ) → before < net → get_or new.terminals before None ≡ get_or centres before None

pub none_set : (old : Placed) (centres : List (Option Point)) → length old.terminals ≡ length centres → AreSetBelow old old centres 0
none_set old centres many = record { spots = refl; top = refl; bottom = refl; many = many; set = λ before less. absurd (omega (arith, less)) }

pub one_set : (old new next : Placed) (centres : List (Option Point)) (net : ℕ) (centre d : Option Point) → AreSetBelow old new centres net → net < length centres
    → centre ≡ get_or centres net d → next ≡ record new { terminals = set new.terminals net centre } → AreSetBelow old next centres (net + 1)
one_set old new next centres net centre d are below is e = record {
  spots = ap (λ (p : Placed). p.spots) e ∙ are.spots;
  top = ap (λ (p : Placed). p.top) e ∙ are.top;
  bottom = ap (λ (p : Placed). p.bottom) e ∙ are.bottom;
  many = ap (λ (p : Placed). length p.terminals) e ∙ length-set new.terminals net centre ∙ are.many;
  set = λ before less. ap (λ (p : Placed). get_or p.terminals before None) e ∙ by before (cases_lt before net) less;
}
  where
    by : (before : ℕ) → (before < net) ⊎ (net ≤ before) → before < net + 1 → get_or (set new.terminals net centre) before None ≡ get_or centres before None
    by before (inl less) within = get_or-set_other new.terminals net before centre None (λ same. omega (arith, less, same)) ∙ are.set before less
    by before (inr from) within =
        let same : net ≡ before = omega (arith, from, within) in
        subst (λ k. get_or (set new.terminals net centre) k None ≡ get_or centres k None) same
        (get_or-set_same new.terminals net centre None (omega (arith, below, are.many)) ∙ is ∙ get_or_default centres net d None below)

pub all_set : (old new : Placed) (centres : List (Option Point)) (net : ℕ) → net ≡ length centres → AreSetBelow old new centres net → new ≡ record old { terminals = centres }
all_set old new centres net e are =
    let terminals_are : new.terminals ≡ centres = ext_get_or None new.terminals centres are.many (λ k less. are.set k (omega (arith, less, are.many, e))) in
    ap (λ spots. record new { spots = spots }) are.spots
    ∙ ap (λ top. record { spots = old.spots; top = top; bottom = new.bottom; terminals = new.terminals }) are.top
    ∙ ap (λ bottom. record { spots = old.spots; top = old.top; bottom = bottom; terminals = new.terminals }) are.bottom
    ∙ ap (λ terminals. record { spots = old.spots; top = old.top; bottom = old.bottom; terminals = terminals }) terminals_are

-- a spot stands at its cell's place
spot_is : (p : Netlist) (places : List Place) (numbers : List ℕ) (built : Placed) (cell : ℕ) → length places ≡ length p.cells → AreOnSegments p places numbers
    → AreLined p places numbers built.top built.bottom → IsPlacementOf p built → map (λ (spot : Spot). spot.x) built.spots ≡ map (λ (place : Place). place.x) places → AreNamed built
    → cell < length built.spots → place_of (spot_at built.spots cell) ≡ place_at places cell
spot_is p places numbers built cell many on_segments lined of_problem xs named below =
    let spot : Spot = spot_at built.spots cell in
    let place : Place = place_at places cell in
    let die_is : place.die ≡ spot.die = lined.own_die spot.die spot.segment spot.rank (record { 0 = cell }) (named cell below) in
    let number_is : get_or numbers cell 0 ≡ spot.segment = lined.own_segment spot.die spot.segment spot.rank (record { 0 = cell }) (named cell below) in
    let stands = on_segments cell (omega (arith, below, of_problem.cells)) in
    let of_spot = All-get_or (IsSpotOf p) built.spots cell no_spot below of_problem.spots in
    let there : slice_get (segments p.plan spot.die) spot.segment ≡ Some stands.segment =
    ap (λ d. slice_get (segments p.plan d) spot.segment) (sym die_is) ∙ ap (λ r. slice_get (segments p.plan place.die) r) (sym number_is) ∙ stands.there in
    let same : of_spot.segment ≡ stands.segment = same_Some of_spot.segment stands.segment (sym of_spot.there ∙ there) in
    let y_is : spot.y ≡ place.y = of_spot.row ∙ ap (λ (s : Segment). s.y) same ∙ sym stands.stands.row in
    let x_is : spot.x ≡ place.x =
    sym (get_or-map (λ (spot : Spot). spot.x) built.spots cell no_spot (pos 0) below) ∙ ap (λ xs. get_or xs cell (pos 0)) xs
    ∙ get_or-map (λ (place : Place). place.x) places cell nowhere (pos 0) (omega (arith, below, of_problem.cells, many)) in
    ap (λ (d : Die). let q : Place = record { die = d; x = spot.x; y = spot.y } in q) (sym die_is)
    ∙ ap (λ (x : ℤ). let q : Place = record { die = place.die; x = x; y = spot.y } in q) x_is
    ∙ ap (λ (y : ℤ). let q : Place = record { die = place.die; x = place.x; y = y } in q) y_is

places_laid : (p : Netlist) (places : List Place) (numbers : List ℕ) (built : Placed) → length places ≡ length p.cells → AreOnSegments p places numbers
    → AreLined p places numbers built.top built.bottom → IsPlacementOf p built → map (λ (spot : Spot). spot.x) built.spots ≡ map (λ (place : Place). place.x) places → AreNamed built
    → places_of built ≡ places
places_laid p places numbers built many on_segments lined of_problem xs named =
    ext_get_or nowhere (places_of built) places (length-map built.spots place_of ∙ of_problem.cells ∙ sym many)
    (λ cell less.
    let below : cell < length built.spots = omega (arith, less, length-map built.spots place_of) in
    get_or-map place_of built.spots cell no_spot nowhere below ∙ spot_is p places numbers built cell many on_segments lined of_problem xs named below)

pub laid : (p : Netlist) (places : List Place) (centres : List (Option Point)) (top bottom : LaneList) (built placed : Placed) (xs : List ℤ) → length places ≡ length p.cells
    → AreLinedUp p places top bottom → length centres ≡ length p.nets → AreInRange centres → IsPlacementOf p built → built.top ≡ top → built.bottom ≡ bottom
    → map (λ (spot : Spot). spot.x) built.spots ≡ xs → xs ≡ map (λ (place : Place). place.x) places → AreNamed built → placed ≡ record built { terminals = centres }
    → IsLaid p places centres placed
laid p places centres top bottom built placed xs many up nets range of_problem top_is bottom_is xs_are given named is =
    let lined : AreLined p places up.numbers built.top built.bottom =
    subst (λ t. AreLined p places up.numbers t built.bottom) (sym top_is) (subst (AreLined p places up.numbers top) (sym bottom_is) up.lined) in
    let places_are : places_of built ≡ places = places_laid p places up.numbers built many up.on_segments lined of_problem (xs_are ∙ given) named in
    subst (IsLaid p places centres) (sym is)
    (record {
      places_are = places_are;
      terminals_are = refl;
      of_problem = record {
        cells = of_problem.cells;
        nets = nets;
        top_lanes = of_problem.top_lanes;
        bottom_lanes = of_problem.bottom_lanes;
        spots = of_problem.spots;
        centres = range;
      };
      in_order = λ die number segment lane there at.
          subst (λ ps. StandBetween p die ps segment.start (segment.start +ℤ segment.length) lane) (sym places_are) (lined.in_order die number segment lane there at);
    })

-- a cell on a segment has its x in range
x_on_segment : (p : Netlist) (place : Place) (wide : ℕ) (number : ℕ) (segment : Segment) → IsPlan p.plan → slice_get (segments p.plan place.die) number ≡ Some segment → StandsIn segment wide place
    → IsCoordinate place.x
x_on_segment p place wide number segment is there stands =
    place_in_range p.plan is place.die number segment there place.x stands.starts (let ends = stands.ends in omega (arith, ints, ends))

pub xs_in_range : (p : Netlist) (places : List Place) (numbers : List ℕ) (xs : List ℤ) → IsPlan p.plan → length places ≡ length p.cells → AreOnSegments p places numbers
    → xs ≡ map (λ (place : Place). place.x) places → All IsCoordinate xs
xs_in_range p places numbers xs is many on_segments e =
    subst (All IsCoordinate) (sym e)
    (All-from_get_or IsCoordinate (map (λ (place : Place). place.x) places) (pos 0)
    (λ cell less.
    let below : cell < length places = omega (arith, less, length-map places (λ (place : Place). place.x)) in
    let stands = on_segments cell (omega (arith, below, many)) in
    subst IsCoordinate (sym (get_or-map (λ (place : Place). place.x) places cell nowhere (pos 0) below))
    (x_on_segment p (place_at places cell) (width p cell (place_at places cell).die) (get_or numbers cell 0) stands.segment is stands.there stands.stands)))

pub xs_many : (places : List Place) (xs : List ℤ) (count : ℕ) → xs ≡ map (λ (place : Place). place.x) places → length places ≡ count → length xs ≡ count
xs_many places xs count e many = ap length e ∙ length-map places (λ (place : Place). place.x) ∙ many
