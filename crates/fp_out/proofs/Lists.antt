-- The lines of the first cells and of the first nets, one more at a time.
use Rattle.std.proofs.Common.{◌≡◌, ℕ, suc, ◌+◌, ◌<◌, ◌≤◌, Bool, true, false, not, if◌then◌else◌, List, [], ◌∷◌, ◌++◌, length, take, slice_get, Option, Some, None, is_some, refl, sym, ap, ◌∙◌, arith, length-append}
use Rattle.std.proofs.Math.ListN.{get_or-map}
use Rattle.std.proofs.lemmas.List.{take_more, length-map, length-take-le, take_all}
use Rattle.std.proofs.lemmas.Option.{slice_get_within, get_or_from_slice_get}
use Rattle.fp_base.specs.declared.ids.Die.{Die}
use Rattle.fp_base.specs.declared.ids.Die.TheVariants.{Top, Bottom}
use Rattle.fp_base.specs.contracts.ids.Die.{the_type}
use Rattle.fp_base.specs.declared.ids.Point.{Point}
use denote.Enum.Bare.{sameb}
use Rattle.fp_place.specs.declared.drawn.DrawnCell.{DrawnCell}
use Rattle.fp_place.specs.declared.drawn.DrawnTerminal.{DrawnTerminal}
use Rattle.fp_place.specs.declared.placement.Spot.{Spot}
use Rattle.fp_place.specs.Places.{Place, nowhere, place_at, same_die}
use Rattle.fp_place.specs.Drawing.{lines_from, terminals_from}
use Rattle.fp_place.specs.Placed.{Placed, no_spot, place_of, places_of}

lines_append : (die : Die) (cell : ℕ) (xs ys : List Place) → lines_from die cell (xs ++ ys) ≡ lines_from die cell xs ++ lines_from die (cell + length xs) ys
unfolding lines_from
lines_append die cell [] ys = ap (λ k. lines_from die k ys) (let same : cell ≡ cell + 0 = omega arith in same)
lines_append die cell (x ∷ xs) ys =
    let same : cell + 1 + length xs ≡ cell + length (x ∷ xs) = omega arith in
    by (same_die x.die die) (lines_append die (cell + 1) xs ys ∙ ap (λ k. lines_from die (cell + 1) xs ++ lines_from die k ys) same)
  where
    by : (b : Bool) → lines_from die (cell + 1) (xs ++ ys) ≡ lines_from die (cell + 1) xs ++ lines_from die (cell + length (x ∷ xs)) ys
        → (if b then record { cell = record { 0 = cell }; x = x.x; y = x.y } ∷ lines_from die (cell + 1) (xs ++ ys) else lines_from die (cell + 1) (xs ++ ys))
        ≡ (if b then record { cell = record { 0 = cell }; x = x.x; y = x.y } ∷ lines_from die (cell + 1) xs else lines_from die (cell + 1) xs) ++ lines_from die (cell + length (x ∷ xs)) ys
    by true rest = ap (λ (l : List DrawnCell). record { cell = record { 0 = cell }; x = x.x; y = x.y } ∷ l) rest
    by false rest = rest

terminals_append : (net : ℕ) (xs ys : List (Option Point)) → terminals_from net (xs ++ ys) ≡ terminals_from net xs ++ terminals_from (net + length xs) ys
unfolding terminals_from
terminals_append net [] ys = ap (λ k. terminals_from k ys) (let same : net ≡ net + 0 = omega arith in same)
terminals_append net (None ∷ xs) ys =
    let same : net + 1 + length xs ≡ net + suc (length xs) = omega arith in
    terminals_append (net + 1) xs ys ∙ ap (λ k. terminals_from (net + 1) xs ++ terminals_from k ys) same
terminals_append net (Some centre ∷ xs) ys =
    let same : net + 1 + length xs ≡ net + suc (length xs) = omega arith in
    ap (λ (l : List DrawnTerminal). record { net = record { 0 = net }; x = centre.x; y = centre.y } ∷ l)
    (terminals_append (net + 1) xs ys ∙ ap (λ k. terminals_from (net + 1) xs ++ terminals_from k ys) same)

-- a cell's place is that of its spot
place_is : (placed : Placed) (cell : ℕ) (spot : Spot) → slice_get placed.spots cell ≡ Some spot → place_at (places_of placed) cell ≡ place_of spot
place_is placed cell spot at = get_or-map place_of placed.spots cell no_spot ∙ ap place_of (get_or_from_slice_get placed.spots cell spot no_spot at)

-- the line of a cell, on its own die
abbrev pub line_at : ℕ → Spot → DrawnCell
line_at cell spot = record { cell = record { 0 = cell }; x = spot.x; y = spot.y }

abbrev pub line_on : Die → ℕ → Spot → List DrawnCell
line_on die cell spot = if same_die spot.die die then line_at cell spot ∷ [] else []

-- what the code's test of two dies answers
pub is_same_die : (a b : Die) (test : Bool) → test ≡ sameb the_type a b → same_die a b ≡ test
is_same_die Top Top test is = sym is
is_same_die Top Bottom test is = sym is
is_same_die Bottom Top test is = sym is
is_same_die Bottom Bottom test is = sym is

pub is_other_die : (a b : Die) (test : Bool) → test ≡ not (sameb the_type a b) → same_die a b ≡ not test
is_other_die Top Top test is = sym (ap not is)
is_other_die Top Bottom test is = sym (ap not is)
is_other_die Bottom Top test is = sym (ap not is)
is_other_die Bottom Bottom test is = sym (ap not is)

pub line_here : (die : Die) (cell : ℕ) (spot : Spot) → same_die spot.die die ≡ true → line_on die cell spot ≡ line_at cell spot ∷ []
line_here die cell spot is = ap (λ b. if b then line_at cell spot ∷ [] else []) is

pub line_elsewhere : (die : Die) (cell : ℕ) (spot : Spot) → same_die spot.die die ≡ false → line_on die cell spot ≡ []
line_elsewhere die cell spot is = ap (λ b. if b then line_at cell spot ∷ [] else []) is

-- the lines of the first cells
abbrev pub lines_below : Die → ℕ → Placed → List DrawnCell
lines_below die cells placed = lines_from die 0 (take cells (places_of placed))

pub lines_none : (die : Die) (placed : Placed) → lines_below die 0 placed ≡ []
unfolding lines_from
lines_none die placed = refl

pub lines_more : (die : Die) (cell : ℕ) (placed : Placed) (spot : Spot) → slice_get placed.spots cell ≡ Some spot
    → lines_below die (cell + 1) placed ≡ lines_below die cell placed ++ line_on die cell spot
unfolding lines_from
lines_more die cell placed spot at =
    let places = places_of placed in
    let within : cell < length placed.spots = slice_get_within placed.spots cell spot at in
    let many : length places ≡ length placed.spots = length-map placed.spots place_of in
    let long : length (take cell places) ≡ cell = length-take-le cell places (omega arith) in
    let here : take (cell + 1) places ≡ take cell places ++ place_of spot ∷ [] = take_more places cell nowhere (omega arith) ∙ ap (λ (p : Place). take cell places ++ p ∷ []) (place_is placed cell spot at) in
    ap (lines_from die 0) here ∙ lines_append die 0 (take cell places) (place_of spot ∷ [])
    ∙ ap (λ k. lines_below die cell placed ++ lines_from die k (place_of spot ∷ [])) (let same : 0 + length (take cell places) ≡ cell = omega arith in same)

pub lines_all : (die : Die) (cells : ℕ) (placed : Placed) → length placed.spots ≤ cells → lines_below die cells placed ≡ lines_from die 0 (places_of placed)
lines_all die cells placed all =
    let many : length (places_of placed) ≡ length placed.spots = length-map placed.spots place_of in
    ap (lines_from die 0) (take_all cells (places_of placed) (omega arith))

-- the line of a terminal, where there is one
abbrev pub line_of : ℕ → Option Point → List DrawnTerminal
line_of net None = []
line_of net (Some centre) = record { net = record { 0 = net }; x = centre.x; y = centre.y } ∷ []

-- the lines of the first nets' terminals
abbrev pub terminals_below : ℕ → List (Option Point) → List DrawnTerminal
terminals_below nets terminals = terminals_from 0 (take nets terminals)

pub terminals_none : (terminals : List (Option Point)) → terminals_below 0 terminals ≡ []
unfolding terminals_from
terminals_none terminals = refl

one_terminal : (net : ℕ) (terminal : Option Point) → terminals_from net (terminal ∷ []) ≡ line_of net terminal
unfolding terminals_from
one_terminal net None = refl
one_terminal net (Some centre) = refl

pub terminals_more : (net : ℕ) (terminals : List (Option Point)) (terminal : Option Point) → slice_get terminals net ≡ Some terminal
    → terminals_below (net + 1) terminals ≡ terminals_below net terminals ++ line_of net terminal
terminals_more net terminals terminal at =
    let within : net < length terminals = slice_get_within terminals net terminal at in
    let long : length (take net terminals) ≡ net = length-take-le net terminals (omega arith) in
    let here : take (net + 1) terminals ≡ take net terminals ++ terminal ∷ [] = take_more terminals net None within ∙ ap (λ (t : Option Point). take net terminals ++ t ∷ []) (get_or_from_slice_get terminals net terminal None at) in
    ap (terminals_from 0) here ∙ terminals_append 0 (take net terminals) (terminal ∷ [])
    ∙ ap (λ k. terminals_below net terminals ++ terminals_from k (terminal ∷ [])) (let same : 0 + length (take net terminals) ≡ net = omega arith in same)
    ∙ ap (λ (l : List DrawnTerminal). terminals_below net terminals ++ l) (one_terminal net terminal)

pub terminals_all : (nets : ℕ) (terminals : List (Option Point)) → length terminals ≤ nets → terminals_below nets terminals ≡ terminals_from 0 terminals
terminals_all nets terminals all = ap (terminals_from 0) (take_all nets terminals all)

-- counted one at a time
pub lines_counted : (die : Die) (cell : ℕ) (placed : Placed) (spot : Spot) → slice_get placed.spots cell ≡ Some spot
    → length (lines_below die (cell + 1) placed) ≡ length (lines_below die cell placed) + (if same_die spot.die die then 1 else 0)
lines_counted die cell placed spot at =
    ap length (lines_more die cell placed spot at) ∙ length-append (lines_below die cell placed) (line_on die cell spot) ∙ ap (λ n. length (lines_below die cell placed) + n) (by (same_die spot.die die))
  where
    by : (b : Bool) → length (if b then line_at cell spot ∷ [] else []) ≡ (if b then 1 else 0)
    by true = refl
    by false = refl

pub terminals_counted : (net : ℕ) (terminals : List (Option Point)) (terminal : Option Point) → slice_get terminals net ≡ Some terminal
    → length (terminals_below (net + 1) terminals) ≡ length (terminals_below net terminals) + (if is_some terminal then 1 else 0)
terminals_counted net terminals terminal at =
    ap length (terminals_more net terminals terminal at) ∙ length-append (terminals_below net terminals) (line_of net terminal) ∙ ap (λ n. length (terminals_below net terminals) + n) (by terminal)
  where
    by : (t : Option Point) → length (line_of net t) ≡ (if is_some t then 1 else 0)
    by None = refl
    by (Some centre) = refl
