-- The drawing of places: each cell's line stands once and tells its place; terminals' lines are those of the nets that have one.
use Rattle.std.specs.Prelude.{◌≡◌, ℕ, zero, suc, ◌+◌, ◌<◌, Bool, true, false, if◌then◌else◌, List, [], ◌∷◌, length, get_or, find, All, Option, Some, None, is_some}
use Rattle.std.specs.List.{count_by}
use Rattle.std.proofs.Common.{refl, sym, ap, subst, ◌∙◌, arith}
use Rattle.std.proofs.lemmas.List.FromFn.{fill_by_all}
use Rattle.std.proofs.lemmas.List.Elements.{All-nil, All-cons, All-weaker}
use Rattle.std.proofs.lemmas.List.Sums.{sum_by-cons}
use Rattle.std.proofs.lemmas.Bool.{eq-eqb, ne_eqb}
use Rattle.fp_base.specs.declared.ids.Die.{Die}
use Rattle.fp_base.specs.declared.ids.Die.TheVariants.{Top, Bottom}
use Rattle.fp_base.specs.declared.ids.Point.{Point}
use Rattle.fp_place.specs.declared.drawn.DrawnCell.{DrawnCell}
use Rattle.fp_place.specs.declared.drawn.DrawnTerminal.{DrawnTerminal}
use Rattle.fp_place.specs.Places.{Place, nowhere, same_die}
use Rattle.fp_place.specs.Drawing.{is_cell, is_net, centre_of, first_line, place_in, places_in, lines_from, terminals_from, drawing_of}
use Rattle.fp_place.specs.Legal.{StandsOnce}

-- one more line in front
pub count_yes : {X : Type 0} (test : X → Bool) (x : X) (xs : List X) → test x ≡ true → count_by test (x ∷ xs) ≡ 1 + count_by test xs
count_yes test x xs passes = sum_by-cons (λ y. if test y then 1 else 0) x xs ∙ ap (λ (b : Bool). (if b then 1 else 0) + count_by test xs) passes

pub count_no : {X : Type 0} (test : X → Bool) (x : X) (xs : List X) → test x ≡ false → count_by test (x ∷ xs) ≡ count_by test xs
count_no test x xs fails =
    sum_by-cons (λ y. if test y then 1 else 0) x xs ∙ ap (λ (b : Bool). (if b then 1 else 0) + count_by test xs) fails
    ∙ (let same : 0 + count_by test xs ≡ count_by test xs = omega arith in same)

pub find_yes : {X : Type 0} (test : X → Bool) (x : X) (xs : List X) → test x ≡ true → find test (x ∷ xs) ≡ Some x
find_yes test x xs passes = ap (λ (b : Bool). if b then Some x else find test xs) passes

pub find_no : {X : Type 0} (test : X → Bool) (x : X) (xs : List X) → test x ≡ false → find test (x ∷ xs) ≡ find test xs
find_no test x xs fails = ap (λ (b : Bool). if b then Some x else find test xs) fails

abbrev line : ℕ → Place → DrawnCell
line cell place = record { cell = record { 0 = cell }; x = place.x; y = place.y }

-- no line of a cell
record NoLine (cell : ℕ) (lines : List DrawnCell) : Type 0 where
  none : count_by (is_cell cell) lines ≡ 0
  nothing : find (is_cell cell) lines ≡ None

no_line : (die : Die) (i : ℕ) (places : List Place) (cell : ℕ) → cell < i → NoLine cell (lines_from die i places)
unfolding lines_from
no_line die i [] cell less = record { none = refl; nothing = refl }
no_line die i (place ∷ places) cell less = by (same_die place.die die) (no_line die (i + 1) places cell (omega arith))
  where
    other : is_cell cell (line i place) ≡ false
    other = ne_eqb i cell (λ e. omega (arith, less, e))

    by : (b : Bool) → NoLine cell (lines_from die (i + 1) places) → NoLine cell (if b then line i place ∷ lines_from die (i + 1) places else lines_from die (i + 1) places)
    by true rest = record {
      none = count_no (is_cell cell) (line i place) (lines_from die (i + 1) places) other ∙ rest.none;
      nothing = find_no (is_cell cell) (line i place) (lines_from die (i + 1) places) other ∙ rest.nothing;
    }
    by false rest = rest

-- the lines of both dies tell a cell's place, once
record DoTell (cell : ℕ) (place : Place) (top bottom : List DrawnCell) : Type 0 where
  once : count_by (is_cell cell) top + count_by (is_cell cell) bottom ≡ 1
  tell : first_line (find (is_cell cell) top) (find (is_cell cell) bottom) ≡ place

-- a place by its die
abbrev placed : Place → Die → Place
placed place die = record { die = die; x = place.x; y = place.y }

told_here : (cell : ℕ) (place : Place) (top bottom : List DrawnCell) → NoLine cell top → NoLine cell bottom → (die : Die) → place.die ≡ die
    → DoTell cell place (if same_die die Top then line cell place ∷ top else top) (if same_die die Bottom then line cell place ∷ bottom else bottom)
told_here cell place top bottom no_top no_bottom Top is = record {
  once = omega (arith, count_yes (is_cell cell) (line cell place) top (eq-eqb cell cell refl), no_top.none, no_bottom.none);
  tell = ap (λ o. first_line o (find (is_cell cell) bottom)) (find_yes (is_cell cell) (line cell place) top (eq-eqb cell cell refl))
      ∙ ap (placed place) (sym is);
}
told_here cell place top bottom no_top no_bottom Bottom is = record {
  once = omega (arith, count_yes (is_cell cell) (line cell place) bottom (eq-eqb cell cell refl), no_top.none, no_bottom.none);
  tell = ap (λ o. first_line o (find (is_cell cell) (line cell place ∷ bottom))) no_top.nothing
      ∙ ap (first_line None) (find_yes (is_cell cell) (line cell place) bottom (eq-eqb cell cell refl))
      ∙ ap (placed place) (sym is);
}

told_later : (cell i : ℕ) (first place : Place) (top bottom : List DrawnCell) → is_cell cell (line i first) ≡ false → DoTell cell place top bottom → (die : Die)
    → DoTell cell place (if same_die die Top then line i first ∷ top else top) (if same_die die Bottom then line i first ∷ bottom else bottom)
told_later cell i first place top bottom other rest Top = record {
  once = omega (arith, count_no (is_cell cell) (line i first) top other, rest.once);
  tell = ap (λ o. first_line o (find (is_cell cell) bottom)) (find_no (is_cell cell) (line i first) top other) ∙ rest.tell;
}
told_later cell i first place top bottom other rest Bottom = record {
  once = omega (arith, count_no (is_cell cell) (line i first) bottom other, rest.once);
  tell = ap (λ o. first_line (find (is_cell cell) top) o) (find_no (is_cell cell) (line i first) bottom other) ∙ rest.tell;
}

lines_tell : (places : List Place) (i k cell : ℕ) → i + k ≡ cell → k < length places → DoTell cell (get_or places k nowhere) (lines_from Top i places) (lines_from Bottom i places)
unfolding lines_from
lines_tell [] i k cell e below = absurd (omega arith)
lines_tell (place ∷ places) i zero cell e below =
    subst (λ c. DoTell c place (lines_from Top i (place ∷ places)) (lines_from Bottom i (place ∷ places))) (let same : i ≡ cell = omega arith in same)
    (told_here i place (lines_from Top (i + 1) places) (lines_from Bottom (i + 1) places)
    (no_line Top (i + 1) places i (omega arith)) (no_line Bottom (i + 1) places i (omega arith)) place.die refl)
lines_tell (place ∷ places) i (suc k) cell e below =
    told_later cell i place (get_or places k nowhere) (lines_from Top (i + 1) places) (lines_from Bottom (i + 1) places)
    (ne_eqb i cell (λ same. omega (arith, e, same))) (lines_tell places (i + 1) k cell (omega arith) (omega arith)) place.die

-- each cell stands once
pub stands_once : (places : List Place) (terminals : List (Option Point)) (cell : ℕ) → cell < length places → StandsOnce (drawing_of places terminals) cell
stands_once places terminals cell below = (lines_tell places 0 cell cell (omega arith) below).once

-- the drawing's places are those that were drawn
pub places_in_drawing : (places : List Place) (terminals : List (Option Point)) (cells : ℕ) → length places ≡ cells → places_in (drawing_of places terminals) cells ≡ places
places_in_drawing places terminals cells many =
    sym (fill_by_all (place_in (drawing_of places terminals)) places cells nowhere many
    (λ k below. sym (lines_tell places 0 k k (omega arith) (omega arith)).tell))

-- a terminal's line
abbrev terminal_line : ℕ → Point → DrawnTerminal
terminal_line net centre = record { net = record { 0 = net }; x = centre.x; y = centre.y }

no_terminal : (i : ℕ) (terminals : List (Option Point)) (net : ℕ) → net < i → count_by (is_net net) (terminals_from i terminals) ≡ 0
unfolding terminals_from
no_terminal i [] net less = refl
no_terminal i (None ∷ others) net less = no_terminal (i + 1) others net (omega arith)
no_terminal i (Some centre ∷ others) net less =
    count_no (is_net net) (terminal_line i centre) (terminals_from (i + 1) others) (ne_eqb i net (λ e. omega (arith, less, e)))
    ∙ no_terminal (i + 1) others net (omega arith)

terminals_count : (i : ℕ) (terminals : List (Option Point)) (k net : ℕ) → i + k ≡ net → k < length terminals
    → count_by (is_net net) (terminals_from i terminals) ≡ (if is_some (get_or terminals k None) then 1 else 0)
unfolding terminals_from
terminals_count i [] k net e below = absurd (omega arith)
terminals_count i (None ∷ others) zero net e below = no_terminal (i + 1) others net (omega arith)
terminals_count i (Some centre ∷ others) zero net e below =
    count_yes (is_net net) (terminal_line i centre) (terminals_from (i + 1) others) (eq-eqb i net (omega arith))
    ∙ ap (λ n. 1 + n) (no_terminal (i + 1) others net (omega arith))
terminals_count i (None ∷ others) (suc k) net e below = terminals_count (i + 1) others k net (omega arith) (omega arith)
terminals_count i (Some centre ∷ others) (suc k) net e below =
    count_no (is_net net) (terminal_line i centre) (terminals_from (i + 1) others) (ne_eqb i net (λ same. omega (arith, e, same)))
    ∙ terminals_count (i + 1) others k net (omega arith) (omega arith)

-- a net has one line where it has a terminal, and none otherwise
pub one_terminal : (terminals : List (Option Point)) (net : ℕ) → net < length terminals
    → count_by (is_net net) (terminals_from 0 terminals) ≡ (if is_some (get_or terminals net None) then 1 else 0)
one_terminal terminals net below = terminals_count 0 terminals net net (omega arith) below

-- each line is that of a net's terminal
pub record IsDrawnFrom (i : ℕ) (terminals : List (Option Point)) (drawn : DrawnTerminal) : Type 0 where
  pub place : ℕ
  pub within : place < length terminals
  pub net_is : drawn.net.0 ≡ i + place
  pub is : get_or terminals place None ≡ Some (centre_of drawn)

drawn_later : (i : ℕ) (first : Option Point) (others : List (Option Point)) (drawn : DrawnTerminal) → IsDrawnFrom (i + 1) others drawn → IsDrawnFrom i (first ∷ others) drawn
drawn_later i first others drawn is = record { place = suc is.place; within = omega (arith, is.within); net_is = omega (arith, is.net_is); is = is.is }

pub terminals_drawn : (i : ℕ) (terminals : List (Option Point)) → All (IsDrawnFrom i terminals) (terminals_from i terminals)
unfolding terminals_from
terminals_drawn i [] = All-nil (IsDrawnFrom i [])
terminals_drawn i (None ∷ others) =
    All-weaker (IsDrawnFrom (i + 1) others) (IsDrawnFrom i (None ∷ others)) (drawn_later i None others) (terminals_from (i + 1) others) (terminals_drawn (i + 1) others)
terminals_drawn i (Some centre ∷ others) =
    All-cons (IsDrawnFrom i (Some centre ∷ others)) (terminal_line i centre) (terminals_from (i + 1) others)
    (record { place = zero; within = omega arith; net_is = omega arith; is = refl })
    (All-weaker (IsDrawnFrom (i + 1) others) (IsDrawnFrom i (Some centre ∷ others)) (drawn_later i (Some centre) others) (terminals_from (i + 1) others) (terminals_drawn (i + 1) others))
