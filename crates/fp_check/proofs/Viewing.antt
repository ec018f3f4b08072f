-- What a trial shows by cell, as it is put together: its lanes, its dies, its terminals and the placement of its lines.
use Rattle.std.proofs.Common.{◌≡◌, ◌≢◌, ℕ, zero, suc, ◌+◌, ◌-◌, ◌<◌, ◌≤◌, Bool, true, false, cond, List, [], ◌∷◌, ◌++◌, length, map, take, drop, set, get_or, replicate, slice_get, Option, Some, None, refl, sym, ap, subst, ◌∙◌, append_assoc, arith}
use Rattle.std.specs.Prelude.{◌==◌, ◌||◌, nat_eq, IfSome, find, MatchOption}
use Rattle.std.specs.List.{list_any, range_with_len}
use Rattle.std.proofs.lemmas.Bool.{false≢true}
use Rattle.std.proofs.lemmas.Bool.Decides.{nat_tests}
use Rattle.std.proofs.lemmas.List.{length-map, length-set, get_or-map, get_or-set_same, get_or-set_other, get_or-replicate, ext_get_or, take_more}
use Rattle.std.proofs.lemmas.List.FromFn.{fill_by_all}
use Rattle.std.proofs.lemmas.Option.{same_Some}
use Rattle.fp_base.specs.declared.ids.CellId.{CellId}
use Rattle.fp_base.specs.declared.ids.Die.{Die}
use Rattle.fp_base.specs.declared.ids.Die.TheVariants.{Top, Bottom}
use Rattle.fp_base.specs.declared.ids.Point.{Point}
use Rattle.fp_tech.specs.Slots.{Slots, slot_count, centre_of}
use Rattle.fp_netlist.specs.Netlist.{Netlist}
use Rattle.fp_place.specs.Places.{dies_of}
use Rattle.fp_place.specs.Placed.{LaneList, Placed, IsCentre}
use Rattle.fp_cert.specs.declared.shown.CellShown.{CellShown}
use Rattle.fp_cert.specs.declared.shown.CutShown.{CutShown}
use Rattle.fp_cert.specs.Endings.{has_rows}
use Rattle.fp_cert.specs.Shown.{ShownRow, ShownTrial, ShownRun}
use Rattle.fp_cert.specs.Standing.{terminal_by, listed_die, lane_shown, places_shown, terminals_shown, dies_shown}
use Rattle.fp_check.specs.declared.views.Layout.{Layout}
use Rattle.fp_check.specs.declared.views.View.{View}
use Rattle.fp_check.specs.Views.{with_tops, with_terminals, IsLayoutOf, IsViewOf, AreViews}

-- ---- views, one after the other

-- the views of so many trials
pub record AreViewsTo (p : Netlist) (grid : Slots) (run : ShownRun) (count : ℕ) (views : List View) : Type 0 where
  pub many : length views ≡ count
  pub each : (number : ℕ) (trial : ShownTrial) (view : View) → slice_get run.trials number ≡ Some trial → slice_get views number ≡ Some view → IsViewOf p grid trial view

pub no_views : (p : Netlist) (grid : Slots) (run : ShownRun) (views : List View) → views ≡ [] → AreViewsTo p grid run 0 views
no_views p grid run [] is = record { many = refl; each = λ number trial view first second. absurd cc }
no_views p grid run (view ∷ views) is = absurd cc

pushed_at : (views : List View) (view : View) (number : ℕ) (found : View) → slice_get (views ++ view ∷ []) number ≡ Some found → (P : ℕ → View → Type 0)
    → P (length views) view → ((k : ℕ) (v : View) → slice_get views k ≡ Some v → P k v) → P number found
pushed_at [] view zero found at P last each = subst (P 0) (same_Some view found at) last
pushed_at [] view (suc number) found at P last each = absurd cc
pushed_at (first ∷ views) view zero found at P last each = each 0 found at
pushed_at (first ∷ views) view (suc number) found at P last each =
    pushed_at views view number found at (λ k v. P (suc k) v) last (λ k v there. each (suc k) v there)

pub views_more : (p : Netlist) (grid : Slots) (run : ShownRun) (count : ℕ) (views pushed : List View) (trial : ShownTrial) (view : View) → AreViewsTo p grid run count views
    → pushed ≡ views ++ view ∷ [] → slice_get run.trials count ≡ Some trial → IsViewOf p grid trial view → AreViewsTo p grid run (count + 1) pushed
views_more p grid run count views pushed trial view are is at shows = subst (AreViewsTo p grid run (count + 1)) (sym is) (record {
  many = length_more views view ∙ (λ i. are.many i + 1);
  each = λ number t v first second.
      pushed_at views view number v second (λ k w. slice_get run.trials k ≡ Some t → IsViewOf p grid t w)
      (λ there. let same : trial ≡ t = same_Some trial t (sym at ∙ ap (slice_get run.trials) (sym are.many) ∙ there) in subst (λ (s : ShownTrial). IsViewOf p grid s view) same shows)
      (λ k w here there. are.each k t w there here) first;
})
  where
    length_more : (these : List View) (last : View) → length (these ++ last ∷ []) ≡ length these + 1
    length_more [] last = refl
    length_more (first ∷ these) last = omega (arith, length_more these last)

pub all_views : (p : Netlist) (grid : Slots) (run : ShownRun) (count : ℕ) (views : List View) → AreViewsTo p grid run count views → count ≡ length run.trials → AreViews p grid run views
all_views p grid run count views are is = record { many = are.many ∙ is; each = are.each }

-- ---- lanes, one after the other

-- so many lanes are those of rows, and the others have no cells
pub record AreFilled (rows : List ShownRow) (count : ℕ) (lanes : LaneList) : Type 0 where
  pub many : length lanes ≡ length rows
  pub done : (k : ℕ) → k < count → get_or lanes k [] ≡ get_or (map lane_shown rows) k []
  pub left : (k : ℕ) → count ≤ k → k < length rows → get_or lanes k [] ≡ []

pub long : {A : Type 0} (count : ℕ) (x : A) → length (replicate count x) ≡ count
long zero x = refl
long (suc count) x = omega (arith, long count x)

pub none_filled : (rows : List ShownRow) (lanes : LaneList) → lanes ≡ replicate (length rows) [] → AreFilled rows 0 lanes
none_filled rows lanes is = subst (AreFilled rows 0) (sym is) (record {
  many = long (length rows) [];
  done = λ k below. absurd (omega (arith, below));
  left = λ k from below. get_or-replicate (length rows) k [] [] below;
})

pub filled_more : (rows : List ShownRow) (count : ℕ) (lanes filled : LaneList) (row : ShownRow) → AreFilled rows count lanes → count < length rows → row ≡ get_or rows count row
    → filled ≡ set lanes count (get_or lanes count [] ++ lane_shown row) → AreFilled rows (count + 1) filled
filled_more rows count lanes filled row are below there is = subst (AreFilled rows (count + 1)) (sym is) (record {
  many = length-set lanes count (get_or lanes count [] ++ lane_shown row) ∙ are.many;
  done = λ k inside. by k inside (nat_eq k count) refl;
  left = λ k from inside. get_or-set_other lanes count k (get_or lanes count [] ++ lane_shown row) [] (λ same. absurd (omega (arith, from, same))) ∙ are.left k (omega (arith, from)) inside;
})
  where
    equal : (a b : ℕ) → nat_eq a b ≡ true → a ≡ b
    equal a b same = grind (arith, nat_tests)

    differ : (a b : ℕ) → nat_eq a b ≡ false → a ≢ b
    differ a b other same = false≢true (sym other ∙ grind (arith, nat_tests))

    lower : (a b : ℕ) → nat_eq a b ≡ false → a < b + 1 → a < b
    lower a b other inside = grind (arith, nat_tests)

    here : get_or lanes count [] ++ lane_shown row ≡ get_or (map lane_shown rows) count []
    here = ap (λ lane. lane ++ lane_shown row) (are.left count (omega arith) below) ∙ ap lane_shown there ∙ sym (get_or-map lane_shown rows count row [] below)

    by : (k : ℕ) → k < count + 1 → (b : Bool) → nat_eq k count ≡ b → get_or (set lanes count (get_or lanes count [] ++ lane_shown row)) k [] ≡ get_or (map lane_shown rows) k []
    by k inside true same =
        let number : k ≡ count = equal k count same in
        ap (λ n. get_or (set lanes count (get_or lanes count [] ++ lane_shown row)) n []) number
        ∙ get_or-set_same lanes count (get_or lanes count [] ++ lane_shown row) [] (omega (arith, below, are.many))
        ∙ here
        ∙ ap (λ n. get_or (map lane_shown rows) n []) (sym number)
    by k inside false other =
        get_or-set_other lanes count k (get_or lanes count [] ++ lane_shown row) [] (differ k count other) ∙ are.done k (lower k count other inside)

pub all_filled : (rows : List ShownRow) (count : ℕ) (lanes : LaneList) → AreFilled rows count lanes → length rows ≤ count → lanes ≡ map lane_shown rows
all_filled rows count lanes are all =
    ext_get_or [] lanes (map lane_shown rows) (are.many ∙ sym (length-map rows lane_shown)) (λ k below. are.done k (omega (arith, below, are.many, all)))

-- ---- dies of listed cells

pub length-with_tops : (dies : List Die) (cells : List CellId) → length (with_tops dies cells) ≡ length dies
length-with_tops dies [] = refl
length-with_tops dies (cell ∷ cells) = length-with_tops (set dies cell.0 Top) cells ∙ length-set dies cell.0 Top

die_with : (dies : List Die) (cells : List CellId) (cell : ℕ) → cell < length dies
    → get_or (with_tops dies cells) cell Top ≡ cond (list_any (λ (top : CellId). top.0 == cell) cells) Top (get_or dies cell Top)
die_with dies [] cell below = refl
die_with dies (top ∷ cells) cell below =
    die_with (set dies top.0 Top) cells cell (omega (arith, below, length-set dies top.0 Top))
    ∙ by (top.0 == cell) refl (list_any (λ (t : CellId). t.0 == cell) cells)
  where
    equal : (a b : ℕ) → (a == b) ≡ true → a ≡ b
    equal a b is = grind (arith, nat_tests)

    differ : (a b : ℕ) → (a == b) ≡ false → b ≢ a
    differ a b other same = false≢true (sym other ∙ grind (arith, nat_tests))

    by : (b : Bool) → (top.0 == cell) ≡ b → (later : Bool)
        → cond later Top (get_or (set dies top.0 Top) cell Top) ≡ cond (b || later) Top (get_or dies cell Top)
    by true is true = refl
    by true is false =
        let number : top.0 ≡ cell = equal top.0 cell is in
        ap (λ n. get_or (set dies top.0 Top) n Top) (sym number) ∙ get_or-set_same dies top.0 Top Top (omega (arith, below, number))
    by false is true = refl
    by false is false = get_or-set_other dies top.0 cell Top Top (differ top.0 cell is)

-- the dies of a trial that lists the cells of the top die alone
pub dies_listed : (p : Netlist) (trial : ShownTrial) (dies : List Die) → has_rows trial.ending ≡ false → dies ≡ with_tops (replicate (length p.cells) Bottom) trial.top_cells
    → dies ≡ dies_shown p trial
unfolding dies_shown
dies_listed p trial dies rowless is =
    is
    ∙ fill_by_all (listed_die trial.top_cells) (with_tops (replicate (length p.cells) Bottom) trial.top_cells) (length p.cells) Top
    (length-with_tops (replicate (length p.cells) Bottom) trial.top_cells ∙ long (length p.cells) Bottom)
    (λ cell below.
    die_with (replicate (length p.cells) Bottom) trial.top_cells cell (omega (arith, below, long (length p.cells) Bottom))
    ∙ ap (cond (list_any (λ (top : CellId). top.0 == cell) trial.top_cells) Top) (get_or-replicate (length p.cells) cell Bottom Top below))
    ∙ ap (λ b. cond b (dies_of (places_shown p trial)) (map (listed_die trial.top_cells) (range_with_len 0 (length p.cells)))) (sym rowless)

-- the dies of a trial that placed its cells
pub dies_placed : (p : Netlist) (trial : ShownTrial) → has_rows trial.ending ≡ true → dies_shown p trial ≡ dies_of (places_shown p trial)
unfolding dies_shown
dies_placed p trial has = ap (λ b. cond b (dies_of (places_shown p trial)) (map (listed_die trial.top_cells) (range_with_len 0 (length p.cells)))) has

-- ---- terminals of lines

pub length-with_terminals : (grid : Slots) (cuts : List CutShown) (terminals : List (Option Point)) → length (with_terminals grid cuts terminals) ≡ length terminals
unfolding with_terminals
length-with_terminals grid [] terminals = refl
length-with_terminals grid (cut ∷ cuts) terminals = length-set (with_terminals grid cuts terminals) cut.net.0 (Some (centre_of grid cut.slot.0)) ∙ length-with_terminals grid cuts terminals

pub no_cuts : (grid : Slots) (terminals : List (Option Point)) → with_terminals grid [] terminals ≡ terminals
unfolding with_terminals
no_cuts grid terminals = refl

pub cut_before : (grid : Slots) (cut : CutShown) (cuts : List CutShown) (terminals : List (Option Point))
    → with_terminals grid (cut ∷ cuts) terminals ≡ set (with_terminals grid cuts terminals) cut.net.0 (Some (centre_of grid cut.slot.0))
unfolding with_terminals
cut_before grid cut cuts terminals = refl

-- a net has the slot of its first line
terminal_with : (grid : Slots) (cuts : List CutShown) (count net : ℕ) → net < count
    → get_or (with_terminals grid cuts (replicate count None)) net None ≡ terminal_by grid (find (λ (cut : CutShown). cut.net.0 == net) cuts)
unfolding with_terminals
terminal_with grid [] count net below = get_or-replicate count net None None below
terminal_with grid (cut ∷ cuts) count net below = by (cut.net.0 == net) refl (terminal_with grid cuts count net below)
  where
    equal : (a b : ℕ) → (a == b) ≡ true → a ≡ b
    equal a b is = grind (arith, nat_tests)

    differ : (a b : ℕ) → (a == b) ≡ false → b ≢ a
    differ a b other same = false≢true (sym other ∙ grind (arith, nat_tests))

    none : List (Option Point)
    none = replicate count None

    by : (b : Bool) → (cut.net.0 == net) ≡ b → get_or (with_terminals grid cuts (replicate count None)) net None ≡ terminal_by grid (find (λ (c : CutShown). c.net.0 == net) cuts)
        → get_or (set (with_terminals grid cuts (replicate count None)) cut.net.0 (Some (centre_of grid cut.slot.0))) net None
        ≡ terminal_by grid (cond b (Some cut) (find (λ (c : CutShown). c.net.0 == net) cuts))
    by true is later =
        let number : cut.net.0 ≡ net = equal cut.net.0 net is in
        let within : cut.net.0 < length (with_terminals grid cuts (replicate count None)) = omega (arith, below, number, length-with_terminals grid cuts (replicate count None), long {A = Option Point} count None) in
        ap (λ n. get_or (set (with_terminals grid cuts (replicate count None)) cut.net.0 (Some (centre_of grid cut.slot.0))) n None) (sym number)
        ∙ get_or-set_same (with_terminals grid cuts (replicate count None)) cut.net.0 (Some (centre_of grid cut.slot.0)) None within
    by false is later = get_or-set_other (with_terminals grid cuts (replicate count None)) cut.net.0 net (Some (centre_of grid cut.slot.0)) None (differ cut.net.0 net is) ∙ later

pub terminals_are : (p : Netlist) (grid : Slots) (trial : ShownTrial) → with_terminals grid trial.cuts (replicate (length p.nets) None) ≡ terminals_shown p grid trial
unfolding terminals_shown
terminals_are p grid trial =
    fill_by_all (λ net. terminal_by grid (find (λ (cut : CutShown). cut.net.0 == net) trial.cuts)) (with_terminals grid trial.cuts (replicate (length p.nets) None)) (length p.nets) None
    (length-with_terminals grid trial.cuts (replicate (length p.nets) None) ∙ long (length p.nets) None)
    (λ net below. terminal_with grid trial.cuts (length p.nets) net below)

-- the terminals of lines are in range
pub centres_with : (grid : Slots) (cuts : List CutShown) (terminals : List (Option Point)) → ((slot : ℕ) → slot < slot_count grid → IsCentre (centre_of grid slot))
    → ((k : ℕ) (cut : CutShown) → slice_get cuts k ≡ Some cut → cut.slot.0 < slot_count grid) → ((k : ℕ) (o : Option Point) → slice_get terminals k ≡ Some o → IfSome o IsCentre)
    → (k : ℕ) (o : Option Point) → slice_get (with_terminals grid cuts terminals) k ≡ Some o → IfSome o IsCentre
unfolding with_terminals
centres_with grid [] terminals in_range within each k o at = each k o at
centres_with grid (cut ∷ cuts) terminals in_range within each k o at =
    set_at (with_terminals grid cuts terminals) cut.net.0 (Some (centre_of grid cut.slot.0)) (in_range cut.slot.0 (within 0 cut refl))
    (centres_with grid cuts terminals in_range (λ j c there. within (suc j) c there) each) k o at
  where
    set_at : (list : List (Option Point)) (n : ℕ) (x : Option Point) → IfSome x IsCentre → ((j : ℕ) (y : Option Point) → slice_get list j ≡ Some y → IfSome y IsCentre)
        → (j : ℕ) (y : Option Point) → slice_get (set list n x) j ≡ Some y → IfSome y IsCentre
    set_at [] n x is each j y there = absurd cc
    set_at (first ∷ list) zero x is each zero y there = subst (λ o. IfSome o IsCentre) (same_Some x y there) is
    set_at (first ∷ list) zero x is each (suc j) y there = each (suc j) y there
    set_at (first ∷ list) (suc n) x is each zero y there = each 0 y there
    set_at (first ∷ list) (suc n) x is each (suc j) y there = set_at list n x is (λ i z at. each (suc i) z at) j y there

-- ---- a line of a loop more

pub drop_here : {A : Type 0} (list : List A) (n : ℕ) (d : A) → n < length list → drop n list ≡ get_or list n d ∷ drop (n + 1) list
drop_here [] n d below = absurd (omega (arith, below))
drop_here (x ∷ list) zero d below = refl
drop_here (x ∷ list) (suc n) d below =
    let next : suc (n + 1) ≡ suc n + 1 = omega arith in
    drop_here list n d (omega (arith, below)) ∙ ap (λ k. get_or list n d ∷ drop k (x ∷ list)) next

pub drop_past : {A : Type 0} (list : List A) (n : ℕ) → length list ≤ n → drop n list ≡ []
drop_past [] zero below = refl
drop_past [] (suc n) below = refl
drop_past (x ∷ list) zero below = absurd (omega (arith, below))
drop_past (x ∷ list) (suc n) below = drop_past list n (omega (arith, below))

-- no terminal is set at first,
pub none_set : (grid : Slots) (cuts : List CutShown) (placed : Placed) (k : ℕ) → length cuts ≤ k → placed ≡ record placed { terminals = with_terminals grid (drop k cuts) placed.terminals }
none_set grid cuts placed k past =
    ap (λ terminals. record placed { terminals = terminals }) (sym (ap (λ these. with_terminals grid these placed.terminals) (drop_past cuts k past) ∙ no_cuts grid placed.terminals))

-- and then one more, from the last line on
pub one_set : (grid : Slots) (cuts : List CutShown) (old now then_set : Placed) (n k : ℕ) (d : CutShown) (centre : Point) → k + (n + 1) ≡ length cuts
    → ((j : ℕ) → j + n ≡ length cuts → now ≡ record old { terminals = with_terminals grid (drop j cuts) old.terminals })
    → centre ≡ centre_of grid (get_or cuts (length cuts - 1 - n) d).slot.0
    → then_set ≡ record now { terminals = set now.terminals (get_or cuts (length cuts - 1 - n) d).net.0 (Some centre) }
    → then_set ≡ record old { terminals = with_terminals grid (drop k cuts) old.terminals }
one_set grid cuts old now then_set n k d centre many each centre_is is =
    let at : length cuts - 1 - n ≡ k = omega (arith, many) in
    let before = each (k + 1) (omega (arith, many)) in
    let slot : centre ≡ centre_of grid (get_or cuts k d).slot.0 = centre_is ∙ ap (λ place. centre_of grid (get_or cuts place d).slot.0) at in
    let all : with_terminals grid (get_or cuts k d ∷ drop (k + 1) cuts) old.terminals ≡ with_terminals grid (drop k cuts) old.terminals =
    ap (λ these. with_terminals grid these old.terminals) (sym (drop_here cuts k d (omega (arith, many)))) in
    is
    ∙ (λ i. record (before i) { terminals = set (before i).terminals (get_or cuts (at i) d).net.0 (Some (slot i)) })
    ∙ ap (λ terminals. record old { terminals = terminals }) (sym (cut_before grid (get_or cuts k d) (drop (k + 1) cuts) old.terminals) ∙ all)

-- a cell more at the end of a lane
set_again : {A : Type 0} (list : List A) (n : ℕ) (x y : A) → set (set list n x) n y ≡ set list n y
set_again [] n x y = refl
set_again (first ∷ list) zero x y = refl
set_again (first ∷ list) (suc n) x y = ap (λ rest. first ∷ rest) (set_again list n x y)

cells_more : (cells : List CellShown) (k : ℕ) (d : CellShown) → k < length cells
    → map (λ (cell : CellShown). cell.cell) (take k cells) ++ (get_or cells k d).cell ∷ [] ≡ map (λ (cell : CellShown). cell.cell) (take (k + 1) cells)
cells_more cells k d below = sym (ap (map (λ (cell : CellShown). cell.cell)) (take_more cells k d below) ∙ after (take k cells) (get_or cells k d))
  where
    after : (first : List CellShown) (last : CellShown) → map (λ (cell : CellShown). cell.cell) (first ++ last ∷ []) ≡ map (λ (cell : CellShown). cell.cell) first ++ last.cell ∷ []
    after [] last = refl
    after (cell ∷ first) last = ap (λ rest. cell.cell ∷ rest) (after first last)

pub lane_more : (old now pushed : LaneList) (segment seg : ℕ) (cells : List CellShown) (k : ℕ) (d : CellShown) → segment < length old → k < length cells → seg ≡ segment
    → now ≡ set old segment (get_or old segment [] ++ map (λ (cell : CellShown). cell.cell) (take k cells))
    → pushed ≡ set now seg (get_or now seg [] ++ (get_or cells k d).cell ∷ [])
    → pushed ≡ set old segment (get_or old segment [] ++ map (λ (cell : CellShown). cell.cell) (take (k + 1) cells))
lane_more old now pushed segment seg cells k d within below seg_is now_is is =
    is
    ∙ (λ i. set (now_is i) (seg_is i) (get_or (now_is i) (seg_is i) [] ++ (get_or cells k d).cell ∷ []))
    ∙ set_again old segment (get_or old segment [] ++ map (λ (cell : CellShown). cell.cell) (take k cells)) _
    ∙ ap (set old segment) (
    ap (λ lane. lane ++ (get_or cells k d).cell ∷ []) (get_or-set_same old segment (get_or old segment [] ++ map (λ (cell : CellShown). cell.cell) (take k cells)) [] within)
    ∙ append_assoc (get_or old segment []) (map (λ (cell : CellShown). cell.cell) (take k cells)) ((get_or cells k d).cell ∷ [])
    ∙ ap (λ lane. get_or old segment [] ++ lane) (cells_more cells k d below))

-- the view of a trial that lists the cells of the top die alone
pub rowless_is : (p : Netlist) (grid : Slots) (trial : ShownTrial) (view : View) (count : ℕ) (first : List Die) (tops : List CellId) → has_rows trial.ending ≡ false
    → first ≡ replicate count Bottom → count ≡ length p.cells → tops ≡ trial.top_cells → view.dies.items ≡ with_tops first tops → view.layout ≡ None → IsViewOf p grid trial view
rowless_is p grid trial view count first tops rowless bottoms many tops_are is none = record {
  many = ap length all ∙ length-with_tops (replicate (length p.cells) Bottom) trial.top_cells ∙ long (length p.cells) Bottom;
  dies_are = dies_listed p trial view.dies.items rowless all;
  layout_is = subst (λ (o : Option Layout). MatchOption o (has_rows trial.ending ≡ false) (IsLayoutOf p grid trial)) (sym none) rowless;
}
  where
    all : view.dies.items ≡ with_tops (replicate (length p.cells) Bottom) trial.top_cells
    all = is ∙ (λ i. with_tops (bottoms i) (tops_are i)) ∙ ap (λ n. with_tops (replicate n Bottom) trial.top_cells) many
