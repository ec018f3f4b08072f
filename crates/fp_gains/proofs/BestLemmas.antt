-- The best cell of both orders is the first whose move leaves the fewest nets cut.
use Rattle.std.proofs.Common.{◌≡◌, ℕ, ◌+◌, ◌<◌, ◌≤◌, ◌&&◌, not, nat_lt, Bool, true, false, IsTrue, Option, Some, None, List, length, get_or, if◌then◌else◌, refl, sym, ap, subst, ◌∙◌, inl, inr, ◌⊎◌, arith}
use Rattle.std.specs.Option.{option_map}
use Rattle.std.proofs.lemmas.Bool.{and_parts, and_from, cases_lt, lt-ltb, ltb-true}
use Rattle.fp_base.specs.declared.ids.Die.{Die}
use Rattle.fp_base.specs.declared.ids.Die.TheVariants.{Top, Bottom}
use Rattle.fp_netlist.specs.Netlist.{Netlist}
use Rattle.fp_place.specs.Areas.{fits}
use Rattle.fp_place.specs.Held.{Held, has_room}
use Rattle.fp_place.specs.Places.{die_at, same_die, other_die}
use Rattle.fp_place.specs.Cut.{cut}
use Rattle.fp_place.specs.FirstLeast.{IsFirstLeast, NonePasses, first_least_some, none_least}
use Rattle.fp_place.specs.Settled.{far_die, flipped, is_moved, first_least}
use Rattle.fp_gains.specs.declared.tournament.Leader.{Leader}
use Rattle.fp_gains.specs.declared.state.State.{State}
use Rattle.fp_gains.specs.Contests.{IsBehind, IsBetter}
use Rattle.fp_gains.specs.Ordered.{Ordered, is_in, key_of, is_open, IsOrderOf, IsBestCell, IsBestOf}
use Rattle.fp_gains.specs.Gained.{Gained, IsGainsOf, is_movable}
use Rattle.fp_gains.specs.Kept.{even, is_free, free_key, Shows, IsKept, gained_of}
use Rattle.fp_gains.proofs.CutLemmas.{key_tells}
use Rattle.fp_gains.proofs.StateLemmas.{key_small}

-- a cell that an order shows is free to move to its die
free_parts : (dies : List Die) (locked : List Bool) (die : Die) (cell : ℕ) → is_free dies locked die cell ≡ true → (not (is_moved locked cell) ≡ true) × (far_die dies cell ≡ die)
free_parts dies locked die cell free = (parts.0, by (die_at dies cell) die parts.1)
  where
    parts : (not (is_moved locked cell) ≡ true) × (not (same_die (die_at dies cell) die) ≡ true)
    parts = and_parts (not (is_moved locked cell)) (not (same_die (die_at dies cell) die)) free

    by : (here there : Die) → not (same_die here there) ≡ true → other_die here ≡ there
    by Top Top e = absurd (let nothing : false ≡ true = e in cc)
    by Top Bottom e = refl
    by Bottom Top e = refl
    by Bottom Bottom e = absurd (let nothing : false ≡ true = e in cc)

not_same : (here there : Die) → other_die here ≡ there → not (same_die here there) ≡ true
not_same Top there e = subst (λ d. not (same_die Top d) ≡ true) e refl
not_same Bottom there e = subst (λ d. not (same_die Bottom d) ≡ true) e refl

-- what a key above 0 tells
pub record IsShownFree (dies : List Die) (locked : List Bool) (keys : List ℕ) (die : Die) (o : Ordered) (cell : ℕ) : Type 0 where
  pub free : is_free dies locked die cell ≡ true
  pub key : key_of o cell ≡ get_or keys cell 0

keyed_free : (dies : List Die) (locked : List Bool) (keys : List ℕ) (die : Die) (o : Ordered) (cell : ℕ) → Shows dies locked keys die o cell → 0 < key_of o cell → IsShownFree dies locked keys die o cell
keyed_free dies locked keys die o cell shows some = by (is_in o cell) (is_free dies locked die cell) refl shows
  where
    by : (a b : Bool) → is_free dies locked die cell ≡ b → key_of o cell ≡ (if a then (if b then get_or keys cell 0 else 0) else 0) → IsShownFree dies locked keys die o cell
    by true true free is = record { free = free; key = is }
    by true false free is = absurd (omega (arith, is))
    by false b free is = absurd (omega (arith, is))

-- an open cell of an order, as a cell that may move
pub record IsOpen (p : Netlist) (held : Held) (g : Gained) (keys : List ℕ) (die : Die) (o : Ordered) (cell : ℕ) : Type 0 where
  pub movable : is_movable p held g cell ≡ true
  pub far : far_die g.dies cell ≡ die
  pub key : key_of o cell ≡ get_or keys cell 0

pub open_moves : (p : Netlist) (held : Held) (g : Gained) (keys : List ℕ) (die : Die) (o : Ordered) (cell : ℕ) → IsOrderOf p die o → Shows g.dies g.locked keys die o cell → IsTrue (is_open p held o cell)
    → IsOpen p held g keys die o cell
open_moves p held g keys die o cell order shows opens =
    let parts = and_parts (nat_lt 0 (key_of o cell)) (fits p cell o.die && has_room p held cell o.die) opens in
    let shown = keyed_free g.dies g.locked keys die o cell shows (ltb-true 0 (key_of o cell) parts.0) in
    let free = free_parts g.dies g.locked die cell shown.free in
    record {
      movable = and_from (not (is_moved g.locked cell)) (fits p cell (far_die g.dies cell) && has_room p held cell (far_die g.dies cell)) free.0
          (subst (λ d. (fits p cell d && has_room p held cell d) ≡ true) (order.die_is ∙ sym free.1) parts.1);
      far = free.1;
      key = shown.key;
    }

-- and the other way
pub record OpensAt (p : Netlist) (held : Held) (keys : List ℕ) (o : Ordered) (cell : ℕ) : Type 0 where
  pub opens : IsTrue (is_open p held o cell)
  pub key : key_of o cell ≡ get_or keys cell 0

pub moves_open : (p : Netlist) (held : Held) (g : Gained) (keys : List ℕ) (die : Die) (o : Ordered) (cell : ℕ) → IsOrderOf p die o → Shows g.dies g.locked keys die o cell → cell < length p.cells
    → is_movable p held g cell ≡ true → far_die g.dies cell ≡ die → 0 < get_or keys cell 0 → OpensAt p held keys o cell
moves_open p held g keys die o cell order shows within movable far some =
    let parts = and_parts (not (is_moved g.locked cell)) (fits p cell (far_die g.dies cell) && has_room p held cell (far_die g.dies cell)) movable in
    let there : (fits p cell o.die && has_room p held cell o.die) ≡ true = subst (λ d. (fits p cell d && has_room p held cell d) ≡ true) (far ∙ sym order.die_is) parts.1 in
    let fitting : fits p cell die ≡ true = subst (λ d. fits p cell d ≡ true) order.die_is (and_parts (fits p cell o.die) (has_room p held cell o.die) there).0 in
    let free : is_free g.dies g.locked die cell ≡ true = and_from (not (is_moved g.locked cell)) (not (same_die (die_at g.dies cell) die)) parts.0 (not_same (die_at g.dies cell) die far) in
    let key : key_of o cell ≡ get_or keys cell 0 = shows ∙ ap (λ b. if b then free_key g.dies g.locked keys die cell else 0) (order.fitting cell within ∙ fitting) ∙ ap (λ b. if b then get_or keys cell 0 else 0) free in
    record {
      opens = and_from (nat_lt 0 (key_of o cell)) (fits p cell o.die && has_room p held cell o.die) (lt-ltb 0 (key_of o cell) (omega (arith, key))) there;
      key = key;
    }

-- no open cell of an order is better than a leader
pub record LeadsAll (p : Netlist) (held : Held) (o : Ordered) (leader : Leader) : Type 0 where
  pub greatest : (cell : ℕ) → cell < length p.cells → IsTrue (is_open p held o cell) → key_of o cell ≤ leader.key
  pub first : (cell : ℕ) → cell < length p.cells → IsTrue (is_open p held o cell) → key_of o cell ≡ leader.key → leader.cell.0 ≤ cell

leads_none : (p : Netlist) (held : Held) (o : Ordered) (leader : Leader) → IsBestOf p held o None → LeadsAll p held o leader
leads_none p held o leader none = record { greatest = λ cell within opens. absurd (none cell within opens); first = λ cell within opens. absurd (none cell within opens) }

leads_own : (p : Netlist) (held : Held) (o : Ordered) (leader : Leader) → IsBestCell p held o leader → LeadsAll p held o leader
leads_own p held o leader is = record { greatest = is.greatest; first = is.first }

leads_behind : (p : Netlist) (held : Held) (o : Ordered) (best leader : Leader) → IsBestCell p held o best → IsBehind best leader → LeadsAll p held o leader
leads_behind p held o best leader is behind = record {
  greatest = λ cell within opens. omega (arith, is.greatest cell within opens, behind.key);
  first = λ cell within opens same.
      let here : key_of o cell ≡ best.key = omega (arith, is.greatest cell within opens, behind.key) in
      omega (arith, is.first cell within opens here, behind.cell (omega arith));
}

-- the leader of both orders
pub record IsChosen (p : Netlist) (held : Held) (g : Gained) (keys : List ℕ) (leader : Leader) : Type 0 where
  pub within : leader.cell.0 < length p.cells
  pub movable : is_movable p held g leader.cell.0 ≡ true
  pub key : leader.key ≡ get_or keys leader.cell.0 0
  pub top : LeadsAll p held g.top_order leader
  pub bottom : LeadsAll p held g.bottom_order leader

-- gains as a search for the best cell sees them
pub record IsRead (p : Netlist) (g : Gained) (keys : List ℕ) : Type 0 where
  pub of_problem : IsGainsOf p g
  pub top : (cell : ℕ) → cell < length p.cells → Shows g.dies g.locked keys Top g.top_order cell
  pub bottom : (cell : ℕ) → cell < length p.cells → Shows g.dies g.locked keys Bottom g.bottom_order cell
  pub some : (cell : ℕ) → cell < length p.cells → 0 < get_or keys cell 0
  pub tells : (cell : ℕ) → cell < length p.cells → get_or keys cell 0 + cut p (flipped g.dies cell) ≡ even + cut p g.dies

chosen_of : (p : Netlist) (held : Held) (g : Gained) (keys : List ℕ) (die : Die) (o : Ordered) (leader : Leader) → IsOrderOf p die o → ((cell : ℕ) → cell < length p.cells → Shows g.dies g.locked keys die o cell)
    → IsBestCell p held o leader → LeadsAll p held g.top_order leader → LeadsAll p held g.bottom_order leader → IsChosen p held g keys leader
chosen_of p held g keys die o leader order shows is top bottom =
    let at = open_moves p held g keys die o leader.cell.0 order (shows leader.cell.0 is.within) is.opens in
    record { within = is.within; movable = at.movable; key = sym is.key ∙ at.key; top = top; bottom = bottom }

two_dies : (die : Die) → (die ≡ Top) ⊎ (die ≡ Bottom)
two_dies Top = inl refl
two_dies Bottom = inr refl

-- a movable cell is no better than the leader
beaten : (p : Netlist) (held : Held) (g : Gained) (keys : List ℕ) (leader : Leader) (cell : ℕ) → IsRead p g keys → IsChosen p held g keys leader → cell < length p.cells → is_movable p held g cell ≡ true
    → (get_or keys cell 0 ≤ leader.key) × (get_or keys cell 0 ≡ leader.key → leader.cell.0 ≤ cell)
beaten p held g keys leader cell read chosen within movable = elim (two_dies (far_die g.dies cell)) [
  | inl far ↦
      let at = moves_open p held g keys Top g.top_order cell read.of_problem.top (read.top cell within) within movable far (read.some cell within) in
      (omega (arith, at.key, chosen.top.greatest cell within at.opens), λ same. chosen.top.first cell within at.opens (at.key ∙ same))
  | inr far ↦
      let at = moves_open p held g keys Bottom g.bottom_order cell read.of_problem.bottom (read.bottom cell within) within movable far (read.some cell within) in
      (omega (arith, at.key, chosen.bottom.greatest cell within at.opens), λ same. chosen.bottom.first cell within at.opens (at.key ∙ same))
]

pub chosen_first : (p : Netlist) (held : Held) (g : Gained) (keys : List ℕ) (leader : Leader) → IsRead p g keys → IsChosen p held g keys leader
    → IsFirstLeast (is_movable p held g) (λ cell. cut p (flipped g.dies cell)) (length p.cells) leader.cell.0
chosen_first p held g keys leader read chosen = record {
  in_range = chosen.within;
  passing = chosen.movable;
  least = λ cell within movable.
      let is = beaten p held g keys leader cell read chosen within movable in
      omega (arith, is.0, chosen.key, read.tells cell within, read.tells leader.cell.0 chosen.within);
  first = λ cell before movable.
      let within : cell < length p.cells = omega (arith, chosen.within) in
      let is = beaten p held g keys leader cell read chosen within movable in
      elim (cases_lt (get_or keys cell 0) leader.key) [
        | inl less ↦ omega (arith, less, chosen.key, read.tells cell within, read.tells leader.cell.0 chosen.within)
        | inr ge ↦
            let same : get_or keys cell 0 ≡ leader.key = omega (arith, is.0) in
            absurd (omega (arith, is.1 same))
      ];
}

none_movable : (p : Netlist) (held : Held) (g : Gained) (keys : List ℕ) → IsRead p g keys → IsBestOf p held g.top_order None → IsBestOf p held g.bottom_order None
    → NonePasses (is_movable p held g) (length p.cells)
none_movable p held g keys read no_top no_bottom = record { fails = λ cell within. by cell within (is_movable p held g cell) refl }
  where
    by : (cell : ℕ) → cell < length p.cells → (b : Bool) → is_movable p held g cell ≡ b → b ≡ false
    by cell within false e = refl
    by cell within true movable = absurd (elim (two_dies (far_die g.dies cell)) [
      | inl far ↦ no_top cell within (moves_open p held g keys Top g.top_order cell read.of_problem.top (read.top cell within) within movable far (read.some cell within)).opens
      | inr far ↦ no_bottom cell within (moves_open p held g keys Bottom g.bottom_order cell read.of_problem.bottom (read.bottom cell within) within movable far (read.some cell within)).opens
    ])

-- the number of a leader's cell
abbrev pub number_of : Option Leader → Option ℕ
number_of best = option_map (λ (leader : Leader). leader.cell.0) best

pub best_is_first : (p : Netlist) (held : Held) (g : Gained) (keys : List ℕ) (top bottom best : Option Leader) → IsRead p g keys → IsBestOf p held g.top_order top → IsBestOf p held g.bottom_order bottom
    → IsBetter top bottom best → number_of best ≡ first_least (is_movable p held g) (λ cell. cut p (flipped g.dies cell)) (length p.cells)
best_is_first p held g keys None None best read no_top no_bottom is =
    ap number_of is ∙ sym (none_least (is_movable p held g) (λ cell. cut p (flipped g.dies cell)) (length p.cells) (none_movable p held g keys read no_top no_bottom))
best_is_first p held g keys None (Some other) best read no_top best_bottom is =
    let chosen = chosen_of p held g keys Bottom g.bottom_order other read.of_problem.bottom read.bottom best_bottom (leads_none p held g.top_order other no_top) (leads_own p held g.bottom_order other best_bottom) in
    ap number_of is ∙ sym (first_least_some (is_movable p held g) (λ cell. cut p (flipped g.dies cell)) (length p.cells) other.cell.0 (chosen_first p held g keys other read chosen))
best_is_first p held g keys (Some one) None best read best_top no_bottom is =
    let chosen = chosen_of p held g keys Top g.top_order one read.of_problem.top read.top best_top (leads_own p held g.top_order one best_top) (leads_none p held g.bottom_order one no_bottom) in
    ap number_of is ∙ sym (first_least_some (is_movable p held g) (λ cell. cut p (flipped g.dies cell)) (length p.cells) one.cell.0 (chosen_first p held g keys one read chosen))
best_is_first p held g keys (Some one) (Some other) best read best_top best_bottom (leader, is, won) =
    ap number_of is
    ∙ sym (first_least_some (is_movable p held g) (λ cell. cut p (flipped g.dies cell)) (length p.cells) leader.cell.0 (chosen_first p held g keys leader read (chosen won.among)))
  where
    top : LeadsAll p held g.top_order leader
    top = leads_behind p held g.top_order one leader best_top won.one_behind

    bottom : LeadsAll p held g.bottom_order leader
    bottom = leads_behind p held g.bottom_order other leader best_bottom won.other_behind

    chosen : (leader ≡ one) ⊎ (leader ≡ other) → IsChosen p held g keys leader
    chosen (inl same) = chosen_of p held g keys Top g.top_order leader read.of_problem.top read.top (subst (IsBestCell p held g.top_order) (sym same) best_top) top bottom
    chosen (inr same) = chosen_of p held g keys Bottom g.bottom_order leader read.of_problem.bottom read.bottom (subst (IsBestCell p held g.bottom_order) (sym same) best_bottom) top bottom

-- as they are kept
pub kept_read : (p : Netlist) (members nets : List (List ℕ)) (s : State) → IsKept members nets s → IsGainsOf p (gained_of members s) → IsRead p (gained_of members s) s.ranks.keys.items
kept_read p members nets s kept is = record {
  of_problem = is;
  top = λ cell less. kept.ranked.shown.top cell (omega (arith, is.cells));
  bottom = λ cell less. kept.ranked.shown.bottom cell (omega (arith, is.cells));
  some = λ cell less. let small = key_small members s.dies.items s.sides.items s.ranks.keys.items kept.ranked.weighed kept.members_are.few_nets cell (omega (arith, is.cells)) in omega (arith, small.0);
  tells = λ cell less. key_tells p (gained_of members s) s.sides.items s.ranks.keys.items (length s.dies.items) cell is kept.members_are kept.ranked.weighed kept.counted (omega (arith, is.cells));
}

pub kept_best : (p : Netlist) (held : Held) (members nets : List (List ℕ)) (s : State) (g : Gained) (top bottom best : Option Leader) → IsKept members nets s → gained_of members s ≡ g → IsGainsOf p g
    → IsBestOf p held s.ranks.top top → IsBestOf p held s.ranks.bottom bottom → IsBetter top bottom best
    → number_of best ≡ first_least (is_movable p held g) (λ cell. cut p (flipped g.dies cell)) (length p.cells)
kept_best p held members nets s g top bottom best kept view is best_top best_bottom better =
    let P : Gained → Type 0 = λ h. IsGainsOf p h → number_of best ≡ first_least (is_movable p held h) (λ cell. cut p (flipped h.dies cell)) (length p.cells) in
    subst P view (λ is. best_is_first p held (gained_of members s) s.ranks.keys.items top bottom best (kept_read p members nets s kept is) best_top best_bottom better) is
