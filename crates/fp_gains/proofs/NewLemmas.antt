-- Gains as they begin: all cells locked and no cell of a net counted, then counted, then unlocked.
use Rattle.std.proofs.Common.{◌≡◌, ℕ, zero, suc, ◌<◌, Bool, true, false, not, ◌&&◌, List, [], ◌∷◌, length, replicate, map, get_or, if◌then◌else◌, refl, sym, ap, subst, ◌∙◌, arith}
use Rattle.std.proofs.lemmas.List.{length-replicate, get_or-replicate}
use Rattle.fp_base.specs.declared.ids.Die.{Die}
use Rattle.fp_base.specs.declared.ids.Die.TheVariants.{Top, Bottom}
use Rattle.fp_netlist.specs.Netlist.{Netlist}
use Rattle.fp_place.specs.Places.{die_at, same_die}
use Rattle.fp_place.specs.Settled.{is_moved}
use Rattle.fp_gains.specs.declared.state.State.{State}
use Rattle.fp_gains.specs.Links.{AreCellsByNet, AreMembers, AreLinks}
use Rattle.fp_gains.specs.Sides.{no_sides}
use Rattle.fp_gains.specs.Ordered.{Ordered, is_in, key_of, IsNewOrder}
use Rattle.fp_gains.specs.Kept.{even, shares, degree, free_key, Shows, AreCounted, IsStart, IsLaid, IsRanked, IsKept}
use Rattle.fp_gains.proofs.WeightLemmas.{shares_none}

-- a locked cell is shown nowhere
shows_none : (dies : List Die) (locked : List Bool) (keys : List ℕ) (die : Die) (o : Ordered) (cell : ℕ) → is_moved locked cell ≡ true → key_of o cell ≡ 0 → Shows dies locked keys die o cell
shows_none dies locked keys die o cell is none = none ∙ sym (by (is_in o cell))
  where
    free : free_key dies locked keys die cell ≡ 0
    free = ap (λ b. if not b && not (same_die (die_at dies cell) die) then get_or keys cell 0 else 0) is

    by : (b : Bool) → (if b then free_key dies locked keys die cell else 0) ≡ 0
    by true = free
    by false = refl

-- cells that lie are ranked
pub laid_ranked : (members : List (List ℕ)) (dies : List Die) (nets : ℕ) (s : State) → IsLaid dies nets s → nets ≡ length members → IsRanked members s
laid_ranked members dies nets s is same = record {
  weighed = record {
    all_cells = all_keys;
    all_nets = ap length is.sides ∙ length-replicate nets no_sides ∙ same;
    each = λ cell less.
        let key : get_or s.ranks.keys.items cell 0 ≡ even = ap (λ ks. get_or ks cell 0) is.keys ∙ get_or-replicate (length dies) cell even 0 (omega (arith, many)) in
        let sides : s.sides.items ≡ replicate (length members) no_sides = is.sides ∙ ap (λ n. replicate n no_sides) same in
        let none : shares (die_at s.dies.items cell) cell members s.sides.items ≡ degree cell members = ap (shares (die_at s.dies.items cell) cell members) sides ∙ shares_none (die_at s.dies.items cell) cell members in
        omega (arith, key, none);
  };
  shown = record {
    all_cells = all_keys;
    all_locks = ap length is.locked ∙ length-replicate (length dies) true ∙ sym many;
    all_top = is.all_top ∙ sym many;
    all_bottom = is.all_bottom ∙ sym many;
    all_listed = is.all_listed ∙ sym many;
    top = λ cell less. shows_none s.dies.items s.locked.items s.ranks.keys.items Top s.ranks.top cell (all_locked cell less) (is.top_none cell (omega (arith, many)));
    bottom = λ cell less. shows_none s.dies.items s.locked.items s.ranks.keys.items Bottom s.ranks.bottom cell (all_locked cell less) (is.bottom_none cell (omega (arith, many)));
  };
}
  where
    many : length s.dies.items ≡ length dies
    many = ap length is.dies_are

    all_keys : length s.ranks.keys.items ≡ length s.dies.items
    all_keys = ap length is.keys ∙ length-replicate (length dies) even ∙ sym many

    all_locked : (cell : ℕ) → cell < length s.dies.items → is_moved s.locked.items cell ≡ true
    all_locked cell less = ap (λ ls. is_moved ls cell) is.locked ∙ get_or-replicate (length dies) cell true false (omega (arith, many))

-- a new state is laid
no_key : (p : Netlist) (die : Die) (o : Ordered) → IsNewOrder p die o → (cell : ℕ) → cell < length p.cells → key_of o cell ≡ 0
no_key p die o new cell less = ap (λ ks. get_or ks cell 0) new.zeros ∙ get_or-replicate (length p.cells) cell 0 0 less

pub start_laid : (p : Netlist) (dies : List Die) (s : State) → IsStart p dies s → length dies ≡ length p.cells → IsLaid dies (length p.nets) s
start_laid p dies s is cells = record {
  dies_are = is.dies_are;
  locked = is.locked;
  sides = is.sides;
  keys = is.keys;
  all_top = is.top.order.keys ∙ sym cells;
  all_bottom = is.bottom.order.keys ∙ sym cells;
  all_listed = is.listed;
  top_none = λ cell less. no_key p Top s.ranks.top is.top cell (omega (arith, cells));
  bottom_none = λ cell less. no_key p Bottom s.ranks.bottom is.bottom cell (omega (arith, cells));
}

pub start_ranked : (p : Netlist) (members : List (List ℕ)) (dies : List Die) (s : State) → IsStart p dies s → AreCellsByNet p members → length dies ≡ length p.cells → IsRanked members s
start_ranked p members dies s is are cells = laid_ranked members dies (length p.nets) s (start_laid p dies s is cells) (sym are.all_nets)

-- one value for all
pub all_one : (n : ℕ) (one other : Bool) → map (λ (b : Bool). one) (replicate n other) ≡ replicate n one
all_one zero one other = refl
all_one (suc n) one other = ap (λ bs. one ∷ bs) (all_one n one other)

pub all_same : (bools : List Bool) (one : Bool) → map (λ (b : Bool). one) bools ≡ replicate (length bools) one
all_same [] one = refl
all_same (b ∷ bools) one = ap (λ bs. one ∷ bs) (all_same bools one)

-- what is ranked and counted on dies of as many cells is kept
pub ranked_kept : (members nets : List (List ℕ)) (n : State) (cells : ℕ) → AreMembers members cells → AreLinks members nets cells → length n.dies.items ≡ cells → IsRanked members n
    → AreCounted members n.dies.items n.sides.items → IsKept members nets n
ranked_kept members nets n cells are links many ranked counted = record {
  members_are = subst (AreMembers members) (sym many) are;
  links = subst (AreLinks members nets) (sym many) links;
  ranked = ranked;
  counted = counted;
}
