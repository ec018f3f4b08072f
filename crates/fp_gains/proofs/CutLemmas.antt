-- The number of cut nets, by the cells of each net, and what the move of one cell makes of it.
use Rattle.std.proofs.Common.{◌≡◌, ◌≢◌, ◌==◌, ℕ, zero, suc, ◌+◌, ◌-◌, ◌<◌, ◌≤◌, ◌&&◌, ◌||◌, nat_lt, ℤ, pos, ◌+ℤ◌, Bool, true, false, cond, List, [], ◌∷◌, ◌++◌, length, take, get_or, map, if◌then◌else◌, refl, sym, ap, subst, ◌∙◌, arith}
use Rattle.std.specs.List.{list_any, count_by, AllByRecursion, IsDistinct}
use Rattle.std.proofs.lemmas.List.{take_more, take_all, get_or_default, get_or-set_same, get_or-set_other}
use Rattle.std.proofs.lemmas.List.Sums.{sum_by-cons}
use Rattle.std.proofs.lemmas.Map.Keys.{IsDistinct-head, IsDistinct-tail}
use Rattle.std.proofs.lemmas.Int.{ints}
use Rattle.std.proofs.lemmas.Bool.Decides.{nat_tests}
use Rattle.fp_base.specs.declared.ids.Die.{Die}
use Rattle.fp_base.specs.declared.ids.Die.TheVariants.{Top, Bottom}
use Rattle.fp_netlist.specs.Netlist.{Netlist, conns_of_net}
use Rattle.fp_place.specs.Places.{die_at, same_die, other_die}
use Rattle.fp_place.specs.Cut.{conn_at, touches, is_cut, cut_below, cut}
use Rattle.fp_place.specs.Settled.{far_die, flipped}
use Rattle.fp_gains.specs.declared.sides.Sides.{Sides}
use Rattle.fp_gains.specs.declared.state.State.{State}
use Rattle.fp_gains.specs.Lists.{list_at}
use Rattle.fp_gains.specs.Links.{holds, cells_of, cells_of_net, AreMembers}
use Rattle.fp_gains.specs.Sides.{on_die, sides_of, count_on, moved, cut_now, share_by, share}
use Rattle.fp_gains.specs.Kept.{even, shares, degree, AreCounted, AreWeighed, IsKept, gained_of}
use Rattle.fp_gains.specs.Gained.{Gained, IsGainsOf}
use Rattle.fp_gains.proofs.HoldLemmas.{any_distinct}
use Rattle.fp_gains.proofs.WeightLemmas.{counted_is}

-- one or nothing
abbrev pub unit : Bool → ℕ
unit b = if b then 1 else 0

-- of a net's cells, how many stand on a die, cell by cell
pub on_die-cons : (dies : List Die) (die : Die) (cell : ℕ) (cells : List ℕ) → on_die dies die (cell ∷ cells) ≡ unit (same_die (die_at dies cell) die) + on_die dies die cells
on_die-cons dies die cell cells = sum_by-cons (λ c. cond (same_die (die_at dies c) die) 1 0) cell cells

pub on_die_some : (test : ℕ → Bool) (cells : List ℕ) → nat_lt 0 (count_by test cells) ≡ list_any test cells
on_die_some test [] = refl
on_die_some test (cell ∷ cells) =
    ap (nat_lt 0) (sum_by-cons (λ c. cond (test c) 1 0) cell cells) ∙ by (test cell) (on_die_some test cells)
  where
    by : (b : Bool) → nat_lt 0 (count_by test cells) ≡ list_any test cells → nat_lt 0 (cond b 1 0 + count_by test cells) ≡ (b || list_any test cells)
    by true rest = grind (arith, nat_tests)
    by false rest = ap (nat_lt 0) (let none : 0 + count_by test cells ≡ count_by test cells = omega arith in none) ∙ rest

-- a move changes the die of one cell alone
pub flipped_here : (dies : List Die) (cell : ℕ) → cell < length dies → die_at (flipped dies cell) cell ≡ far_die dies cell
flipped_here dies cell within = get_or-set_same dies cell (far_die dies cell) Top within

pub flipped_there : (dies : List Die) (cell other : ℕ) → other ≢ cell → die_at (flipped dies cell) other ≡ die_at dies other
flipped_there dies cell other differs = get_or-set_other dies cell other (far_die dies cell) Top differs

differ : (a b : ℕ) → (a == b) ≡ false → b ≢ a
differ a b e same = grind (arith, nat_tests)

equal : (a b : ℕ) → (a == b) ≡ true → b ≡ a
equal a b e = grind (arith, nat_tests)

-- a move of a cell that is no member
pub on_die_stays : (dies : List Die) (x : ℕ) (die : Die) (cells : List ℕ) → holds cells x ≡ false → on_die (flipped dies x) die cells ≡ on_die dies die cells
on_die_stays dies x die [] out = refl
on_die_stays dies x die (cell ∷ cells) out =
    on_die-cons (flipped dies x) die cell cells
    ∙ by (x == cell) refl out (λ o. on_die_stays dies x die cells o)
    ∙ sym (on_die-cons dies die cell cells)
  where
    by : (b : Bool) → (x == cell) ≡ b → (b || holds cells x) ≡ false → (holds cells x ≡ false → on_die (flipped dies x) die cells ≡ on_die dies die cells)
        → unit (same_die (die_at (flipped dies x) cell) die) + on_die (flipped dies x) die cells ≡ unit (same_die (die_at dies cell) die) + on_die dies die cells
    by true e out rest = absurd (let nothing : true ≡ false = out in cc)
    by false e out rest =
        ap (λ d. unit (same_die d die) + on_die (flipped dies x) die cells) (flipped_there dies x cell (differ x cell e))
        ∙ ap (λ n. unit (same_die (die_at dies cell) die) + n) (rest out)

-- a distinct list does not hold its first again
first_once : (x : ℕ) (cells : List ℕ) → IsDistinct (λ a b. a == b) (x ∷ cells) → holds cells x ≡ false
first_once x cells once = none cells (IsDistinct-head (λ a b. a == b) x cells once)
  where
    none : (cells : List ℕ) → AllByRecursion (λ y. (x == y) ≡ false) cells → holds cells x ≡ false
    none [] all = refl
    none (c ∷ cs) (here, later) = ap (λ b. b || holds cs x) here ∙ none cs later

-- a move of a member: one less where it stood, one more on the other die
pub on_die_moves : (dies : List Die) (x : ℕ) (die : Die) (cells : List ℕ) → x < length dies → IsDistinct (λ a b. a == b) cells → holds cells x ≡ true
    → on_die (flipped dies x) die cells + unit (same_die (die_at dies x) die) ≡ on_die dies die cells + unit (same_die (far_die dies x) die)
on_die_moves dies x die [] within once in_it = absurd (let nothing : false ≡ true = in_it in cc)
on_die_moves dies x die (cell ∷ cells) within once in_it =
    by (x == cell) refl in_it (on_die-cons (flipped dies x) die cell cells) (on_die-cons dies die cell cells) (λ o. on_die_moves dies x die cells within (IsDistinct-tail (λ a b. a == b) cell cells once) o)
  where
    here : cell ≡ x → on_die (flipped dies x) die cells ≡ on_die dies die cells
    here same = on_die_stays dies x die cells (ap (holds cells) (sym same) ∙ first_once cell cells once)

    by : (b : Bool) → (x == cell) ≡ b → (b || holds cells x) ≡ true
        → on_die (flipped dies x) die (cell ∷ cells) ≡ unit (same_die (die_at (flipped dies x) cell) die) + on_die (flipped dies x) die cells
        → on_die dies die (cell ∷ cells) ≡ unit (same_die (die_at dies cell) die) + on_die dies die cells
        → (holds cells x ≡ true → on_die (flipped dies x) die cells + unit (same_die (die_at dies x) die) ≡ on_die dies die cells + unit (same_die (far_die dies x) die))
        → on_die (flipped dies x) die (cell ∷ cells) + unit (same_die (die_at dies x) die) ≡ on_die dies die (cell ∷ cells) + unit (same_die (far_die dies x) die)
    by true e in_it new old rest =
        let same : cell ≡ x = equal x cell e in
        let die_new : unit (same_die (die_at (flipped dies x) cell) die) ≡ unit (same_die (far_die dies x) die) = ap (λ d. unit (same_die d die)) (ap (die_at (flipped dies x)) same ∙ flipped_here dies x within) in
        let die_old : unit (same_die (die_at dies cell) die) ≡ unit (same_die (die_at dies x) die) = ap (λ c. unit (same_die (die_at dies c) die)) same in
        omega (arith, new, old, die_new, die_old, here same)
    by false e in_it new old rest =
        let die_same : unit (same_die (die_at (flipped dies x) cell) die) ≡ unit (same_die (die_at dies cell) die) = ap (λ d. unit (same_die d die)) (flipped_there dies x cell (differ x cell e)) in
        omega (arith, new, old, die_same, rest in_it)

two_sides : (a b c d : ℕ) → a ≡ b → c ≡ d → ◌≡◌ {A = Sides} (record { top = a; bottom = c }) (record { top = b; bottom = d })
two_sides a b c d e f = ap (λ t. record { top = t; bottom = c }) e ∙ ap (λ u. record { top = b; bottom = u }) f

-- so its net's numbers of cells are those after the move
pub sides_move : (dies : List Die) (x : ℕ) (cells : List ℕ) → x < length dies → IsDistinct (λ a b. a == b) cells → holds cells x ≡ true
    → (0 < count_on (sides_of dies cells) (die_at dies x)) × (sides_of (flipped dies x) cells ≡ moved (sides_of dies cells) (die_at dies x))
sides_move dies x cells within once in_it =
    by (die_at dies x) (on_die_moves dies x Top cells within once in_it) (on_die_moves dies x Bottom cells within once in_it)
  where
    by : (d : Die)
        → on_die (flipped dies x) Top cells + unit (same_die d Top) ≡ on_die dies Top cells + unit (same_die (other_die d) Top)
        → on_die (flipped dies x) Bottom cells + unit (same_die d Bottom) ≡ on_die dies Bottom cells + unit (same_die (other_die d) Bottom)
        → (0 < count_on (sides_of dies cells) d) × (sides_of (flipped dies x) cells ≡ moved (sides_of dies cells) d)
    by Top top bottom =
        (omega arith, two_sides (on_die (flipped dies x) Top cells) (on_die dies Top cells - 1) (on_die (flipped dies x) Bottom cells) (on_die dies Bottom cells + 1) (omega arith) (omega arith))
    by Bottom top bottom =
        (omega arith, two_sides (on_die (flipped dies x) Top cells) (on_die dies Top cells + 1) (on_die (flipped dies x) Bottom cells) (on_die dies Bottom cells - 1) (omega arith) (omega arith))

pub sides_stay : (dies : List Die) (x : ℕ) (cells : List ℕ) → holds cells x ≡ false → sides_of (flipped dies x) cells ≡ sides_of dies cells
sides_stay dies x cells out =
    two_sides (on_die (flipped dies x) Top cells) (on_die dies Top cells) (on_die (flipped dies x) Bottom cells) (on_die dies Bottom cells)
    (on_die_stays dies x Top cells out) (on_die_stays dies x Bottom cells out)

-- the cut nets, by the cells of each
abbrev pub cut_of : Sides → ℕ
cut_of sides = cut_now sides.top sides.bottom

unfoldable pub cut_by : List Die → List (List ℕ) → ℕ
cut_by dies [] = 0
cut_by dies (cells ∷ others) = cut_of (sides_of dies cells) + cut_by dies others

moves_cut : (here there : ℕ) → 0 < here → cut_now (here - 1) (there + 1) + share_by here there ≡ cut_now here there + 1
moves_cut here there some = grind (arith, nat_tests)

moves_cut_back : (here there : ℕ) → 0 < here → cut_now (there + 1) (here - 1) + share_by here there ≡ cut_now there here + 1
moves_cut_back here there some = grind (arith, nat_tests)

net_moves : (die : Die) (sides : Sides) → 0 < count_on sides die → cut_of (moved sides die) + share die sides ≡ cut_of sides + 1
net_moves Top sides some = moves_cut sides.top sides.bottom some
net_moves Bottom sides some = moves_cut_back sides.bottom sides.top some

-- a move saves as many cut nets as its nets' shares are more than the nets
pub cut_moves : (dies : List Die) (x : ℕ) (members : List (List ℕ)) → x < length dies → ((net : ℕ) → IsDistinct (λ a b. a == b) (list_at members net))
    → cut_by (flipped dies x) members + shares (die_at dies x) x members (map (sides_of dies) members) ≡ cut_by dies members + degree x members
unfolding cut_by shares degree
cut_moves dies x [] within once = refl
cut_moves dies x (cells ∷ others) within once =
    omega (arith, by (holds cells x) refl, cut_moves dies x others within (λ net. once (suc net)))
  where
    by : (h : Bool) → holds cells x ≡ h
        → cut_of (sides_of (flipped dies x) cells) + (if h then share (die_at dies x) (sides_of dies cells) else 0) ≡ cut_of (sides_of dies cells) + (if h then 1 else 0)
    by true in_it =
        let moves = sides_move dies x cells within (once 0) in_it in
        let after : cut_of (sides_of (flipped dies x) cells) ≡ cut_of (moved (sides_of dies cells) (die_at dies x)) = ap cut_of moves.1 in
        omega (arith, after, net_moves (die_at dies x) (sides_of dies cells) moves.0)
    by false out = ap (λ s. cut_of s + 0) (sides_stay dies x cells out)

-- a problem's net is cut by its distinct cells
any_mapped : (test : ℕ → Bool) (p : Netlist) (conns : List ℕ) → list_any test (cells_of p conns) ≡ list_any (λ conn. test (conn_at p conn).cell.0) conns
any_mapped test p [] = refl
any_mapped test p (conn ∷ conns) = ap (λ b. test (conn_at p conn).cell.0 || b) (any_mapped test p conns)

touches_by : (p : Netlist) (dies : List Die) (die : Die) (net : ℕ) → nat_lt 0 (on_die dies die (cells_of_net p net)) ≡ touches p dies die net
unfolding cells_of_net
touches_by p dies die net =
    on_die_some (λ cell. same_die (die_at dies cell) die) (cells_of_net p net)
    ∙ any_distinct (λ cell. same_die (die_at dies cell) die) (cells_of p (conns_of_net p net))
    ∙ any_mapped (λ cell. same_die (die_at dies cell) die) p (conns_of_net p net)

cut_by_sides : (p : Netlist) (dies : List Die) (net : ℕ) → cut_of (sides_of dies (cells_of_net p net)) ≡ unit (is_cut p dies net)
unfolding is_cut
cut_by_sides p dies net =
    ap (λ b. unit (b && nat_lt 0 (on_die dies Bottom (cells_of_net p net)))) (touches_by p dies Top net)
    ∙ ap (λ b. unit (touches p dies Top net && b)) (touches_by p dies Bottom net)

cut_by_push : (dies : List Die) (members : List (List ℕ)) (cells : List ℕ) → cut_by dies (members ++ cells ∷ []) ≡ cut_by dies members + cut_of (sides_of dies cells)
unfolding cut_by
cut_by_push dies [] cells = omega arith
cut_by_push dies (first ∷ members) cells = omega (arith, cut_by_push dies members cells)

cut_by_front : (p : Netlist) (dies : List Die) (members : List (List ℕ)) (k : ℕ) → k ≤ length members → ((net : ℕ) → net < length members → list_at members net ≡ cells_of_net p net)
    → cut_below p dies k ≡ cut_by dies (take k members)
unfolding cut_below cut_by
cut_by_front p dies members zero le each = refl
cut_by_front p dies members (suc k) le each =
    let within : k < length members = omega arith in
    let here : cut_of (sides_of dies (list_at members k)) ≡ unit (is_cut p dies k) = ap (λ cells. cut_of (sides_of dies cells)) (each k within) ∙ cut_by_sides p dies k in
    let up : suc k ≡ k + 1 = omega arith in
    let more : cut_by dies (take (suc k) members) ≡ cut_by dies (take k members ++ list_at members k ∷ []) = ap (λ j. cut_by dies (take j members)) up ∙ ap (cut_by dies) (take_more members k [] within) in
    omega (arith, here, more, cut_by_push dies (take k members) (list_at members k), cut_by_front p dies members k (omega arith) each)

pub cut_is : (p : Netlist) (g : Gained) (dies : List Die) → IsGainsOf p g → cut p dies ≡ cut_by dies g.members
cut_is p g dies is =
    ap (cut_below p dies) (sym is.nets)
    ∙ cut_by_front p dies g.members (length g.members) (omega arith) (λ net less. is.each_net net (omega (arith, is.nets)))
    ∙ ap (cut_by dies) (take_all (length g.members) g.members (omega arith))

-- the key of a cell tells what its move saves
pub key_tells : (p : Netlist) (g : Gained) (sides : List Sides) (keys : List ℕ) (cells : ℕ) (x : ℕ) → IsGainsOf p g → AreMembers g.members cells → AreWeighed g.members g.dies sides keys
    → AreCounted g.members g.dies sides → x < length g.dies → get_or keys x 0 + cut p (flipped g.dies x) ≡ even + cut p g.dies
key_tells p g sides keys cells x is members weighed counted within =
    let sides_are : sides ≡ map (sides_of g.dies) g.members = counted_is g.members g.dies sides weighed.all_nets counted in
    let same : shares (die_at g.dies x) x g.members sides ≡ shares (die_at g.dies x) x g.members (map (sides_of g.dies) g.members) = ap (shares (die_at g.dies x) x g.members) sides_are in
    omega (
      arith,
      same,
      weighed.each x within,
      cut_moves g.dies x g.members within members.once,
      cut_is p g g.dies is,
      cut_is p g (flipped g.dies x) is,
    )

-- and so does its gain
pub gain_tells : (p : Netlist) (g : Gained) (sides : List Sides) (keys : List ℕ) (cells : ℕ) (x : ℕ) (gain : ℤ) → IsGainsOf p g → AreMembers g.members cells → AreWeighed g.members g.dies sides keys
    → AreCounted g.members g.dies sides → x < length g.dies → pos (get_or keys x 0) ≡ (pos even +ℤ gain) → pos (cut p g.dies) ≡ (pos (cut p (flipped g.dies x)) +ℤ gain)
gain_tells p g sides keys cells x gain is members weighed counted within tells =
    omega (arith, ints, key_tells p g sides keys cells x is members weighed counted within, tells)

-- gains as they are kept
pub kept_gain : (p : Netlist) (members nets : List (List ℕ)) (s : State) (g : Gained) (x key : ℕ) (gain : ℤ) → IsKept members nets s → gained_of members s ≡ g → IsGainsOf p g → x < length g.dies
    → key ≡ get_or s.ranks.keys.items x key → pos key ≡ (pos even +ℤ gain) → pos (cut p g.dies) ≡ (pos (cut p (flipped g.dies x)) +ℤ gain)
kept_gain p members nets s g x key gain kept view is within key_is tells =
    let P : Gained → Type 0 = λ h. IsGainsOf p h → x < length h.dies → pos (cut p h.dies) ≡ (pos (cut p (flipped h.dies x)) +ℤ gain) in
    subst P view
    (λ is within.
    let there : x < length s.ranks.keys.items = omega (arith, kept.ranked.weighed.all_cells) in
    gain_tells p (gained_of members s) s.sides.items s.ranks.keys.items (length s.dies.items) x gain is kept.members_are kept.ranked.weighed kept.counted within
    (ap pos (sym (key_is ∙ get_or_default s.ranks.keys.items x key 0 there)) ∙ tells))
    is within
