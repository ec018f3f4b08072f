-- Laws of terminals in chosen slots, and of how a score is made up.
use Rattle.std.specs.Prelude.{◌≡◌, ℕ, ◌+◌, ◌*◌, ◌<◌, ◌≤◌, ◌⊎◌, Bool, true, false, if◌then◌else◌, List, [], ◌++◌, length, get_or, is_some, Option, Some, None, ℤ, pos, ◌+ℤ◌, ◌≤ℤ◌}
use Rattle.std.specs.List.{range_with_len}
use Rattle.std.proofs.Common.{zero, suc, refl, sym, ap, subst, ◌∙◌, inl, inr, arith}
use Rattle.std.proofs.lemmas.Bool.{cases_order}
use Rattle.std.proofs.lemmas.Option.{same_Some}
use Rattle.std.proofs.lemmas.Int.{ints}
use Rattle.std.proofs.lemmas.List.{append-nil}
use Rattle.std.proofs.lemmas.List.FromFn.{fill_by_all, get_or-map-range_with_len, length-map-range_with_len, get_or-range_with_len, length-range_with_len}
use Rattle.fp_base.specs.declared.ids.Die.{Die}
use Rattle.fp_base.specs.declared.ids.Die.TheVariants.{Top, Bottom}
use Rattle.fp_base.specs.declared.ids.Point.{Point}
use Rattle.fp_tech.specs.Plan.{IsPlan, IsTermSpec}
use Rattle.fp_tech.specs.Slots.{Slots, AreApart, IsGrid, slot_count, centre_of}
use Rattle.fp_tech.specs.SlotsLaws.{slots_apart}
use Rattle.fp_netlist.specs.Netlist.{Netlist}
use Rattle.fp_place.specs.Places.{Place, dies_of}
use Rattle.fp_place.specs.Cut.{is_cut, cut_below, cut}
use Rattle.fp_place.specs.CutLaws.{cut_rises, cut_once}
use Rattle.fp_place.specs.OnSlots.{AreOnSlots}
use Rattle.fp_score.specs.Score.{pins_on, length_of, listed, terminal_at, net_length, score_below, score}
use Rattle.fp_score.specs.Terminals.{AreOnCuts}
use Rattle.fp_score.specs.FirstFit.{terminal_of, fit_terminals}
use Rattle.fp_score.specs.SlotBest.{AreSlots, terminal_in, chosen_terminals, cut_length_below, cut_length, pins_length, uncut_length_below, uncut_length, IsSlotBest}

-- a net that is not cut is as long as its pins
pub uncut_net : (p : Netlist) (places : List Place) (terminals : List (Option Point)) (net : ℕ) → is_cut p (dies_of places) net ≡ false
    → net_length p places terminals net ≡ pins_length p places net
uncut_net p places terminals net is =
    ap (λ b. length_of (pins_on p places Top net ++ (if b then listed (terminal_at terminals net) else [])) +ℤ length_of (pins_on p places Bottom net ++ (if b then listed (terminal_at terminals net) else []))) is
    ∙ (λ i. length_of (append-nil (pins_on p places Top net) i) +ℤ length_of (append-nil (pins_on p places Bottom net) i))

-- one net more, cut or not
one_more : (b : Bool) (so_far uncut cuts long pins : ℤ) (count cost : ℕ) → (b ≡ false → long ≡ pins) → so_far ≡ (uncut +ℤ cuts) +ℤ pos (count * cost)
    → so_far +ℤ (long +ℤ pos (if b then cost else 0))
    ≡ ((uncut +ℤ (if b then pos 0 else pins)) +ℤ (cuts +ℤ (if b then long else pos 0))) +ℤ pos ((count + (if b then 1 else 0)) * cost)
one_more true so_far uncut cuts long pins count cost same is =
    let product : (count + 1) * cost ≡ count * cost + cost = omega arith in
    omega (arith, ints, is, product)
one_more false so_far uncut cuts long pins count cost same is =
    let product : (count + 0) * cost ≡ count * cost = omega arith in
    omega (arith, ints, is, product, same refl)

splits_below : (p : Netlist) (places : List Place) (terminals : List (Option Point)) (nets : ℕ)
    → score_below p places terminals nets
    ≡ (uncut_length_below p places nets +ℤ cut_length_below p places terminals nets) +ℤ pos (cut_below p (dies_of places) nets * p.plan.terminal.cost)
unfolding score_below uncut_length_below cut_length_below cut_below
splits_below p places terminals zero = omega (arith, ints)
splits_below p places terminals (suc net) =
    one_more (is_cut p (dies_of places) net) (score_below p places terminals net) (uncut_length_below p places net) (cut_length_below p places terminals net)
    (net_length p places terminals net) (pins_length p places net) (cut_below p (dies_of places) net) p.plan.terminal.cost
    (uncut_net p places terminals net) (splits_below p places terminals net)

-- A score is the length of the nets that are not cut, in which no terminal counts, that of the cut nets, and the cost of a terminal once for
-- each cut net. This is so wherever the terminals stand.
pub score_splits : (p : Netlist) (places : List Place) (terminals : List (Option Point))
    → score p places terminals ≡ (uncut_length p places +ℤ cut_length p places terminals) +ℤ pos (cut p (dies_of places) * p.plan.terminal.cost)
score_splits p places terminals = splits_below p places terminals (length p.nets)

-- with the cells where they are, the score is no more where the cut nets are no longer
pub score_by_cuts : (p : Netlist) (places : List Place) (terminals others : List (Option Point)) → cut_length p places terminals ≤ℤ cut_length p places others
    → score p places terminals ≤ℤ score p places others
score_by_cuts p places terminals others less = omega (arith, ints, less, score_splits p places terminals, score_splits p places others)

-- the best slots score no more than any other choice of a slot of its own for each cut net
pub slot_best_scores : (p : Netlist) (places : List Place) (grid : Slots) (terminals : List (Option Point)) (other : List ℕ) → IsSlotBest p places grid terminals
    → AreSlots grid (cut p (dies_of places)) other → score p places terminals ≤ℤ score p places (chosen_terminals p grid (dies_of places) other)
slot_best_scores p places grid terminals other is are =
    score_by_cuts p places terminals (chosen_terminals p grid (dies_of places) other) (is.least other are)

-- there is a terminal or none for each net, and each net has the one that is its
pub length-chosen_terminals : (p : Netlist) (grid : Slots) (dies : List Die) (chosen : List ℕ) → length (chosen_terminals p grid dies chosen) ≡ length p.nets
unfolding chosen_terminals
length-chosen_terminals p grid dies chosen = length-map-range_with_len (terminal_in p grid dies chosen) 0 (length p.nets)

pub chosen_there : (p : Netlist) (grid : Slots) (dies : List Die) (chosen : List ℕ) (net : ℕ) → net < length p.nets
    → terminal_at (chosen_terminals p grid dies chosen) net ≡ terminal_in p grid dies chosen net
unfolding chosen_terminals
chosen_there p grid dies chosen net below = get_or-map-range_with_len (terminal_in p grid dies chosen) 0 (length p.nets) net net None below (omega arith)

-- a list that has for each net the terminal of its slot is the list of the chosen terminals
pub chosen_by_each : (p : Netlist) (grid : Slots) (dies : List Die) (chosen : List ℕ) (terminals : List (Option Point)) → length terminals ≡ length p.nets
    → ((net : ℕ) → net < length p.nets → terminal_at terminals net ≡ terminal_in p grid dies chosen net) → terminals ≡ chosen_terminals p grid dies chosen
unfolding chosen_terminals
chosen_by_each p grid dies chosen terminals many each = fill_by_all (terminal_in p grid dies chosen) terminals (length p.nets) None many each

-- a cut net's terminal is in its slot
pub chosen_for_cut : (p : Netlist) (grid : Slots) (dies : List Die) (chosen : List ℕ) (net : ℕ) → net < length p.nets → is_cut p dies net ≡ true
    → terminal_at (chosen_terminals p grid dies chosen) net ≡ Some (centre_of grid (get_or chosen (cut_below p dies net) 0))
chosen_for_cut p grid dies chosen net below is =
    chosen_there p grid dies chosen net below ∙ ap (λ b. if b then Some (centre_of grid (get_or chosen (cut_below p dies net) 0)) else None) is

-- exactly the cut nets have a terminal
some_if : (b : Bool) (centre : Point) → is_some (if b then Some centre else None) ≡ b
some_if true centre = refl
some_if false centre = refl

pub chosen_on_cuts : (p : Netlist) (grid : Slots) (dies : List Die) (chosen : List ℕ) → AreOnCuts p dies (chosen_terminals p grid dies chosen)
chosen_on_cuts p grid dies chosen net below =
    ap is_some (chosen_there p grid dies chosen net below) ∙ some_if (is_cut p dies net) (centre_of grid (get_or chosen (cut_below p dies net) 0))

-- two slots with one centre are one
slot_once : (grid : Slots) (a b : ℕ) → IsTermSpec grid.terminal → 1 ≤ grid.stride → centre_of grid a ≡ centre_of grid b → a ≡ b
slot_once grid a b terminal some same = by (cases_order a b)
  where
    self_apart : (at : Point) → AreApart grid.terminal at at → ⊥
    self_apart at (inl (inl left)) = omega (arith, ints, left, terminal.some_x)
    self_apart at (inl (inr right)) = omega (arith, ints, right, terminal.some_x)
    self_apart at (inr (inl low)) = omega (arith, ints, low, terminal.some_y)
    self_apart at (inr (inr high)) = omega (arith, ints, high, terminal.some_y)

    by : (a ≡ b) ⊎ ((a < b) ⊎ (b < a)) → a ≡ b
    by (inl equal) = equal
    by (inr (inl less)) = absurd (self_apart (centre_of grid b) (subst (λ at. AreApart grid.terminal at (centre_of grid b)) same (slots_apart grid some a b less)))
    by (inr (inr more)) = absurd (self_apart (centre_of grid b) (subst (λ at. AreApart grid.terminal (centre_of grid b) at) same (slots_apart grid some b a more)))

-- a terminal is that of a cut net, in the slot that the list has for it
record IsChosenAt (p : Netlist) (grid : Slots) (dies : List Die) (chosen : List ℕ) (net : ℕ) (centre : Point) : Type 0 where
  is_cut_net : is_cut p dies net ≡ true
  at : centre ≡ centre_of grid (get_or chosen (cut_below p dies net) 0)
  row_in : cut_below p dies net < length chosen

chosen_at : (p : Netlist) (grid : Slots) (dies : List Die) (chosen : List ℕ) (net : ℕ) (centre : Point) → AreSlots grid (cut p dies) chosen → net < length p.nets
    → terminal_at (chosen_terminals p grid dies chosen) net ≡ Some centre → IsChosenAt p grid dies chosen net centre
chosen_at p grid dies chosen net centre are below is = by (is_cut p dies net) refl (sym (chosen_there p grid dies chosen net below) ∙ is)
  where
    by : (b : Bool) → is_cut p dies net ≡ b → (if b then Some (centre_of grid (get_or chosen (cut_below p dies net) 0)) else None) ≡ Some centre
        → IsChosenAt p grid dies chosen net centre
    by true cut_net e = record {
      is_cut_net = cut_net;
      at = sym (same_Some (centre_of grid (get_or chosen (cut_below p dies net) 0)) centre e);
      row_in = omega (arith, cut_rises p dies net (length p.nets) cut_net below, are.many);
    }
    by false cut_net e = absurd (let nothing : None ≡ Some centre = e in cc)

-- each chosen terminal stands on a slot of its own
pub chosen_on_slots : (p : Netlist) (grid : Slots) (dies : List Die) (chosen : List ℕ) → IsPlan p.plan → IsGrid p.plan.frame p.plan.terminal grid
    → AreSlots grid (cut p dies) chosen → AreOnSlots grid (chosen_terminals p grid dies chosen)
chosen_on_slots p grid dies chosen plan is_grid are = record {
  on_slot = λ net centre below is.
      let here = there net centre below is in
      record { slot = get_or chosen (cut_below p dies net) 0; within = are.within (cut_below p dies net) here.row_in; at = here.at };
  apart = λ a b centre a_below b_below a_is b_is.
      let at_a = there a centre a_below a_is in
      let at_b = there b centre b_below b_is in
      cut_once p dies a b at_a.is_cut_net at_b.is_cut_net
      (one (cut_below p dies a) (cut_below p dies b) at_a.row_in at_b.row_in
      (slot_once grid (get_or chosen (cut_below p dies a) 0) (get_or chosen (cut_below p dies b) 0) (subst IsTermSpec (sym is_grid.terminal_is) plan.setup.terminal)
      is_grid.some_stride (sym at_a.at ∙ at_b.at)));
}
  where
    there : (net : ℕ) (centre : Point) → net < length (chosen_terminals p grid dies chosen) → terminal_at (chosen_terminals p grid dies chosen) net ≡ Some centre
        → IsChosenAt p grid dies chosen net centre
    there net centre below is = chosen_at p grid dies chosen net centre are (omega (arith, below, length-chosen_terminals p grid dies chosen)) is

    one : (i j : ℕ) → i < length chosen → j < length chosen → get_or chosen i 0 ≡ get_or chosen j 0 → i ≡ j
    one i j i_in j_in same = by (cases_order i j)
      where
        by : (i ≡ j) ⊎ ((i < j) ⊎ (j < i)) → i ≡ j
        by (inl equal) = equal
        by (inr (inl less)) = absurd (are.distinct i j less j_in same)
        by (inr (inr more)) = absurd (are.distinct j i more i_in (sym same))

-- the first fit's terminals are those where the slots are 0, 1, 2, ..
pub fit_is_chosen : (p : Netlist) (grid : Slots) (dies : List Die) → fit_terminals p grid dies ≡ chosen_terminals p grid dies (range_with_len 0 (cut p dies))
unfolding fit_terminals
fit_is_chosen p grid dies =
    chosen_by_each p grid dies (range_with_len 0 (cut p dies)) (fit_terminals p grid dies) (length-map-range_with_len (terminal_of p grid dies) 0 (length p.nets))
    (λ net below. get_or-map-range_with_len (terminal_of p grid dies) 0 (length p.nets) net net None below (omega arith) ∙ by (is_cut p dies net) net below (λ is. is))
  where
    slot : (net : ℕ) → net < length p.nets → is_cut p dies net ≡ true → get_or (range_with_len 0 (cut p dies)) (cut_below p dies net) 0 ≡ cut_below p dies net
    slot net below is = omega (arith, get_or-range_with_len 0 (cut p dies) (cut_below p dies net) 0 (cut_rises p dies net (length p.nets) is below))

    by : (b : Bool) (net : ℕ) → net < length p.nets → (b ≡ true → is_cut p dies net ≡ true)
        → (if b then Some (centre_of grid (cut_below p dies net)) else None) ≡ (if b then Some (centre_of grid (get_or (range_with_len 0 (cut p dies)) (cut_below p dies net) 0)) else None)
    by true net below is = ap (λ s. Some (centre_of grid s)) (sym (slot net below (is refl)))
    by false net below is = refl

-- 0, 1, 2, .. are slots of their own, where the grid has as many
pub first_slots : (grid : Slots) (count : ℕ) → count ≤ slot_count grid → AreSlots grid count (range_with_len 0 count)
first_slots grid count enough = record {
  many = length-range_with_len 0 count;
  within = λ k below. omega (arith, get_or-range_with_len 0 count k 0 (omega (arith, below, length-range_with_len 0 count)), below, length-range_with_len 0 count);
  distinct = λ i j less below same.
      omega (
        arith,
        less,
        same,
        get_or-range_with_len 0 count i 0 (omega (arith, less, below, length-range_with_len 0 count)),
        get_or-range_with_len 0 count j 0 (omega (arith, below, length-range_with_len 0 count)),
      );
}

-- the best slots score no more than those of the first fit
pub slot_best_by_fit : (p : Netlist) (places : List Place) (grid : Slots) (terminals : List (Option Point)) → IsSlotBest p places grid terminals
    → cut p (dies_of places) ≤ slot_count grid → score p places terminals ≤ℤ score p places (fit_terminals p grid (dies_of places))
slot_best_by_fit p places grid terminals is enough =
    subst (λ fit. score p places terminals ≤ℤ score p places fit) (sym (fit_is_chosen p grid (dies_of places)))
    (slot_best_scores p places grid terminals (range_with_len 0 (cut p (dies_of places))) is (first_slots grid (cut p (dies_of places)) enough))
