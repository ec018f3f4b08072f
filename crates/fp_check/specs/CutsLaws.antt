-- The lines of cut nets in the best slots have slots of their own.
use Rattle.std.specs.Prelude.{◌≡◌, ◌≢◌, ℕ, ◌<◌, ◌≤◌, ◌⊎◌, nat_eq, List, length, map, get_or}
use Rattle.std.specs.List.{IsDistinct}
use Rattle.std.proofs.Common.{refl, sym, ap, subst, ◌∙◌, inl, inr, arith}
use Rattle.std.proofs.lemmas.Bool.{cases_order, ne_eqb}
use Rattle.std.proofs.lemmas.Int.{ints}
use Rattle.std.proofs.lemmas.List.{ext_get_or, get_or_default, length-map}
use Rattle.std.proofs.lemmas.Map.Keys.{IsDistinct-from_apart}
use Rattle.std.proofs.lemmas.Option.{same_Some}
use Rattle.fp_base.specs.declared.ids.Die.{Die}
use Rattle.fp_base.specs.declared.ids.Point.{Point}
use Rattle.fp_tech.specs.Plan.{IsPlan, IsTermSpec}
use Rattle.fp_tech.specs.Slots.{Slots, AreApart, IsGrid, centre_of}
use Rattle.fp_tech.specs.SlotsLaws.{slots_apart}
use Rattle.fp_netlist.specs.Netlist.{Netlist}
use Rattle.fp_place.specs.Cut.{cut}
use Rattle.fp_place.specs.Places.{dies_of}
use Rattle.fp_score.specs.Score.{terminal_at}
use Rattle.fp_score.specs.SlotBest.{chosen_terminals, IsSlotBest}
use Rattle.fp_score.specs.SlotBestLaws.{chosen_for_cut}
use Rattle.fp_cert.specs.declared.shown.CutShown.{CutShown}
use Rattle.fp_cert.specs.CutLinesLaws.{terminals_are, length-cut_nets, cut_net_at}
use Rattle.fp_cert.specs.Shown.{ShownTrial}
use Rattle.fp_cert.specs.Standing.{places_shown, terminals_shown, dies_shown}
use Rattle.fp_cert.specs.Trials.{cut_nets, IsScored}
use Rattle.fp_check.specs.Conditions.{AreCutsListed}

-- two slots with one centre are one
slot_once : (grid : Slots) (a b : ℕ) → IsTermSpec grid.terminal → 1 ≤ grid.stride → centre_of grid a ≡ centre_of grid b → a ≡ b
slot_once grid a b terminal some same = by (cases_order a b)
  where
    self_apart : (at : Point) → AreApart grid.terminal at at → ⊥
    self_apart at (inl (inl left)) = omega (arith, ints, left, terminal.some_x)
    self_apart at (inl (inr right)) = omega (arith, ints, right, terminal.some_x)
    self_apart at (inr (inl low)) = omega (arith, ints, low, terminal.some_y)
    self_apart at (inr (inr high)) = omega (arith, ints, high, terminal.some_y)

    by : (a ≡ b) ⊎ ((a < b) ⊎ (b < a)) → a ≡ b
    by (inl equal) = equal
    by (inr (inl less)) = absurd (self_apart (centre_of grid b) (subst (λ at. AreApart grid.terminal at (centre_of grid b)) same (slots_apart grid some a b less)))
    by (inr (inr more)) = absurd (self_apart (centre_of grid b) (subst (λ at. AreApart grid.terminal (centre_of grid b) at) same (slots_apart grid some b a more)))

-- where the cut nets have the same terminals by two lists of slots, the lists are one
same_slots : (p : Netlist) (grid : Slots) (dies : List Die) (slots chosen : List ℕ) → IsTermSpec grid.terminal → 1 ≤ grid.stride → length slots ≡ cut p dies → length chosen ≡ cut p dies
    → chosen_terminals p grid dies slots ≡ chosen_terminals p grid dies chosen → slots ≡ chosen
same_slots p grid dies slots chosen terminal some long many same =
    ext_get_or 0 slots chosen (long ∙ sym many) (λ rank below.
    let net = get_or (cut_nets p dies) rank 0 in
    let is = cut_net_at p dies rank (omega (arith, below, long)) in
    let at : centre_of grid (get_or slots rank 0) ≡ centre_of grid (get_or chosen rank 0) =
    ap (λ k. centre_of grid (get_or slots k 0)) (sym is.rank_is)
    ∙ same_Some _ _ (sym (chosen_for_cut p grid dies slots net is.within is.is_cut_net) ∙ ap (λ all. terminal_at all net) same ∙ chosen_for_cut p grid dies chosen net is.within is.is_cut_net)
    ∙ ap (λ k. centre_of grid (get_or chosen k 0)) is.rank_is in
    slot_once grid (get_or slots rank 0) (get_or chosen rank 0) terminal some at)

-- numbers no two of which are one
distinct_numbers : (numbers : List ℕ) → ((i j : ℕ) → i < j → j < length numbers → get_or numbers i 0 ≢ get_or numbers j 0) → IsDistinct nat_eq numbers
distinct_numbers numbers apart =
    IsDistinct-from_apart nat_eq numbers (λ i j d less below.
    ap (λ k. nat_eq k (get_or numbers j d)) (get_or_default numbers i d 0 (omega (arith, less, below)))
    ∙ ap (nat_eq (get_or numbers i 0)) (get_or_default numbers j d 0 below)
    ∙ ne_eqb (get_or numbers i 0) (get_or numbers j 0) (apart i j less below))

-- A trial that lists the cut nets, and whose terminals are in the best slots, has a slot of its own in each line.
pub cuts_listed : (p : Netlist) (grid : Slots) (trial : ShownTrial) → IsPlan p.plan → IsGrid p.plan.frame p.plan.terminal grid → dies_shown p trial ≡ dies_of (places_shown p trial)
    → IsScored p grid trial → AreCutsListed p trial
cuts_listed p grid trial plan is_grid dies_are scored = record {
  nets = scored.nets;
  slots = distinct_numbers slots (subst (λ (list : List ℕ). (i j : ℕ) → i < j → j < length list → get_or list i 0 ≢ get_or list j 0) (sym same) best.are_slots.distinct);
}
  where
    dies : List Die
    dies = dies_of (places_shown p trial)

    slots : List ℕ
    slots = map (λ (cut : CutShown). cut.slot.0) trial.cuts

    best : IsSlotBest p (places_shown p trial) grid (terminals_shown p grid trial)
    best = scored.slots

    nets : map (λ (cut : CutShown). cut.net.0) trial.cuts ≡ cut_nets p dies
    nets = scored.nets ∙ ap (cut_nets p) dies_are

    long : length slots ≡ cut p dies
    long =
        length-map trial.cuts (λ (cut : CutShown). cut.slot.0) ∙ sym (length-map trial.cuts (λ (cut : CutShown). cut.net.0)) ∙ ap length nets ∙ length-cut_nets p dies

    same : slots ≡ best.chosen
    same =
        same_slots p grid dies slots best.chosen (subst IsTermSpec (sym is_grid.terminal_is) plan.setup.terminal) is_grid.some_stride long best.are_slots.many
        (sym (terminals_are p grid trial dies slots nets refl) ∙ best.terminals_are)
