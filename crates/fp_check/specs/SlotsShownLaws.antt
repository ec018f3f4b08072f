-- Laws of the slots that a trial lists: its prices show that they are the best, and its terminals are where they belong.
use Rattle.std.specs.Prelude.{◌≡◌, ◌≢◌, ℕ, zero, suc, ◌+◌, ◌<◌, ◌≤◌, ◌==◌, Bool, true, false, nat_eq, cond, List, [], ◌∷◌, length, map, find, get_or, set, slice_get, Option, Some, None, option_map, All, ℤ, pos, negsuc, ◌≤ℤ◌, unsigned_abs}
use Rattle.std.specs.List.{range_with_len, IsDistinct}
use Rattle.std.proofs.Common.{refl, sym, ap, subst, ◌∙◌, arith}
use Rattle.std.proofs.lemmas.Bool.Decides.{nat_tests}
use Rattle.std.proofs.lemmas.Int.{ints}
use Rattle.std.proofs.lemmas.List.{length-map, get_or-map, get_or-set_same}
use Rattle.std.proofs.lemmas.List.FromFn.{length-map-range_with_len, get_or-map-range_with_len}
use Rattle.std.proofs.lemmas.Map.Keys.{apart_from_distinct, IsDistinct-tail}
use Rattle.std.proofs.lemmas.Option.{same_Some, slice_get_within, slice_get-map, slice_get-get_or, get_or_from_slice_get}
use Rattle.fp_base.specs.declared.ids.Die.{Die}
use Rattle.fp_tech.specs.Plan.{IsPlan}
use Rattle.fp_tech.specs.Slots.{Slots, slot_count, IsGrid, centre_of}
use Rattle.fp_netlist.specs.Netlist.{Netlist}
use Rattle.fp_place.specs.Cut.{cut_below, cut}
use Rattle.fp_place.specs.CutLaws.{cut_rises, cut_once}
use Rattle.fp_place.specs.DrawnLaws.{find_yes, find_no}
use Rattle.fp_place.specs.OnSlots.{AreOnCuts, AreOnSlots}
use Rattle.fp_place.specs.Places.{dies_of}
use Rattle.fp_score.specs.Score.{terminal_at, net_length}
use Rattle.fp_score.specs.ScoreLaws.{net_length_by, net_length_from_0}
use Rattle.fp_score.specs.SlotBest.{AreSlots, chosen_terminals, IsSlotBest}
use Rattle.fp_score.specs.SlotBestLaws.{chosen_on_cuts, chosen_on_slots}
use Rattle.fp_match.specs.Prices.{IsUsed}
use Rattle.fp_match.specs.PriceLaws.{least_by_prices}
use Rattle.fp_slots.specs.LeastLaws.{AreNetCosts, least_is_best_by}
use Rattle.fp_cert.specs.declared.shown.CutShown.{CutShown}
use Rattle.fp_cert.specs.Certified.{price_by, price_shown, slot_cost, ArePricesShown}
use Rattle.fp_cert.specs.CutLinesLaws.{terminals_are, length-cut_nets, cut_net_at}
use Rattle.fp_cert.specs.OfProblem.{IsCutOf}
use Rattle.fp_cert.specs.Shown.{ShownTrial}
use Rattle.fp_cert.specs.Standing.{places_shown, terminals_shown, dies_shown}
use Rattle.fp_cert.specs.Trials.{cut_nets}
use Rattle.fp_check.specs.Conditions.{AreCutsListed}
use Rattle.fp_check.specs.ShownLaws.{length-terminals_shown}

-- ---- lines by their slots

abbrev slot_of : CutShown → ℕ
slot_of cut = cut.slot.0

abbrev slots_of : ShownTrial → List ℕ
slots_of trial = map slot_of trial.cuts

abbrev find_slot : ℕ → List CutShown → Option CutShown
find_slot slot cuts = find (λ (cut : CutShown). cut.slot.0 == slot) cuts

-- a line that is found has its place and its slot
record IsFoundSlot (slot : ℕ) (cuts : List CutShown) (cut : CutShown) : Type 0 where
  place : ℕ
  at : slice_get cuts place ≡ Some cut
  slot_is : cut.slot.0 ≡ slot

same_number : (a b : ℕ) → nat_eq a b ≡ true → a ≡ b
same_number a b is = grind (arith, nat_tests)

alike : (a b : ℕ) → a ≡ b → nat_eq a b ≡ true
alike a b same = grind (arith, nat_tests)

found_slot : (slot : ℕ) (cuts : List CutShown) (cut : CutShown) → find_slot slot cuts ≡ Some cut → IsFoundSlot slot cuts cut
found_slot slot [] cut is = absurd (let none : None ≡ Some cut = is in cc)
found_slot slot (first ∷ cuts) cut is = by (nat_eq first.slot.0 slot) refl is (found_slot slot cuts cut)
  where
    by : (b : Bool) → nat_eq first.slot.0 slot ≡ b → cond b (Some first) (find_slot slot cuts) ≡ Some cut → (find_slot slot cuts ≡ Some cut → IsFoundSlot slot cuts cut)
        → IsFoundSlot slot (first ∷ cuts) cut
    by true passes is rest =
        let same : first ≡ cut = same_Some first cut is in
        record { place = 0; at = is; slot_is = ap slot_of (sym same) ∙ same_number first.slot.0 slot passes }
    by false passes is rest = let found = rest is in record { place = suc found.place; at = found.at; slot_is = found.slot_is }

-- where no two lines have one slot, a line is found by its slot
line_found : (cuts : List CutShown) (k : ℕ) (cut : CutShown) → IsDistinct nat_eq (map slot_of cuts) → slice_get cuts k ≡ Some cut → find_slot cut.slot.0 cuts ≡ Some cut
line_found [] k cut distinct at = absurd cc
line_found (first ∷ cuts) zero cut distinct at =
    let same : first ≡ cut = same_Some first cut at in
    find_yes (λ (c : CutShown). c.slot.0 == cut.slot.0) first cuts (alike first.slot.0 cut.slot.0 (ap slot_of same)) ∙ ap Some same
line_found (first ∷ cuts) (suc k) cut distinct at =
    let inside : k < length cuts = slice_get_within cuts k cut at in
    let slot : get_or (map slot_of cuts) k 0 ≡ cut.slot.0 =
    get_or_from_slice_get (map slot_of cuts) k cut.slot.0 0 (slice_get-map slot_of cuts k ∙ ap (option_map slot_of) at) in
    let apart : nat_eq first.slot.0 (get_or (map slot_of cuts) k 0) ≡ false =
    apart_from_distinct nat_eq (map slot_of (first ∷ cuts)) 0 (suc k) 0 distinct (omega arith) (omega (arith, inside, length-map cuts slot_of)) in
    find_no (λ (c : CutShown). c.slot.0 == cut.slot.0) first cuts (ap (nat_eq first.slot.0) (sym slot) ∙ apart)
    ∙ line_found cuts k cut (IsDistinct-tail nat_eq first.slot.0 (map slot_of cuts) distinct) at

pos_abs : (z : ℤ) → pos 0 ≤ℤ z → pos (unsigned_abs z) ≡ z
pos_abs (pos n) least = refl
pos_abs (negsuc n) least = absurd (omega (arith, ints))

unlike : (a b : ℕ) → nat_eq a b ≡ false → a ≢ b
unlike a b is same = let no : true ≡ false = sym (alike a b same) ∙ is in cc

-- ---- a trial that lists its cut nets

-- a trial whose lines are the cut nets, with slots of their own in the grid
module _ (p : Netlist) (grid : Slots) (trial : ShownTrial) (dies_are : dies_shown p trial ≡ dies_of (places_shown p trial)) (listed : AreCutsListed p trial)
    (cuts : All (IsCutOf p (slot_count grid)) trial.cuts) where
  abbrev dies : List Die
  dies = dies_of (places_shown p trial)

  nets : map (λ (cut : CutShown). cut.net.0) trial.cuts ≡ cut_nets p dies
  nets = listed.nets ∙ ap (cut_nets p) dies_are

  many_cuts : length trial.cuts ≡ cut p dies
  many_cuts = sym (length-map trial.cuts (λ (cut : CutShown). cut.net.0)) ∙ ap length nets ∙ length-cut_nets p dies

  -- its slots are those of a choice
  pub slots_chosen : AreSlots grid (cut p (dies_of (places_shown p trial))) (map (λ (cut : CutShown). cut.slot.0) trial.cuts)
  slots_chosen = record {
    many = length-map trial.cuts slot_of ∙ many_cuts;
    within = λ k below.
        let inside : k < length trial.cuts = omega (arith, below, length-map trial.cuts slot_of) in
        let line = get_or trial.cuts k no_cut in
        let at : get_or (slots_of trial) k 0 ≡ line.slot.0 = get_or-map slot_of trial.cuts k no_cut 0 inside in
        let small = (cuts k no_cut inside).slot in
        omega (arith, at, small);
    distinct = λ i j less below. unlike (get_or (slots_of trial) i 0) (get_or (slots_of trial) j 0) (apart_from_distinct nat_eq (slots_of trial) i j 0 listed.slots less below);
  }
    where
      no_cut : CutShown
      no_cut = record { net = record { 0 = 0 }; slot = record { 0 = 0 }; price = 0 }

  -- and its terminals are in them
  pub terminals_chosen : terminals_shown p grid trial ≡ chosen_terminals p grid (dies_of (places_shown p trial)) (map (λ (cut : CutShown). cut.slot.0) trial.cuts)
  terminals_chosen = terminals_are p grid trial dies (slots_of trial) nets refl

  -- Exactly the cut nets have terminals,
  pub shown_on_cuts : AreOnCuts p (dies_of (places_shown p trial)) (terminals_shown p grid trial)
  shown_on_cuts = subst (AreOnCuts p dies) (sym terminals_chosen) (chosen_on_cuts p grid dies (slots_of trial))

  -- on slots of their own.
  pub shown_on_slots : IsPlan p.plan → IsGrid p.plan.frame p.plan.terminal grid → AreOnSlots grid (terminals_shown p grid trial)
  shown_on_slots plan is_grid = subst (AreOnSlots grid) (sym terminals_chosen) (chosen_on_slots p grid dies (slots_of trial) plan is_grid slots_chosen)

  -- ---- the costs of slots

  abbrev cost : ℕ → ℕ → ℕ
  cost rank slot = slot_cost p grid trial (get_or (cut_nets p dies) rank 0) slot

  -- they are the lengths of cut nets
  net_costs : AreNetCosts p (places_shown p trial) grid cost
  net_costs = record {
    each = λ net slot terminals below is in_grid at.
        let rank = cut_below p dies net in
        let there = cut_net_at p dies rank (cut_rises p dies net (length p.nets) is below) in
        let same : get_or (cut_nets p dies) rank 0 ≡ net = cut_once p dies (get_or (cut_nets p dies) rank 0) net there.is_cut_net is there.rank_is in
        let centres = set (terminals_shown p grid trial) net (Some (centre_of grid slot)) in
        let set_to : terminal_at centres net ≡ Some (centre_of grid slot) =
        get_or-set_same (terminals_shown p grid trial) net (Some (centre_of grid slot)) None (omega (arith, below, length-terminals_shown p grid trial)) in
        net_length_by p (places_shown p trial) terminals centres net (at ∙ sym set_to)
        ∙ sym (pos_abs (net_length p (places_shown p trial) centres net) (net_length_from_0 p (places_shown p trial) centres net))
        ∙ ap (λ n. pos (slot_cost p grid trial n slot)) (sym same);
  }

  -- ---- its prices

  abbrev prices : List ℕ
  prices = map (price_shown trial) (range_with_len 0 (slot_count grid))

  price_at : (slot : ℕ) → slot < slot_count grid → get_or prices slot 0 ≡ price_shown trial slot
  price_at slot below = get_or-map-range_with_len (price_shown trial) 0 (slot_count grid) slot slot 0 below (omega arith)

  -- a slot without a line has the price 0
  unused : (slot : ℕ) → slot < slot_count grid → ¬ (IsUsed (slots_of trial) slot) → get_or prices slot 0 ≡ 0
  unused slot below free = price_at slot below ∙ by (find_slot slot trial.cuts) refl
    where
      by : (line : Option CutShown) → find_slot slot trial.cuts ≡ line → price_by line ≡ 0
      by None is = refl
      by (Some cut) is =
          let found = found_slot slot trial.cuts cut is in
          let inside = slice_get_within trial.cuts found.place cut found.at in
          absurd (free (
            found.place,
            omega (arith, inside, length-map trial.cuts slot_of),
            get_or_from_slice_get (slots_of trial) found.place cut.slot.0 0 (slice_get-map slot_of trial.cuts found.place ∙ ap (option_map slot_of) found.at) ∙ found.slot_is,
          ))

  -- with the prices added, no slot costs a cut net less than its own
  best : ArePricesShown p grid trial → (rank : ℕ) → rank < length (slots_of trial) → (other : ℕ) → other < slot_count grid
      → cost rank (get_or (slots_of trial) rank 0) + get_or prices (get_or (slots_of trial) rank 0) 0 ≤ cost rank other + get_or prices other 0
  best shown rank below other in_grid = by (get_or trial.cuts rank no_cut) (slice_get-get_or trial.cuts rank no_cut (omega (arith, below, length-map trial.cuts slot_of)))
    where
      no_cut : CutShown
      no_cut = record { net = record { 0 = 0 }; slot = record { 0 = 0 }; price = 0 }

      by : (line : CutShown) → slice_get trial.cuts rank ≡ Some line
          → cost rank (get_or (slots_of trial) rank 0) + get_or prices (get_or (slots_of trial) rank 0) 0 ≤ cost rank other + get_or prices other 0
      by line at =
          let slot : get_or (slots_of trial) rank 0 ≡ line.slot.0 = get_or_from_slice_get (slots_of trial) rank line.slot.0 0 (slice_get-map slot_of trial.cuts rank ∙ ap (option_map slot_of) at) in
          let net : get_or (cut_nets p dies) rank 0 ≡ line.net.0 =
          ap (λ (list : List ℕ). get_or list rank 0) (sym nets)
          ∙ get_or_from_slice_get (map (λ (c : CutShown). c.net.0) trial.cuts) rank line.net.0 0
          (slice_get-map (λ (c : CutShown). c.net.0) trial.cuts rank ∙ ap (option_map (λ (c : CutShown). c.net.0)) at) in
          let own : price_shown trial line.slot.0 ≡ line.price = ap price_by (line_found trial.cuts rank line listed.slots at) in
          let inside : line.slot.0 < slot_count grid = subst (λ s. s < slot_count grid) slot (slots_chosen.within rank below) in
          let least = shown rank line other at in_grid in
          let mine : get_or prices (get_or (slots_of trial) rank 0) 0 ≡ line.price = ap (λ s. get_or prices s 0) slot ∙ price_at line.slot.0 inside ∙ own in
          let its : cost rank (get_or (slots_of trial) rank 0) ≡ slot_cost p grid trial line.net.0 line.slot.0 =
          ap (λ n. slot_cost p grid trial n (get_or (slots_of trial) rank 0)) net ∙ ap (slot_cost p grid trial line.net.0) slot in
          let others : cost rank other ≡ slot_cost p grid trial line.net.0 other = ap (λ n. slot_cost p grid trial n other) net in
          omega (arith, least, mine, its, others, price_at other in_grid)

  -- So the prices show that the slots are the best.
  pub slots_best : ArePricesShown p grid trial → IsSlotBest p (places_shown p trial) grid (terminals_shown p grid trial)
  slots_best shown =
      subst (IsSlotBest p (places_shown p trial) grid) (sym terminals_chosen)
      (least_is_best_by p (places_shown p trial) grid cost (slots_of trial) net_costs slots_chosen
      (least_by_prices cost (cut p dies) (slot_count grid) (slots_of trial) prices (length-map-range_with_len (price_shown trial) 0 (slot_count grid))
      (record { each_row = slots_chosen.many; in_range = slots_chosen.within; distinct = slots_chosen.distinct })
      (record { unused = unused; best = best shown })))
