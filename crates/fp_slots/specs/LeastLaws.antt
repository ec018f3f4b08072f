-- A choice of columns that costs least is the best choice of slots.
use Rattle.std.specs.Prelude.{◌≡◌, ℕ, ◌+◌, ◌<◌, ◌≤◌, Bool, true, false, if◌then◌else◌, List, [], ◌∷◌, length, get_or, set, take, Option, Some, None, pos, ◌+ℤ◌}
use Rattle.std.proofs.Common.{zero, suc, refl, sym, ap, subst, ◌∙◌, arith}
use Rattle.std.proofs.lemmas.Int.{ints}
use Rattle.std.proofs.lemmas.List.{get_or-set_same, take_all}
use Rattle.fp_base.specs.declared.ids.Die.{Die}
use Rattle.fp_base.specs.declared.ids.Point.{Point}
use Rattle.fp_tech.specs.Slots.{Slots, slot_count, centre_of}
use Rattle.fp_netlist.specs.Netlist.{Netlist}
use Rattle.fp_place.specs.Cut.{is_cut, cut_below, cut}
use Rattle.fp_place.specs.CutLaws.{cut_rises}
use Rattle.fp_place.specs.Places.{Place, dies_of}
use Rattle.fp_place.specs.Placed.{Placed, places_of, IsPlacementOf}
use Rattle.fp_score.specs.Score.{terminal_at, net_length}
use Rattle.fp_score.specs.ScoreLaws.{net_length_by}
use Rattle.fp_score.specs.SlotBest.{AreSlots, chosen_terminals, cut_length_below, cut_length, IsSlotBest}
use Rattle.fp_score.specs.SlotBestLaws.{chosen_by_each, chosen_for_cut}
use Rattle.fp_match.specs.Prices.{IsChoice, IsLeast, cost_from, total_cost}
use Rattle.fp_slots.specs.Table.{SlotTable, net_of, cost_of, IsCostsOf}
use Rattle.fp_slots.specs.TableLaws.{HasRow, row_of_cut_net}

-- a choice of columns is a list of slots of their own, and the other way round
pub slots_of_choice : (p : Netlist) (placed : Placed) (grid : Slots) (table : SlotTable) (chosen : List ℕ) → IsCostsOf p placed grid table
    → IsChoice (length table.rows) (slot_count table.grid) chosen → AreSlots grid (cut p (dies_of (places_of placed))) chosen
slots_of_choice p placed grid table chosen is choice = record {
  many = choice.each_row ∙ is.all_cut;
  within = λ k below. subst (λ (g : Slots). get_or chosen k 0 < slot_count g) is.slots (choice.in_range k below);
  distinct = choice.distinct;
}

pub choice_of_slots : (p : Netlist) (placed : Placed) (grid : Slots) (table : SlotTable) (chosen : List ℕ) → IsCostsOf p placed grid table
    → AreSlots grid (cut p (dies_of (places_of placed))) chosen → IsChoice (length table.rows) (slot_count table.grid) chosen
choice_of_slots p placed grid table chosen is are = record {
  each_row = are.many ∙ sym is.all_cut;
  in_range = λ k below. subst (λ (g : Slots). get_or chosen k 0 < slot_count g) (sym is.slots) (are.within k below);
  distinct = are.distinct;
}

-- the cost of the columns of some rows grows by that of the next row
cost_more : (cost : ℕ → ℕ → ℕ) (row k : ℕ) (xs : List ℕ) → k < length xs
    → cost_from cost row (take (suc k) xs) ≡ cost_from cost row (take k xs) + cost (row + k) (get_or xs k 0)
cost_more cost row k [] below = absurd (omega arith)
cost_more cost row zero (x ∷ xs) below =
    let same : row + 0 ≡ row = omega arith in
    omega (arith, ap (λ r. cost r x) same)
cost_more cost row (suc k) (x ∷ xs) below =
    let same : row + 1 + k ≡ row + suc k = omega arith in
    omega (arith, cost_more cost (row + 1) k xs (omega arith), ap (λ r. cost r (get_or xs k 0)) same)

total_more : (cost : ℕ → ℕ → ℕ) (k : ℕ) (xs : List ℕ) → k < length xs → total_cost cost (take (k + 1) xs) ≡ total_cost cost (take k xs) + cost k (get_or xs k 0)
total_more cost k xs below =
    let next : k + 1 ≡ suc k = omega arith in
    let same : 0 + k ≡ k = omega arith in
    ap (λ n. total_cost cost (take n xs)) next ∙ cost_more cost 0 k xs below ∙ ap (λ r. total_cost cost (take k xs) + cost r (get_or xs k 0)) same

-- ---- slots by any costs that are the lengths of cut nets

-- a cost is the length of the cut net of a rank with its terminal in a slot
pub record AreNetCosts (p : Netlist) (places : List Place) (grid : Slots) (cost : ℕ → ℕ → ℕ) : Type 0 where
  pub each : (net slot : ℕ) (terminals : List (Option Point)) → net < length p.nets → is_cut p (dies_of places) net ≡ true → slot < slot_count grid
      → terminal_at terminals net ≡ Some (centre_of grid slot) → net_length p places terminals net ≡ pos (cost (cut_below p (dies_of places) net) slot)

-- a cut net's slot is one of the grid
rank_within : (p : Netlist) (places : List Place) (grid : Slots) (chosen : List ℕ) (net : ℕ) → AreSlots grid (cut p (dies_of places)) chosen → net < length p.nets
    → is_cut p (dies_of places) net ≡ true → cut_below p (dies_of places) net < length chosen
rank_within p places grid chosen net are below is = omega (arith, cut_rises p (dies_of places) net (length p.nets) is below, are.many)

-- a cut net is as long as its slot costs
pub net_costs_by : (p : Netlist) (places : List Place) (grid : Slots) (cost : ℕ → ℕ → ℕ) (chosen : List ℕ) (net : ℕ) → AreNetCosts p places grid cost
    → AreSlots grid (cut p (dies_of places)) chosen → net < length p.nets → is_cut p (dies_of places) net ≡ true
    → net_length p places (chosen_terminals p grid (dies_of places) chosen) net ≡ pos (cost (cut_below p (dies_of places) net) (get_or chosen (cut_below p (dies_of places) net) 0))
net_costs_by p places grid cost chosen net costs are below is =
    costs.each net (get_or chosen (cut_below p (dies_of places) net) 0) (chosen_terminals p grid (dies_of places) chosen) below is
    (are.within (cut_below p (dies_of places) net) (rank_within p places grid chosen net are below is))
    (chosen_for_cut p grid (dies_of places) chosen net below is)

costs_below : (p : Netlist) (places : List Place) (grid : Slots) (cost : ℕ → ℕ → ℕ) (chosen : List ℕ) → AreNetCosts p places grid cost
    → AreSlots grid (cut p (dies_of places)) chosen → (nets : ℕ) → nets ≤ length p.nets
    → cut_length_below p places (chosen_terminals p grid (dies_of places) chosen) nets ≡ pos (total_cost cost (take (cut_below p (dies_of places) nets) chosen))
unfolding cut_length_below cut_below
costs_below p places grid cost chosen costs are zero within = refl
costs_below p places grid cost chosen costs are (suc net) within =
    by (is_cut p (dies_of places) net) refl (costs_below p places grid cost chosen costs are net (omega arith))
  where
    row : ℕ
    row = cut_below p (dies_of places) net

    terminals : List (Option Point)
    terminals = chosen_terminals p grid (dies_of places) chosen

    by : (b : Bool) → is_cut p (dies_of places) net ≡ b → cut_length_below p places terminals net ≡ pos (total_cost cost (take row chosen))
        → cut_length_below p places terminals net +ℤ (if b then net_length p places terminals net else pos 0)
        ≡ pos (total_cost cost (take (row + (if b then 1 else 0)) chosen))
    by true is_cut_net so_far =
        let more = total_more cost row chosen (rank_within p places grid chosen net are (omega arith) is_cut_net) in
        omega (arith, ints, so_far, more, net_costs_by p places grid cost chosen net costs are (omega arith) is_cut_net)
    by false is_cut_net so_far =
        let same : row + 0 ≡ row = omega arith in
        omega (arith, ints, so_far, ap (λ n. total_cost cost (take n chosen)) same)

-- the cut nets are together as long as the choice costs
pub cut_length_by : (p : Netlist) (places : List Place) (grid : Slots) (cost : ℕ → ℕ → ℕ) (chosen : List ℕ) → AreNetCosts p places grid cost
    → AreSlots grid (cut p (dies_of places)) chosen → cut_length p places (chosen_terminals p grid (dies_of places) chosen) ≡ pos (total_cost cost chosen)
cut_length_by p places grid cost chosen costs are =
    costs_below p places grid cost chosen costs are (length p.nets) (omega arith)
    ∙ ap (λ xs. pos (total_cost cost xs)) (take_all (cut p (dies_of places)) chosen (omega (arith, are.many)))

-- a choice of least cost gives the cut nets the best slots
pub least_is_best_by : (p : Netlist) (places : List Place) (grid : Slots) (cost : ℕ → ℕ → ℕ) (chosen : List ℕ) → AreNetCosts p places grid cost
    → AreSlots grid (cut p (dies_of places)) chosen → IsLeast cost (cut p (dies_of places)) (slot_count grid) chosen
    → IsSlotBest p places grid (chosen_terminals p grid (dies_of places) chosen)
least_is_best_by p places grid cost chosen costs are least = record {
  chosen = chosen;
  are_slots = are;
  terminals_are = refl;
  least = λ other others.
      omega (
        arith,
        ints,
        least other (record { each_row = others.many; in_range = others.within; distinct = others.distinct }),
        cut_length_by p places grid cost other costs others,
        cut_length_by p places grid cost chosen costs are,
      );
}

-- ---- slots by the costs of a table

-- a table's costs are the lengths of cut nets
pub table_costs : (p : Netlist) (placed : Placed) (grid : Slots) (table : SlotTable) → IsPlacementOf p placed → IsCostsOf p placed grid table
    → AreNetCosts p (places_of placed) grid (cost_of table)
table_costs p placed grid table of_problem is = record {
  each = λ net slot terminals below is_cut_net in_grid at.
      let has : HasRow p placed table net = row_of_cut_net p placed grid table net is below is_cut_net in
      let set_to : terminal_at (set placed.terminals net (Some (centre_of grid slot))) net ≡ Some (centre_of grid slot) =
      get_or-set_same placed.terminals net (Some (centre_of grid slot)) None (omega (arith, below, of_problem.nets)) in
      net_length_by p (places_of placed) terminals (set placed.terminals net (Some (centre_of grid slot))) net (at ∙ sym set_to)
      ∙ sym (subst (λ n. pos (cost_of table (cut_below p (dies_of (places_of placed)) net) slot) ≡ net_length p (places_of placed) (set placed.terminals n (Some (centre_of grid slot))) n)
      has.net_is (is.costs (cut_below p (dies_of (places_of placed)) net) slot has.there in_grid));
}

-- a cut net is as long as its row's slot costs
pub net_costs : (p : Netlist) (placed : Placed) (grid : Slots) (table : SlotTable) (chosen : List ℕ) (net : ℕ) → IsPlacementOf p placed → IsCostsOf p placed grid table
    → AreSlots grid (cut p (dies_of (places_of placed))) chosen → net < length p.nets → is_cut p (dies_of (places_of placed)) net ≡ true
    → net_length p (places_of placed) (chosen_terminals p grid (dies_of (places_of placed)) chosen) net
    ≡ pos (cost_of table (cut_below p (dies_of (places_of placed)) net) (get_or chosen (cut_below p (dies_of (places_of placed)) net) 0))
net_costs p placed grid table chosen net of_problem is are below is_cut_net =
    net_costs_by p (places_of placed) grid (cost_of table) chosen net (table_costs p placed grid table of_problem is) are below is_cut_net

-- the cut nets are together as long as the choice costs
pub cut_length_is_cost : (p : Netlist) (placed : Placed) (grid : Slots) (table : SlotTable) (chosen : List ℕ) → IsPlacementOf p placed → IsCostsOf p placed grid table
    → AreSlots grid (cut p (dies_of (places_of placed))) chosen
    → cut_length p (places_of placed) (chosen_terminals p grid (dies_of (places_of placed)) chosen) ≡ pos (total_cost (cost_of table) chosen)
cut_length_is_cost p placed grid table chosen of_problem is are =
    cut_length_by p (places_of placed) grid (cost_of table) chosen (table_costs p placed grid table of_problem is) are

-- a choice of least cost gives the cut nets the best slots
pub least_is_best : (p : Netlist) (placed : Placed) (grid : Slots) (table : SlotTable) (chosen : List ℕ) → IsPlacementOf p placed → IsCostsOf p placed grid table
    → IsChoice (length table.rows) (slot_count table.grid) chosen → IsLeast (cost_of table) (length table.rows) (slot_count table.grid) chosen
    → IsSlotBest p (places_of placed) grid (chosen_terminals p grid (dies_of (places_of placed)) chosen)
least_is_best p placed grid table chosen of_problem is choice least =
    least_is_best_by p (places_of placed) grid (cost_of table) chosen (table_costs p placed grid table of_problem is) (slots_of_choice p placed grid table chosen is choice)
    (λ other others. least other (choice_of_slots p placed grid table other is (record { many = others.each_row; within = others.in_range; distinct = others.distinct })))

-- terminals that are set row by row, and of which no other net has one, are the chosen ones
pub chosen_by_rows : (p : Netlist) (placed : Placed) (grid : Slots) (table : SlotTable) (chosen : List ℕ) (terminals : List (Option Point)) → IsCostsOf p placed grid table
    → length terminals ≡ length p.nets
    → ((row : ℕ) → row < length table.rows → terminal_at terminals (net_of table row) ≡ Some (centre_of grid (get_or chosen row 0)))
    → ((net : ℕ) → net < length p.nets → is_cut p (dies_of (places_of placed)) net ≡ false → terminal_at terminals net ≡ None)
    → terminals ≡ chosen_terminals p grid (dies_of (places_of placed)) chosen
chosen_by_rows p placed grid table chosen terminals is many rows others =
    chosen_by_each p grid dies chosen terminals many (λ net below. by net below (is_cut p dies net) refl)
  where
    dies : List Die
    dies = dies_of (places_of placed)

    by : (net : ℕ) → net < length p.nets → (b : Bool) → is_cut p dies net ≡ b
        → terminal_at terminals net ≡ (if b then Some (centre_of grid (get_or chosen (cut_below p dies net) 0)) else None)
    by net below true is_cut_net =
        let has : HasRow p placed table net = row_of_cut_net p placed grid table net is below is_cut_net in
        subst (λ n. terminal_at terminals n ≡ Some (centre_of grid (get_or chosen (cut_below p dies net) 0))) has.net_is (rows (cut_below p dies net) has.there)
    by net below false is_cut_net = others net below is_cut_net
