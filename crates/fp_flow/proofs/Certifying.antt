-- What a trial's prices and duals show: slots that were solved for are the best, and so are cells that stand on their targets.
use Rattle.std.proofs.Common.{◌≡◌, ◌≢◌, ℕ, zero, suc, ◌+◌, ◌<◌, ◌≤◌, ◌^◌, true, false, List, [], ◌∷◌, length, map, set, slice_get, get_or, Option, Some, None, ℤ, pos, negsuc, ◌+ℤ◌, ◌-ℤ◌, ◌*ℤ◌, ◌≤ℤ◌, unsigned_abs, refl, sym, ap, subst, ◌∙◌, arith}
use Rattle.std.specs.Prelude.{Bool, nat_eq, cond, find, slice_index, All}
use Rattle.std.specs.List.{AllByRecursion, range_with_len}
use Rattle.std.proofs.lemmas.Bool.Decides.{nat_tests}
use Rattle.std.proofs.lemmas.Int.{ints}
use Rattle.std.proofs.lemmas.List.{length-map, get_or-set_same}
use Rattle.std.proofs.lemmas.List.Elements.{All-from_recursion, recursion_from_All, All-map}
use Rattle.std.proofs.lemmas.List.FromFn.{length-map-range_with_len, get_or-map-range_with_len}
use Rattle.std.proofs.lemmas.Option.{slice_get-map, slice_get_within, get_or_from_slice_get}
use Rattle.fp_base.specs.declared.ids.CellId.{CellId}
use Rattle.fp_base.specs.declared.ids.Die.{Die}
use Rattle.fp_base.specs.declared.ids.Point.{Point}
use Rattle.fp_tech.specs.Slots.{Slots, slot_count, centre_of}
use Rattle.fp_netlist.specs.Netlist.{Netlist}
use Rattle.fp_netlist.specs.Points.{width}
use Rattle.fp_place.specs.Places.{dies_of}
use Rattle.fp_place.specs.Placed.{Placed, spot_at, places_of, lanes_of, IsPlacementOf}
use Rattle.fp_match.specs.Prices.{Solution, IsUsed}
use Rattle.fp_rows.specs.Rows.{FallsBy, ShownBy}
use Rattle.fp_rows.specs.Squares.{AreDuals, width_of, squared_rise}
use Rattle.fp_rows.specs.declared.RowCell.{RowCell}
use Rattle.fp_score.specs.Score.{terminal_at, net_length}
use Rattle.fp_score.specs.ScoreLaws.{net_length_by}
use Rattle.fp_score.specs.SlotBestLaws.{length-chosen_terminals}
use Rattle.fp_slots.specs.CutNets.{length_with}
use Rattle.fp_slots.specs.Table.{SlotTable, row_at, net_of, cost_of}
use Rattle.fp_cert.specs.declared.shown.CellShown.{CellShown}
use Rattle.fp_cert.specs.declared.shown.CutShown.{CutShown}
use Rattle.fp_cert.specs.Certified.{AreDualsShown, ArePricesShown, row_duals, price_by, price_shown, slot_cost}
use Rattle.fp_cert.specs.Shown.{ShownRow, ShownTrial, rows_of}
use Rattle.fp_cert.specs.Standing.{places_shown, terminals_shown}
use Rattle.fp_cert.specs.Trials.{row_cell, row_cells, row_xs}
use Rattle.fp_flow.specs.Slotted.{slotted_line, slotted_lines, IsSlotted}
use Rattle.fp_flow.specs.Still.{still_cell, still_row}
use Rattle.fp_flow.proofs.Stills.{mapped}

-- ---- prices of lines

-- no price of a list is above the cap; past the end it is 0
capped_at : (prices : List ℕ) → AllByRecursion (λ price. price ≤ 2 ^ 36) prices → (slot : ℕ) → slice_index prices slot ≤ 2 ^ 36
capped_at [] each slot = omega arith
capped_at (price ∷ prices) each zero = each.0
capped_at (price ∷ prices) each (suc slot) = capped_at prices each.1 slot

-- each line has the price of its slot
abbrev ArePriced : List ℕ → List CutShown → Type 0
ArePriced prices cuts = AllByRecursion (λ (cut : CutShown). cut.price ≡ slice_index prices cut.slot.0) cuts

lines_priced : (table : SlotTable) (solution : Solution) (rows : List ℕ) → ArePriced solution.prices (map (slotted_line table solution) rows)
lines_priced table solution [] = tt
lines_priced table solution (row ∷ rows) = (refl, lines_priced table solution rows)

abbrev slots_of : List CutShown → List ℕ
slots_of cuts = map (λ (cut : CutShown). cut.slot.0) cuts

abbrev find_slot : ℕ → List CutShown → Option CutShown
find_slot slot cuts = find (λ (cut : CutShown). nat_eq cut.slot.0 slot) cuts

equal : (a b : ℕ) → nat_eq a b ≡ true → a ≡ b
equal a b is = grind (arith, nat_tests)

unequal : (a b : ℕ) → nat_eq a b ≡ false → a ≢ b
unequal a b is same = grind (arith, nat_tests)

-- the line found for a slot has the slot's price, where slots without a line have the price 0
price_found : (prices : List ℕ) (slot : ℕ) (cuts : List CutShown) → ArePriced prices cuts → (¬ (IsUsed (slots_of cuts) slot) → slice_index prices slot ≡ 0)
    → price_by (find_slot slot cuts) ≡ slice_index prices slot
price_found prices slot [] each unused = sym (unused (λ used. absurd (omega (arith, used.1))))
price_found prices slot (cut ∷ cuts) each unused = by (nat_eq cut.slot.0 slot) refl (price_found prices slot cuts each.1)
  where
    passed : nat_eq cut.slot.0 slot ≡ false → ¬ (IsUsed (slots_of cuts) slot) → (n : ℕ) → n < length (slots_of (cut ∷ cuts)) → slice_index (slots_of (cut ∷ cuts)) n ≡ slot → ⊥
    passed other free zero below same = unequal cut.slot.0 slot other same
    passed other free (suc n) below same = free (n, omega (arith, below), same)

    by : (b : Bool) → nat_eq cut.slot.0 slot ≡ b → ((¬ (IsUsed (slots_of cuts) slot) → slice_index prices slot ≡ 0) → price_by (find_slot slot cuts) ≡ slice_index prices slot)
        → price_by (cond b (Some cut) (find_slot slot cuts)) ≡ slice_index prices slot
    by true is behind = each.0 ∙ ap (slice_index prices) (equal cut.slot.0 slot is)
    by false other behind = behind (λ free. unused (λ used. passed other free used.0 used.1 used.2))

-- ---- the slots that were solved for

no_line : CutShown
no_line = record { net = record { 0 = 0 }; slot = record { 0 = 0 }; price = 0 }

set_to : (terminals : List (Option Point)) (net : ℕ) (centre : Point) → net < length terminals → terminal_at (set terminals net (Some centre)) net ≡ Some centre
set_to terminals net centre below = get_or-set_same terminals net (Some centre) None below

-- what a slot costs the net of a row where a trial shows the placement is its cost in the table
cost_shown : (p : Netlist) (grid : Slots) (placed slotted : Placed) (before after trial : ShownTrial) → IsPlacementOf p placed → (s : IsSlotted p grid placed slotted before after)
    → places_shown p trial ≡ places_of placed → terminals_shown p grid trial ≡ slotted.terminals → (row slot : ℕ) → row < length s.table.rows
    → slot_cost p grid trial (net_of s.table row) slot ≡ cost_of s.table row slot
cost_shown p grid placed slotted before after trial is s places terminals row slot below =
    (λ i. unsigned_abs (net_length p (places i) (set (terminals i) net (Some centre)) net))
    ∙ ap unsigned_abs (net_length_by p (places_of placed) (set slotted.terminals net (Some centre)) (set placed.terminals net (Some centre)) net alike ∙ sym (s.costs.lengths row centre below))
    ∙ ap (λ (slots : Slots). unsigned_abs (length_with (row_at s.table row) (centre_of slots slot))) (sym s.costs.slots)
  where
    net : ℕ
    net = net_of s.table row

    centre : Point
    centre = centre_of grid slot

    within : net < length p.nets
    within = (s.costs.rows row below).within

    many : length slotted.terminals ≡ length p.nets
    many = ap (λ (pl : Placed). length pl.terminals) s.slotted_is ∙ length-chosen_terminals p grid (dies_of (places_of placed)) s.solution.chosen

    alike : terminal_at (set slotted.terminals net (Some centre)) net ≡ terminal_at (set placed.terminals net (Some centre)) net
    alike = set_to slotted.terminals net centre (omega (arith, within, many)) ∙ sym (set_to placed.terminals net centre (omega (arith, within, is.nets)))

lines_of : (p : Netlist) (grid : Slots) (placed slotted : Placed) (before after trial : ShownTrial) → (s : IsSlotted p grid placed slotted before after) → trial.cuts ≡ after.cuts
    → trial.cuts ≡ slotted_lines s.table s.solution (length s.table.rows)
lines_of p grid placed slotted before after trial s cuts = cuts ∙ ap (λ (t : ShownTrial). t.cuts) s.after_is

-- the slots of the lines are those of the solution
slots_listed : (p : Netlist) (grid : Slots) (placed slotted : Placed) (before after : ShownTrial) → (s : IsSlotted p grid placed slotted before after)
    → slots_of (slotted_lines s.table s.solution (length s.table.rows)) ≡ s.solution.chosen
slots_listed p grid placed slotted before after s = sym (ap (λ (t : ShownTrial). slots_of t.cuts) s.after_is) ∙ s.slots_are

many_chosen : (p : Netlist) (grid : Slots) (placed slotted : Placed) (before after : ShownTrial) → (s : IsSlotted p grid placed slotted before after)
    → length s.solution.chosen ≡ length s.table.rows
many_chosen p grid placed slotted before after s =
    sym (ap length (slots_listed p grid placed slotted before after s)) ∙ length-map (slotted_lines s.table s.solution (length s.table.rows)) (λ (cut : CutShown). cut.slot.0)
    ∙ length-map-range_with_len (slotted_line s.table s.solution) 0 (length s.table.rows)

-- a slot's price, as a trial shows it, is that of the solution
price_is : (p : Netlist) (grid : Slots) (placed slotted : Placed) (before after trial : ShownTrial) → (s : IsSlotted p grid placed slotted before after) → trial.cuts ≡ after.cuts
    → (slot : ℕ) → slot < slot_count grid → price_shown trial slot ≡ slice_index s.solution.prices slot
price_is p grid placed slotted before after trial s cuts slot below =
    ap (λ (list : List CutShown). price_by (find_slot slot list)) (lines_of p grid placed slotted before after trial s cuts)
    ∙ price_found s.solution.prices slot (slotted_lines s.table s.solution (length s.table.rows)) (lines_priced s.table s.solution (range_with_len 0 (length s.table.rows)))
    (λ free. s.prices.unused slot below (λ used. free (subst (λ (list : List ℕ). IsUsed list slot) (sym (slots_listed p grid placed slotted before after s)) used)))

by_costs : (mine its paid price cost other own least : ℕ) → mine ≡ cost → its ≡ other → price ≡ least → paid ≡ own → cost + own ≤ other + least → mine + paid ≤ its + price
by_costs mine its paid price cost other own least a b c d less = omega arith

-- Prices of the slots that were solved for show the slots to be the best, where a trial shows the placement and lists the lines,
pub slotted_prices : (p : Netlist) (grid : Slots) (placed slotted : Placed) (before after trial : ShownTrial) → IsPlacementOf p placed
    → IsSlotted p grid placed slotted before after → trial.cuts ≡ after.cuts → places_shown p trial ≡ places_of placed
    → terminals_shown p grid trial ≡ slotted.terminals → ArePricesShown p grid trial
slotted_prices p grid placed slotted before after trial is s cuts places terminals row cut slot at slot_in =
    subst (λ (c : CutShown). slot_cost p grid trial c.net.0 c.slot.0 + c.price ≤ slot_cost p grid trial c.net.0 slot + price_shown trial slot) line
    (by_costs _ _ _ _ _ _ _ _ (cost row own row_in) (cost row slot row_in) (price_is p grid placed slotted before after trial s cuts slot slot_in) refl
    (s.prices.best row (omega (arith, row_in, many_chosen p grid placed slotted before after s)) slot slot_in))
  where
    lines : List CutShown
    lines = slotted_lines s.table s.solution (length s.table.rows)

    own : ℕ
    own = slice_index s.solution.chosen row

    there : slice_get lines row ≡ Some cut
    there = ap (λ (list : List CutShown). slice_get list row) (sym (lines_of p grid placed slotted before after trial s cuts)) ∙ at

    row_in : row < length s.table.rows
    row_in = omega (arith, slice_get_within lines row cut there, length-map-range_with_len (slotted_line s.table s.solution) 0 (length s.table.rows))

    line : slotted_line s.table s.solution row ≡ cut
    line =
        sym (get_or-map-range_with_len (slotted_line s.table s.solution) 0 (length s.table.rows) row row no_line row_in (omega arith))
        ∙ get_or_from_slice_get lines row cut no_line there

    cost : (row slot : ℕ) → row < length s.table.rows → slot_cost p grid trial (net_of s.table row) slot ≡ cost_of s.table row slot
    cost = cost_shown p grid placed slotted before after trial is s places terminals

-- and are small.
pub slotted_prices_small : (p : Netlist) (grid : Slots) (placed slotted : Placed) (before after trial : ShownTrial) → IsSlotted p grid placed slotted before after
    → trial.cuts ≡ after.cuts → All (λ cut. cut.price ≤ 2 ^ 36) trial.cuts
slotted_prices_small p grid placed slotted before after trial s cuts =
    subst (All (λ (cut : CutShown). cut.price ≤ 2 ^ 36)) (sym (lines_of p grid placed slotted before after trial s cuts))
    (All-map (λ (cut : CutShown). cut.price ≤ 2 ^ 36) (slotted_line s.table s.solution) rows
    (λ k d below. capped_at s.solution.prices (recursion_from_All (λ price. price ≤ 2 ^ 36) s.solution.prices s.capped) (slice_index s.solution.chosen (get_or rows k d))))
  where
    rows : List ℕ
    rows = range_with_len 0 (length s.table.rows)

-- ---- cells that stand on their targets

-- over a cell that stands on its target the dual 0 stays 0, as it costs more one step to either side
falls_by_0 : (c : RowCell) (x : ℤ) → c.target ≡ x → pos 1 ≤ℤ c.weight → FallsBy squared_rise c x 0 0
unfolding squared_rise
falls_by_0 c x on some =
    let left : pos 2 *ℤ ((x -ℤ pos 1) -ℤ c.target) +ℤ pos 1 ≡ negsuc 0 = omega (arith, ints, on) in
    let here : pos 2 *ℤ (x -ℤ c.target) +ℤ pos 1 ≡ pos 1 = omega (arith, ints, on) in
    (omega (arith, ints, some, ap (λ k. c.weight *ℤ k) left), omega (arith, ints, some, ap (λ k. c.weight *ℤ k) here))

still_shown : (p : Netlist) (die : Die) (placed : Placed) (lane : List CellId) (from to : ℤ)
    → ShownBy width_of squared_rise from to (row_cells p die (still_row placed lane)) (row_xs (still_row placed lane)) 0 (map (λ (cell : CellShown). cell.dual) (still_row placed lane).cells)
still_shown p die placed [] from to = λ above. absurd (omega (arith, above))
still_shown p die placed (cell ∷ lane) from to = (
  λ above. absurd (omega (arith, above)),
  falls_by_0 (row_cell p die (still_cell placed cell)) (spot_at placed.spots cell.0).x refl (omega (arith, ints)),
  still_shown p die placed lane ((spot_at placed.spots cell.0).x +ℤ pos (width p cell.0 die)) to,
)

row_still : (p : Netlist) (die : Die) (placed : Placed) (lane : List CellId) (from to : ℤ)
    → AreDuals (row_cells p die (still_row placed lane)) from to (row_xs (still_row placed lane)) (row_duals (still_row placed lane))
row_still p die placed [] from to = (refl, refl, refl)
row_still p die placed (cell ∷ lane) from to = still_shown p die placed (cell ∷ lane) from to

-- The duals of lanes as they stand are all 0, which shows their positions to be the best,
pub still_duals : (p : Netlist) (trial : ShownTrial) (placed : Placed) → ((die : Die) → rows_of trial die ≡ map (still_row placed) (lanes_of placed die)) → AreDualsShown p trial
still_duals p trial placed rows die number segment row there at =
    let lane = mapped (still_row placed) _ row (sym (slice_get-map (still_row placed) (lanes_of placed die) number) ∙ ap (λ (list : List ShownRow). slice_get list number) (sym (rows die)) ∙ at) in
    subst (λ (r : ShownRow). AreDuals (row_cells p die r) segment.start (segment.start +ℤ segment.length) (row_xs r) (row_duals r)) lane.1
    (row_still p die placed lane.0 segment.start (segment.start +ℤ segment.length))

no_duals : (placed : Placed) (lane : List CellId) → AllByRecursion (λ dual. dual ≤ 2 ^ 57) (map (λ (cell : CellShown). cell.dual) (still_row placed lane).cells)
no_duals placed [] = tt
no_duals placed (cell ∷ lane) = (omega arith, no_duals placed lane)

-- and small.
pub still_duals_small : (trial : ShownTrial) (placed : Placed) → ((die : Die) → rows_of trial die ≡ map (still_row placed) (lanes_of placed die))
    → (die : Die) → All (λ row. All (λ dual. dual ≤ 2 ^ 57) (row_duals row)) (rows_of trial die)
still_duals_small trial placed rows die =
    subst (All (λ (row : ShownRow). All (λ dual. dual ≤ 2 ^ 57) (row_duals row))) (sym (rows die))
    (All-map (λ (row : ShownRow). All (λ dual. dual ≤ 2 ^ 57) (row_duals row)) (still_row placed) (lanes_of placed die)
    (λ k d below. small (get_or (lanes_of placed die) k d)))
  where
    small : (lane : List CellId) → All (λ dual. dual ≤ 2 ^ 57) (row_duals (still_row placed lane))
    small lane = All-from_recursion (λ dual. dual ≤ 2 ^ 57) (row_duals (still_row placed lane)) (omega arith, no_duals placed lane)
