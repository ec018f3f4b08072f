-- The costs of slots, their floors and their limits.
use Rattle.std.proofs.Common.{◌≡◌, ℕ, ◌*◌, ◌/◌, ◌<◌, ◌≤◌, ◌^◌, All, List, length, get_or, set, None, Some, Option, ℤ, pos, ◌+ℤ◌, ◌≤ℤ◌, ◌++◌, ◌∷◌, [], if◌then◌else◌, refl, sym, ap, subst, ◌∙◌, arith, get_or-set_same}
use Rattle.std.proofs.lemmas.Int.{ints}
use Rattle.std.proofs.lemmas.List.{get_or_default}
use Rattle.std.proofs.lemmas.List.Elements.{All-get_or}
use Rattle.fp_base.specs.declared.ids.Die.{Die}
use Rattle.fp_base.specs.declared.ids.Die.TheVariants.{Top, Bottom}
use Rattle.fp_base.specs.declared.ids.Point.{Point}
use Rattle.fp_tech.specs.Slots.{Slots, across, slot_count, stripe_of, slot_limit, row_y, centre_of}
use Rattle.fp_netlist.specs.Netlist.{Netlist}
use Rattle.fp_place.specs.Cut.{is_cut}
use Rattle.fp_place.specs.Places.{Place, dies_of}
use Rattle.fp_place.specs.Placed.{Placed, places_of, IsPlacementOf}
use Rattle.fp_match.specs.Prices.{IsWithinLimits, IsFloor}
use Rattle.fp_score.specs.declared.reach.Reach.{Reach}
use Rattle.fp_score.specs.declared.reaches.Reaches.{Reaches}
use Rattle.fp_score.specs.Score.{stretched, half_perimeter, length_of, pins_on, listed, terminal_at, net_length}
use Rattle.fp_score.specs.Reaches.{joined, half, reach_after, IsNear}
use Rattle.fp_score.specs.ScoreLaws.{length_by_reach, after_append}
use Rattle.fp_slots.specs.declared.cut_net.CutNet.{CutNet}
use Rattle.fp_slots.specs.CutNets.{width_with, height_with, length_with, best_x, cut_nets, IsLeastAt, IsNearNet}
use Rattle.fp_slots.specs.Table.{SlotTable, no_net, row_at, cost_of, IsRowOf, IsCostsOf}
use Rattle.fp_slots.proofs.Lengths.{pos_abs, length_by_axes, length_near, least_width, least_length}
use Rattle.fp_slots.proofs.Rows.{length-cut_nets, rows_are}
use Rattle.fp_slots.proofs.SlotLemmas.{stripe_is, row_of, first_of_row}

-- every slot's centre is in range
abbrev pub AreNearSlots : Slots → Type 0
AreNearSlots grid = (slot : ℕ) → slot < slot_count grid → IsNear (centre_of grid slot)

-- a cost is the length
pub cost_is : (table : SlotTable) (row slot : ℕ) → IsNearNet (row_at table row) → IsNear (centre_of table.grid slot)
    → pos (cost_of table row slot) ≡ length_with (row_at table row) (centre_of table.grid slot)
cost_is table row slot near centre =
    pos_abs (length_with (row_at table row) (centre_of table.grid slot)) (length_near (row_at table row) (centre_of table.grid slot) near centre).0

-- there are few rows and slots, and no cost is great
pub within_limits : (table : SlotTable) → length table.rows ≤ 2 ^ 18 → slot_count table.grid ≤ slot_limit → All IsNearNet table.rows → AreNearSlots table.grid
    → IsWithinLimits (length table.rows) (slot_count table.grid) (cost_of table)
within_limits table few_rows few_slots near_rows near_slots = record {
  most_rows = few_rows;
  most_columns = few_slots;
  most_cost = λ row slot row_in slot_in.
      let near = All-get_or IsNearNet table.rows row no_net row_in near_rows in
      omega (arith, ints, cost_is table row slot near (near_slots slot slot_in), (length_near (row_at table row) (centre_of table.grid slot) near (near_slots slot slot_in)).1);
}

-- the length at the best x is the least at that y
least_at : (it : CutNet) (y : ℤ) (floor : ℕ) → IsNearNet it → pos floor ≡ length_with it (record { x = best_x it; y = y }) → IsLeastAt it y floor
least_at it y floor near is = (width_with it (best_x it), least_width it near, is ∙ swapped (width_with it (best_x it)) (height_with it y))
  where
    swapped : (a b : ℤ) → a +ℤ b ≡ b +ℤ a
    swapped a b = omega (arith, ints)

-- no slot of a stripe costs less than the least length at its y
is_floor : (table : SlotTable) (row stripe floor : ℕ) → IsNearNet (row_at table row) → AreNearSlots table.grid
    → pos floor ≡ length_with (row_at table row) (record { x = best_x (row_at table row); y = pos (row_y table.grid stripe) })
    → IsFloor (cost_of table row) (slot_count table.grid) (stripe_of table.grid) stripe floor
is_floor table row stripe floor near near_slots is slot from to below =
    let it = row_at table row in
    let same : slot / across table.grid ≡ stripe = row_of table.grid stripe slot from to below in
    let least = least_length it (centre_of table.grid slot).x (pos (row_y table.grid stripe)) near in
    let there : length_with it (record { x = (centre_of table.grid slot).x; y = pos (row_y table.grid stripe) }) ≡ length_with it (centre_of table.grid slot) =
    ap (λ r. length_with it (record { x = (centre_of table.grid slot).x; y = pos (row_y table.grid r) })) (sym same) in
    compared (length_with it (record { x = best_x it; y = pos (row_y table.grid stripe) }))
    (length_with it (record { x = (centre_of table.grid slot).x; y = pos (row_y table.grid stripe) })) (length_with it (centre_of table.grid slot))
    floor (cost_of table row slot) is (cost_is table row slot near (near_slots slot below)) least there
  where
    compared : (a b c : ℤ) (floor cost : ℕ) → pos floor ≡ a → pos cost ≡ c → a ≤ℤ b → b ≡ c → floor ≤ cost
    compared a b c floor cost is_a is_c less same = omega (arith, ints)

-- a die's pins with a terminal
one_die : (p : Netlist) (places : List Place) (die : Die) (net : ℕ) (reach : Reach) (centre : Point) → reach_after None (pins_on p places die net) ≡ Some reach
    → half_perimeter (stretched reach centre) ≡ length_of (pins_on p places die net ++ centre ∷ [])
unfolding reach_after
one_die p places die net reach centre is =
    sym (length_by_reach (pins_on p places die net ++ centre ∷ [])
    ∙ ap half (after_append None (pins_on p places die net) (centre ∷ []))
    ∙ ap (λ (r : Option Reach). half (Some (joined r centre))) is)

-- a row's length with a terminal is its net's with that terminal set
net_length_with : (p : Netlist) (places : List Place) (terminals : List (Option Point)) (row : ℕ) (it : CutNet) (centre : Point) → length terminals ≡ length p.nets
    → IsRowOf p places row it → length_with it centre ≡ net_length p places (set terminals it.net.0 (Some centre)) it.net.0
net_length_with p places terminals row it centre many is =
    sym (length_by_axes it centre)
    ∙ (λ i. one_die p places Top it.net.0 it.top centre (ap (λ (r : Reaches). r.top) is.reaches) i +ℤ one_die p places Bottom it.net.0 it.bottom centre (ap (λ (r : Reaches). r.bottom) is.reaches) i)
    ∙ ap (λ (points : List Point). length_of (pins_on p places Top it.net.0 ++ points) +ℤ length_of (pins_on p places Bottom it.net.0 ++ points)) (sym listed_is)
  where
    set_to : terminal_at (set terminals it.net.0 (Some centre)) it.net.0 ≡ Some centre
    set_to = get_or-set_same terminals it.net.0 (Some centre) None (omega (arith, is.within))

    listed_is : (if is_cut p (dies_of places) it.net.0 then listed (terminal_at (set terminals it.net.0 (Some centre)) it.net.0) else []) ≡ centre ∷ []
    listed_is = λ i. if is.is_cut_net i then listed (set_to i) else []

-- the cut nets and the grid are the costs of the placement
pub costs_of : (p : Netlist) (placed : Placed) (table : SlotTable) → IsPlacementOf p placed → table.rows ≡ cut_nets p (places_of placed) (length p.nets)
    → All IsNearNet table.rows → AreNearSlots table.grid → IsCostsOf p placed table.grid table
costs_of p placed table is rows near near_slots = record {
  slots = refl;
  all_cut = ap length rows ∙ length-cut_nets p (places_of placed) (length p.nets);
  rows = each;
  lengths = λ row centre within. net_length_with p (places_of placed) placed.terminals row (row_at table row) centre is.nets (each row within);
  costs = λ row slot within below. cost_is table row slot (All-get_or IsNearNet table.rows row no_net within near) (near_slots slot below)
      ∙ net_length_with p (places_of placed) placed.terminals row (row_at table row) (centre_of table.grid slot) is.nets (each row within);
}
  where
    each : (row : ℕ) → row < length table.rows → IsRowOf p (places_of placed) row (row_at table row)
    each row within =
        subst (λ (list : List CutNet). IsRowOf p (places_of placed) row (get_or list row no_net)) (sym rows)
        (rows_are p (places_of placed) (length p.nets) (omega arith) row (omega (arith, within, ap length rows)))

-- a row that is read is there, and in range
pub row_found : (table : SlotTable) (row : ℕ) (found : CutNet) → row < length table.rows → found ≡ get_or table.rows row found → found ≡ row_at table row
row_found table row found within is = is ∙ get_or_default table.rows row found no_net within

pub row_near : (table : SlotTable) (row : ℕ) → row < length table.rows → All IsNearNet table.rows → IsNearNet (row_at table row)
row_near table row within near = All-get_or IsNearNet table.rows row no_net within near

-- the length that a floor is
best_length : (table : SlotTable) (row stripe floor wide : ℕ) (found : CutNet) (x : ℤ) (first : Point) → stripe * stripe_of table.grid < slot_count table.grid
    → found ≡ row_at table row → x ≡ best_x found → wide ≡ across table.grid → first ≡ centre_of table.grid (stripe * wide)
    → pos floor ≡ length_with found (record { x = x; y = first.y })
    → pos floor ≡ length_with (row_at table row) (record { x = best_x (row_at table row); y = pos (row_y table.grid stripe) })
best_length table row stripe floor wide found x first below found_is x_is wide_is first_is is =
    is ∙ (λ i. length_with (found_is i) (record { x = best i; y = high i }))
  where
    best : x ≡ best_x (row_at table row)
    best = x_is ∙ ap best_x found_is

    high : first.y ≡ pos (row_y table.grid stripe)
    high = ap (λ (q : Point). q.y) first_is ∙ ap (λ w. (centre_of table.grid (stripe * w)).y) wide_is ∙ first_of_row table.grid stripe below

-- what is computed for a row and a stripe is the least length at the stripe's y, and a floor
pub floors : (table now : SlotTable) (row stripe floor wide : ℕ) (found : CutNet) (x : ℤ) (first : Point) → table ≡ now → All IsNearNet table.rows → AreNearSlots table.grid
    → row < length now.rows → stripe * stripe_of now.grid < slot_count now.grid
    → found ≡ get_or table.rows row found → x ≡ best_x found → wide ≡ stripe_of table.grid → first ≡ centre_of table.grid (stripe * wide)
    → pos floor ≡ length_with found (record { x = x; y = first.y })
    → IsLeastAt (row_at now row) (pos (row_y now.grid stripe)) floor × IsFloor (cost_of now row) (slot_count now.grid) (stripe_of now.grid) stripe floor
floors table now row stripe floor wide found x first same near near_slots within below found_is x_is wide_is first_is is =
    subst (λ (t : SlotTable). IsLeastAt (row_at t row) (pos (row_y t.grid stripe)) floor × IsFloor (cost_of t row) (slot_count t.grid) (stripe_of t.grid) stripe floor) same
    (least_at (row_at table row) (pos (row_y table.grid stripe)) floor near_row length_is, is_floor table row stripe floor near_row near_slots length_is)
  where
    row_in : row < length table.rows
    row_in = subst (λ (t : SlotTable). row < length t.rows) (sym same) within

    stripe_in : stripe * stripe_of table.grid < slot_count table.grid
    stripe_in = subst (λ (t : SlotTable). stripe * stripe_of t.grid < slot_count t.grid) (sym same) below

    near_row : IsNearNet (row_at table row)
    near_row = row_near table row row_in near

    length_is : pos floor ≡ length_with (row_at table row) (record { x = best_x (row_at table row); y = pos (row_y table.grid stripe) })
    length_is = best_length table row stripe floor wide found x first stripe_in (row_found table row found row_in found_is) x_is
        (wide_is ∙ stripe_is table.grid (stripe * stripe_of table.grid) stripe_in) first_is is
