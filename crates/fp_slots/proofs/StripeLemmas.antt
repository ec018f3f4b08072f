-- The stripes that may cost a row less than a limit.
use Rattle.std.proofs.Common.{◌≡◌, ℕ, ◌+◌, ◌*◌, ◌/◌, ◌<◌, ◌≤◌, ◌↔◌, ◌^◌, All, length, get_or, ℤ, pos, ◌+ℤ◌, ◌≤ℤ◌, sym, subst, arith}
use Rattle.std.proofs.lemmas.Int.{ints, clamps}
use Rattle.fp_tech.specs.Slots.{Slots, across, up, slot_count, stripe_of, row_y, centre_of}
use Rattle.fp_match.specs.Prices.{AreNearStripes}
use Rattle.fp_slots.specs.declared.cut_net.CutNet.{CutNet}
use Rattle.fp_slots.specs.CutNets.{width_with, height_with, length_with, best_x, turned, IsNearNet, IsWindow}
use Rattle.fp_slots.specs.Table.{SlotTable, row_at, cost_of}
use Rattle.fp_slots.proofs.Lengths.{least_length}
use Rattle.fp_slots.proofs.SlotLemmas.{stripe_in, stripe_before}
use Rattle.fp_slots.proofs.Tables.{AreNearSlots, cost_is, row_found, row_near}

-- a net with x and y exchanged is as long with its terminal exchanged alike
turned_length : (it : CutNet) (x y : ℤ) → length_with (turned it) (record { x = y; y = x }) ≡ length_with it (record { x = x; y = y })
turned_length it x y = swapped (height_with it y) (width_with it x)
  where
    swapped : (a b : ℤ) → a +ℤ b ≡ b +ℤ a
    swapped a b = omega (arith, ints)

pub turned_near : (it : CutNet) → IsNearNet it → IsNearNet (turned it)
turned_near it near = record {
  top = record { left = near.top.low; wide = near.top.tall; right = near.top.high; low = near.top.left; tall = near.top.wide; high = near.top.right };
  bottom = record { left = near.bottom.low; wide = near.bottom.tall; right = near.bottom.high; low = near.bottom.left; tall = near.bottom.wide; high = near.bottom.right };
}

-- so many stripes stand below a y
abbrev pub StandBelow : Slots → ℕ → ℕ → Type 0
StandBelow grid y count = (k : ℕ) → k < up grid → (k < count) ↔ (row_y grid k < y)

are_near : (table : SlotTable) (row limit start end before until : ℕ) → IsNearNet (row_at table row) → AreNearSlots table.grid
    → IsWindow (turned (row_at table row)) (best_x (row_at table row)) limit start end → StandBelow table.grid start before → StandBelow table.grid end until
    → AreNearStripes (cost_of table row) (slot_count table.grid) (stripe_of table.grid) limit before until
are_near table row limit start end before until near near_slots window starts ends = record {
  before = λ slot below under.
      let stripe = slot / across table.grid in
      costs slot below (window.before (row_y table.grid stripe) ((starts stripe (stripe_in table.grid slot below)).0 ((stripe_before table.grid slot before below).1 under)));
  after = λ slot below over.
      let stripe = slot / across table.grid in
      let late : ¬ (stripe < until) = λ early. absurd (omega (arith, over, (stripe_before table.grid slot until below).0 early)) in
      costs slot below (window.after (row_y table.grid stripe) (omega (arith, ints, (near_slots slot below).high))
      (not_less (row_y table.grid stripe) end (λ less. late ((ends stripe (stripe_in table.grid slot below)).1 less))));
}
  where
    it : CutNet
    it = row_at table row

    not_less : (a b : ℕ) → ¬ (a < b) → b ≤ a
    not_less a b no_less = omega (arith, no_less)

    above : (a b c : ℤ) (cost : ℕ) → pos limit ≤ℤ a → a ≡ b → b ≤ℤ c → pos cost ≡ c → limit ≤ cost
    above a b c cost reaches same less is = omega (arith, ints)

    costs : (slot : ℕ) → slot < slot_count table.grid
        → pos limit ≤ℤ length_with (turned it) (record { x = pos (row_y table.grid (slot / across table.grid)); y = best_x it }) → limit ≤ cost_of table row slot
    costs slot below reaches =
        above (length_with (turned it) (record { x = pos (row_y table.grid (slot / across table.grid)); y = best_x it }))
        (length_with it (record { x = best_x it; y = pos (row_y table.grid (slot / across table.grid)) })) (length_with it (centre_of table.grid slot))
        (cost_of table row slot) reaches (turned_length it (best_x it) (pos (row_y table.grid (slot / across table.grid))))
        (least_length it (centre_of table.grid slot).x (pos (row_y table.grid (slot / across table.grid))) near) (cost_is table row slot near (near_slots slot below))

-- what is counted from a lowest stripe and a step stands there
stand : (grid : Slots) (tall lowest step y count : ℕ) → tall ≡ up grid → ((k : ℕ) → k < up grid → lowest + k * step ≡ row_y grid k)
    → ((k : ℕ) → k < tall → (k < count) ↔ (lowest + k * step < y)) → StandBelow grid y count
stand grid tall lowest step y count tall_is places counted k in_grid =
    subst (λ there. (k < count) ↔ (there < y)) (places k in_grid) (counted k (omega (arith, tall_is)))

-- what is computed for a row and a limit
pub near_found : (table now : SlotTable) (row limit start end before until tall lowest step : ℕ) (found net : CutNet) (x : ℤ) → table ≡ now
    → All IsNearNet table.rows → AreNearSlots table.grid → row < length now.rows
    → found ≡ get_or table.rows row found → net ≡ turned found → x ≡ best_x found → tall ≡ up table.grid
    → ((k : ℕ) → k < up table.grid → lowest + k * step ≡ row_y table.grid k)
    → IsWindow net x limit start end
    → ((k : ℕ) → k < tall → (k < before) ↔ (lowest + k * step < start)) → ((k : ℕ) → k < tall → (k < until) ↔ (lowest + k * step < end))
    → AreNearStripes (cost_of now row) (slot_count now.grid) (stripe_of now.grid) limit before until
near_found table now row limit start end before until tall lowest step found net x same near near_slots within found_is net_is x_is tall_is places window starts ends =
    subst (λ (t : SlotTable). AreNearStripes (cost_of t row) (slot_count t.grid) (stripe_of t.grid) limit before until) same
    (are_near table row limit start end before until (row_near table row row_in near) near_slots there
    (stand table.grid tall lowest step start before tall_is places starts) (stand table.grid tall lowest step end until tall_is places ends))
  where
    row_in : row < length table.rows
    row_in = subst (λ (t : SlotTable). row < length t.rows) (sym same) within

    is : found ≡ row_at table row
    is = row_found table row found row_in found_is

    there : IsWindow (turned (row_at table row)) (best_x (row_at table row)) limit start end
    there = subst (λ (n : CutNet). IsWindow (turned n) (best_x n) limit start end) is
        (subst (λ (n : CutNet). IsWindow n (best_x found) limit start end) net_is (subst (λ z. IsWindow net z limit start end) x_is window))

-- a row that was read is in range
pub found_near : (table now : SlotTable) (row : ℕ) (found : CutNet) → table ≡ now → All IsNearNet table.rows → row < length now.rows
    → found ≡ get_or table.rows row found → IsNearNet found
found_near table now row found same near within found_is =
    let row_in : row < length table.rows = subst (λ (t : SlotTable). row < length t.rows) (sym same) within in
    subst IsNearNet (sym (row_found table row found row_in found_is)) (row_near table row row_in near)

pub best_in_range : (it : CutNet) (x : ℤ) → x ≡ best_x it → IsNearNet it → (pos 0 ≤ℤ x) × (x ≤ℤ pos (2 ^ 31))
best_in_range it x is near = (
  omega (arith, ints, clamps, is, near.top.left),
  omega (arith, ints, clamps, is, near.top.wide, near.top.right, near.bottom.wide, near.bottom.right),
)
