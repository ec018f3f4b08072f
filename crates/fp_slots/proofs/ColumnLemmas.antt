-- The columns of a stripe that may cost a row less than a limit.
use Rattle.std.proofs.Common.{◌≡◌, ℕ, ◌+◌, ◌-◌, ◌*◌, ◌%◌, ◌<◌, ◌≤◌, ◌↔◌, All, length, get_or, ℤ, pos, ◌≤ℤ◌, sym, ap, subst, ◌∙◌, arith}
use Rattle.std.proofs.lemmas.Int.{ints}
use Rattle.std.proofs.lemmas.Nat.{div-mul-add, mod-mul-add}
use Rattle.fp_base.specs.declared.ids.Point.{Point}
use Rattle.fp_tech.specs.Slots.{Slots, across, slot_count, stripe_of, column_x, row_y, centre_of}
use Rattle.fp_tech.specs.SlotsLaws.{column_in}
use Rattle.fp_match.specs.Prices.{IsNear}
use Rattle.fp_slots.specs.declared.cut_net.CutNet.{CutNet}
use Rattle.fp_slots.specs.CutNets.{length_with, IsNearNet, IsWindow, IsShortOnEach}
use Rattle.fp_slots.specs.Table.{SlotTable, row_at, cost_of, AreShort}
use Rattle.fp_slots.proofs.SlotLemmas.{stripe_is, row_of, column_of, first_of_row}
use Rattle.fp_slots.proofs.Tables.{AreNearSlots, cost_is, row_found, row_near}

-- so many columns stand before an x
abbrev pub StandBefore : Slots → ℕ → ℕ → Type 0
StandBefore grid x count = (k : ℕ) → k < across grid → (k < count) ↔ (column_x grid k < x)

-- the columns of a stripe from the window's start to its end
is_near : (table : SlotTable) (row stripe limit start end before until : ℕ) → IsNearNet (row_at table row) → AreNearSlots table.grid
    → IsWindow (row_at table row) (pos (row_y table.grid stripe)) limit start end
    → StandBefore table.grid start before → StandBefore table.grid end until
    → IsNear (cost_of table row) (slot_count table.grid) (stripe_of table.grid) stripe limit (stripe * across table.grid + before) (stripe * across table.grid + until)
is_near table row stripe limit start end before until near near_slots window starts ends = record {
  before = λ slot from to below less.
      let column = column_of table.grid stripe slot from to below in
      let in_row = column_in table.grid slot below in
      let early : slot % across table.grid < before = omega (arith, column, less) in
      costs slot from to below (window.before (column_x table.grid (slot % across table.grid)) ((starts (slot % across table.grid) in_row).0 early));
  after = λ slot from to below more.
      let column = column_of table.grid stripe slot from to below in
      let in_row = column_in table.grid slot below in
      let late : ¬ (slot % across table.grid < until) = λ early. absurd (omega (arith, column, more, early)) in
      costs slot from to below (window.after (column_x table.grid (slot % across table.grid)) (omega (arith, ints, (near_slots slot below).right))
      (not_less (column_x table.grid (slot % across table.grid)) end (λ less. late ((ends (slot % across table.grid) in_row).1 less))));
}
  where
    it : CutNet
    it = row_at table row

    not_less : (a b : ℕ) → ¬ (a < b) → b ≤ a
    not_less a b no_less = omega (arith, no_less)

    above : (a b : ℤ) (cost : ℕ) → pos limit ≤ℤ a → a ≡ b → pos cost ≡ b → limit ≤ cost
    above a b cost reaches same is = omega (arith, ints)

    costs : (slot : ℕ) → stripe * stripe_of table.grid ≤ slot → slot < stripe * stripe_of table.grid + stripe_of table.grid → slot < slot_count table.grid
        → pos limit ≤ℤ length_with it (record { x = pos (column_x table.grid (slot % across table.grid)); y = pos (row_y table.grid stripe) }) → limit ≤ cost_of table row slot
    costs slot from to below reaches =
        above (length_with it (record { x = pos (column_x table.grid (slot % across table.grid)); y = pos (row_y table.grid stripe) })) (length_with it (centre_of table.grid slot))
        (cost_of table row slot) reaches
        (ap (λ r. length_with it (record { x = pos (column_x table.grid (slot % across table.grid)); y = pos (row_y table.grid r) })) (sym (row_of table.grid stripe slot from to below)))
        (cost_is table row slot near (near_slots slot below))

-- in each of those columns the net is shorter than the limit on either die alone
are_short : (table : SlotTable) (row stripe limit start end before until : ℕ) → stripe * stripe_of table.grid < slot_count table.grid
    → IsWindow (row_at table row) (pos (row_y table.grid stripe)) limit start end
    → StandBefore table.grid start before → StandBefore table.grid end until → until ≤ across table.grid
    → AreShort table row stripe limit (stripe * across table.grid + before) (stripe * across table.grid + until)
are_short table row stripe limit start end before until below window starts ends most = record {
  from = λ slot from to. omega (arith, width_is, from);
  to = λ slot from to. omega (arith, width_is, to, most, wide_is);
  short = λ slot from to.
      let k : ℕ = slot - stripe * wide in
      let is : stripe * wide + k ≡ slot = omega (arith, from) in
      let counted : k < until = omega (arith, is, to) in
      let in_row : k < wide = omega (arith, counted, most) in
      let after : start ≤ column_x table.grid k = not_less (column_x table.grid k) start (λ less. absurd (omega (arith, is, from, (starts k in_row).1 less))) in
      subst (λ s. IsShortOnEach it (centre_of table.grid s) limit) is (at k in_row (window.inside (column_x table.grid k) after ((ends k in_row).0 counted)));
}
  where
    it : CutNet
    it = row_at table row

    wide : ℕ
    wide = across table.grid

    wide_is : stripe_of table.grid ≡ wide
    wide_is = stripe_is table.grid (stripe * stripe_of table.grid) below

    width_is : stripe * stripe_of table.grid ≡ stripe * wide
    width_is = ap (λ w. stripe * w) wide_is

    not_less : (a b : ℕ) → ¬ (a < b) → b ≤ a
    not_less a b no_less = omega (arith, no_less)

    at : (k : ℕ) → k < wide → IsShortOnEach it (record { x = pos (column_x table.grid k); y = pos (row_y table.grid stripe) }) limit
        → IsShortOnEach it (centre_of table.grid (stripe * wide + k)) limit
    at k in_row is =
        subst (λ r. IsShortOnEach it (record { x = pos (column_x table.grid ((stripe * wide + k) % wide)); y = pos (row_y table.grid r) }) limit) (sym (div-mul-add stripe wide k in_row))
        (subst (λ j. IsShortOnEach it (record { x = pos (column_x table.grid j); y = pos (row_y table.grid stripe) }) limit) (sym (mod-mul-add stripe wide k in_row)) is)

-- all columns of the stripe that may cost the row less, and no others
pub record AreNearColumns (table : SlotTable) (row stripe limit start end : ℕ) : Type 0 where
  pub near : IsNear (cost_of table row) (slot_count table.grid) (stripe_of table.grid) stripe limit start end
  pub short : AreShort table row stripe limit start end

-- what is counted from a first column and a step stands there
stand : (grid : Slots) (wide first step x count : ℕ) → wide ≡ across grid → ((k : ℕ) → k < across grid → first + k * step ≡ column_x grid k)
    → ((k : ℕ) → k < wide → (k < count) ↔ (first + k * step < x)) → StandBefore grid x count
stand grid wide first step x count wide_is places counted k in_row =
    subst (λ there. (k < count) ↔ (there < x)) (places k in_row) (counted k (omega (arith, wide_is)))

-- what is computed for a row, a stripe and a limit
pub nears : (table now : SlotTable) (row stripe limit start end before until wide lowest step : ℕ) (found : CutNet) (first : Point) → table ≡ now
    → All IsNearNet table.rows → AreNearSlots table.grid → row < length now.rows → stripe * stripe_of now.grid < slot_count now.grid
    → found ≡ get_or table.rows row found → wide ≡ across table.grid → first ≡ centre_of table.grid (stripe * wide)
    → ((k : ℕ) → k < across table.grid → lowest + k * step ≡ column_x table.grid k)
    → IsWindow found first.y limit start end
    → ((k : ℕ) → k < wide → (k < before) ↔ (lowest + k * step < start)) → ((k : ℕ) → k < wide → (k < until) ↔ (lowest + k * step < end)) → until ≤ wide
    → AreNearColumns now row stripe limit (stripe * wide + before) (stripe * wide + until)
nears table now row stripe limit start end before until wide lowest step found first same near near_slots within below found_is wide_is first_is places window starts ends most =
    subst (λ (t : SlotTable). AreNearColumns t row stripe limit (stripe * wide + before) (stripe * wide + until)) same
    (subst (λ w. AreNearColumns table row stripe limit (stripe * w + before) (stripe * w + until)) (sym wide_is) (record {
      near = is_near table row stripe limit start end before until (row_near table row row_in near) near_slots there starts_there ends_there;
      short = are_short table row stripe limit start end before until stripe_in there starts_there ends_there (omega (arith, most, wide_is));
    }))
  where
    row_in : row < length table.rows
    row_in = subst (λ (t : SlotTable). row < length t.rows) (sym same) within

    stripe_in : stripe * stripe_of table.grid < slot_count table.grid
    stripe_in = subst (λ (t : SlotTable). stripe * stripe_of t.grid < slot_count t.grid) (sym same) below

    high : first.y ≡ pos (row_y table.grid stripe)
    high = ap (λ (q : Point). q.y) first_is ∙ ap (λ w. (centre_of table.grid (stripe * w)).y) wide_is ∙ first_of_row table.grid stripe stripe_in

    there : IsWindow (row_at table row) (pos (row_y table.grid stripe)) limit start end
    there = subst (λ (n : CutNet). IsWindow n (pos (row_y table.grid stripe)) limit start end) (row_found table row found row_in found_is)
        (subst (λ y. IsWindow found y limit start end) high window)

    starts_there : StandBefore table.grid start before
    starts_there = stand table.grid wide lowest step start before wide_is places starts

    ends_there : StandBefore table.grid end until
    ends_there = stand table.grid wide lowest step end until wide_is places ends
