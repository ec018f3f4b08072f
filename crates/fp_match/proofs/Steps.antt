-- The steps of a scan, over what the code reads.
use Rattle.std.proofs.Common.{◌≡◌, ◌≢◌, ℕ, ◌+◌, ◌-◌, ◌*◌, ◌<◌, ◌≤◌, inl, inr, List, length, get_or, min, max, sym, ap, ◌∙◌, arith}
use Rattle.std.specs.Prelude.{slice_index, ◌^◌}
use Rattle.std.proofs.lemmas.Bool.{cases_lt}
use Rattle.std.proofs.lemmas.Nat.{mul-le}
use Rattle.std.proofs.lemmas.Grind.{get_or_default_zero}
use Rattle.fp_match.specs.declared.labels.Labels.{Labels}
use Rattle.fp_match.specs.declared.matching.Matching.{Matching}
use Rattle.fp_match.specs.declared.scan.Turn.{Turn}
use Rattle.fp_match.specs.Prices.{IsWithinLimits, IsFloor, IsNear, AreNearStripes}
use Rattle.fp_match.specs.Owners.{unused}
use Rattle.fp_match.specs.Search.{far, label_of, row_at, owner_of, column_of, price_of, HasRoom, Fits, IsMatching, least_of, IsTree, Grown, Scanned, StripeCovered, StripeScanned, IsOffer, Offered, IsTurn, IsLowered, IsEntered}
use Rattle.fp_match.proofs.Tree.{least_held, least_start, place_for, tree_lowered, tree_entered, tree_sunk, tree_same, grown_refl, covered_grown, covered_far, offer_of, turn_low, scanned_more}

-- what a read gives
pub read_is : (xs : List ℕ) (i x : ℕ) → i < length xs → x ≡ get_or xs i x → slice_index xs i ≡ x
read_is xs i x lt read = sym (get_or_default_zero xs i x lt) ∙ sym read

pub room_less : (row h : ℕ) (l : Labels) → HasRoom row l → h ≤ row → HasRoom h l
room_less row h l room le = record {
  labels = omega (arith, room.labels);
  parents = omega (arith, room.parents);
  places = omega (arith, room.places);
}

-- a column whose owner is not marked as unused has a row
pub owned_row : (cost : ℕ → ℕ → ℕ) (columns row : ℕ) (m : Matching) (l : Labels) (s v h : ℕ) → IsOffer cost columns row m l s v
    → owner_of m s ≡ h → h ≢ unused → h < row
owned_row cost columns row m l s v h offer owner_is used =
    elim (cases_lt h row) [
      | inl lt ↦ lt
      | inr le ↦ absurd (used (sym owner_is ∙ offer.agree.free s offer.within (rw owner_is le)))
    ]

pub offer_sunk : (cost : ℕ → ℕ → ℕ) (columns row : ℕ) (m : Matching) (l l' : Labels) (s v h : ℕ) → IsTree cost columns row m l
    → Fits columns row m → IsOffer cost columns row m l s v → h ≡ get_or m.owner.items s h → h ≡ unused
    → l' ≡ record l { level = v; sink = s; last = l.at } → Offered cost columns row m l l' s
offer_sunk cost columns row m l l' s v h tree fits offer read free is =
    let owner_is : owner_of m s ≡ h = read_is m.owner.items s h (omega (arith, offer.within, fits.owners)) read in
    tree_sunk cost columns row m l l' v s tree offer (omega (arith, offer.few)) is

pub enter_row : (cost : ℕ → ℕ → ℕ) (columns row : ℕ) (m : Matching) (l : Labels) (s v h : ℕ) → Fits columns row m
    → IsOffer cost columns row m l s v → h ≡ get_or m.owner.items s h → h ≢ unused → h < row
enter_row cost columns row m l s v h fits offer read used =
    owned_row cost columns row m l s v h offer (read_is m.owner.items s h (omega (arith, offer.within, fits.owners)) read) used

pub enter_place : (cost : ℕ → ℕ → ℕ) (columns row : ℕ) (m : Matching) (l : Labels) (h known : ℕ) → IsTree cost columns row m l
    → h < row → known ≡ get_or l.label.items h known → known ≡ far → l.count < length l.reached.items
enter_place cost columns row m l h known tree lt read is_far =
    let label : label_of l h ≡ known = read_is l.label.items h known (omega (arith, tree.room.labels)) read in
    let place : l.count < row + 1 = place_for cost columns row m l h tree (omega arith) (omega arith) in
    omega (arith, tree.room.places)

pub offer_entered : (cost : ℕ → ℕ → ℕ) (columns row : ℕ) (m : Matching) (l l' : Labels) (s v h known : ℕ) → IsTree cost columns row m l
    → Fits columns row m → IsOffer cost columns row m l s v → h ≡ get_or m.owner.items s h → h ≢ unused
    → known ≡ get_or l.label.items h known → known ≡ far → IsEntered l l' h v → Offered cost columns row m l l' s
offer_entered cost columns row m l l' s v h known tree fits offer read used read_label is_far entered =
    let owner_is : owner_of m s ≡ h = read_is m.owner.items s h (omega (arith, offer.within, fits.owners)) read in
    let lt : h < row = owned_row cost columns row m l s v h offer owner_is used in
    let label : label_of l h ≡ known = read_is l.label.items h known (omega (arith, tree.room.labels)) read_label in
    tree_entered cost columns row m l l' h v s tree offer owner_is lt (label ∙ is_far) entered

pub offer_lowered : (cost : ℕ → ℕ → ℕ) (columns row : ℕ) (m : Matching) (l l' : Labels) (s v h known : ℕ) → IsTree cost columns row m l
    → Fits columns row m → IsOffer cost columns row m l s v → h ≡ get_or m.owner.items s h → h ≢ unused
    → known ≡ get_or l.label.items h known → known ≢ far → v < known → IsLowered l l' h v → Offered cost columns row m l l' s
offer_lowered cost columns row m l l' s v h known tree fits offer read used read_label near lower lowered =
    let owner_is : owner_of m s ≡ h = read_is m.owner.items s h (omega (arith, offer.within, fits.owners)) read in
    let lt : h < row = owned_row cost columns row m l s v h offer owner_is used in
    let label : label_of l h ≡ known = read_is l.label.items h known (omega (arith, tree.room.labels)) read_label in
    tree_lowered cost columns row m l l' h v s tree offer owner_is lt (λ e. near (sym label ∙ e)) lowered (omega arith)

pub offer_same : (cost : ℕ → ℕ → ℕ) (columns row : ℕ) (m : Matching) (l : Labels) (s v h known : ℕ) → IsTree cost columns row m l
    → Fits columns row m → IsOffer cost columns row m l s v → h ≡ get_or m.owner.items s h → h ≢ unused
    → known ≡ get_or l.label.items h known → known ≤ v → Offered cost columns row m l l s
offer_same cost columns row m l s v h known tree fits offer read used read_label lower =
    let owner_is : owner_of m s ≡ h = read_is m.owner.items s h (omega (arith, offer.within, fits.owners)) read in
    let lt : h < row = owned_row cost columns row m l s v h offer owner_is used in
    let label : label_of l h ≡ known = read_is l.label.items h known (omega (arith, tree.room.labels)) read_label in
    tree_same cost columns row m l h v s tree offer owner_is lt (omega arith)

pub least_bound : (cost : ℕ → ℕ → ℕ) (rows columns row : ℕ) (m : Matching) (l : Labels) (t : Turn) → IsWithinLimits rows columns cost
    → IsMatching cost columns row m → IsTree cost columns row m l → IsTurn cost row m l t → (s : ℕ) → s < columns → row < rows
    → t.least ≤ 2 ^ 37
least_bound cost rows columns row m l t limits matched tree turn s within row_in =
    let low : t.least ≤ cost t.row s + price_of m s = turn_low cost columns row m l t s matched tree turn within in
    let most : cost t.row s ≤ 2 ^ 36 = limits.most_cost t.row s (omega (arith, turn.row_is, tree.reached l.at tree.within)) within in
    omega (arith, matched.capped s within)

pub value_low : (cost : ℕ → ℕ → ℕ) (columns row : ℕ) (m : Matching) (l : Labels) (t : Turn) (s paid price : ℕ) → IsMatching cost columns row m
    → IsTree cost columns row m l → IsTurn cost row m l t → Fits columns row m → s < columns → paid ≡ cost t.row s
    → price ≡ get_or m.prices.items s price → t.least ≤ t.depth + (paid + price)
value_low cost columns row m l t s paid price matched tree turn fits within paid_is read =
    let price_is : price_of m s ≡ price = read_is m.prices.items s price (omega (arith, fits.prices)) read in
    omega (arith, turn_low cost columns row m l t s matched tree turn within)

pub value_offer : (cost : ℕ → ℕ → ℕ) (columns row : ℕ) (m : Matching) (l : Labels) (t : Turn) (s paid price : ℕ) → IsMatching cost columns row m
    → IsTree cost columns row m l → IsTurn cost row m l t → Fits columns row m → s < columns → row < unused → paid ≡ cost t.row s
    → price ≡ get_or m.prices.items s price → t.depth + (paid + price) < l.level + t.least
    → IsOffer cost columns row m l s (t.depth + (paid + price) - t.least)
value_offer cost columns row m l t s paid price matched tree turn fits within few paid_is read lower =
    let price_is : price_of m s ≡ price = read_is m.prices.items s price (omega (arith, fits.prices)) read in
    let low : t.least ≤ t.depth + (paid + price) = value_low cost columns row m l t s paid price matched tree turn fits within paid_is read in
    offer_of cost columns row m l t s (t.depth + (paid + price)) (t.depth + (paid + price) - t.least) matched tree turn within few
    (omega arith) lower (omega arith)

-- a column that lies no nearer than the level
pub value_far : (cost : ℕ → ℕ → ℕ) (columns row : ℕ) (m : Matching) (l : Labels) (t : Turn) (s paid price : ℕ) → IsTree cost columns row m l
    → IsTurn cost row m l t → Fits columns row m → s < columns → paid ≡ cost t.row s
    → price ≡ get_or m.prices.items s price → l.level + t.least ≤ t.depth + (paid + price)
    → Offered cost columns row m l l s
value_far cost columns row m l t s paid price tree turn fits within paid_is read over =
    let price_is : price_of m s ≡ price = read_is m.prices.items s price (omega (arith, fits.prices)) read in
    record {
      tree = tree;
      grown = grown_refl l;
      covered = covered_far cost row m l t s (price_of m s) turn (omega arith) (omega arith);
    }

-- a stripe whose floor lies no nearer than the level
pub floor_far : (cost : ℕ → ℕ → ℕ) (columns width row : ℕ) (m : Matching) (l : Labels) (t : Turn) (stripe floor : ℕ)
    → IsTree cost columns row m l → IsTurn cost row m l t → IsFloor (cost t.row) columns width stripe floor
    → l.level + t.least ≤ t.depth + floor → StripeScanned cost columns width row m l l stripe
floor_far cost columns width row m l t stripe floor tree turn below over = record {
  tree = tree;
  grown = grown_refl l;
  covered = λ s le lt.
      let low : floor ≤ cost t.row s = below s le (omega arith) (omega arith) in
      covered_far cost row m l t s 0 turn (omega arith) (omega arith);
}

pub stripe_same : (cost : ℕ → ℕ → ℕ) (columns width row : ℕ) (m : Matching) (l : Labels) (first stripe : ℕ)
    → IsTree cost columns row m l → StripeCovered cost columns width row m l first → stripe ≡ first
    → StripeScanned cost columns width row m l l stripe
stripe_same cost columns width row m l first stripe tree covered same = record {
  tree = tree;
  grown = grown_refl l;
  covered = rw same covered;
}

pub stripe_end_is : (cost : ℕ → ℕ → ℕ) (columns row : ℕ) (m : Matching) (a b : Labels) (from to end : ℕ)
    → to ≡ end → Scanned cost columns row m a b from to → Scanned cost columns row m a b from end
stripe_end_is cost columns row m a b from to end same scanned = record {
  tree = scanned.tree;
  grown = scanned.grown;
  covered = rw (← same) scanned.covered;
}

pub swept_step : (cost : ℕ → ℕ → ℕ) (columns width row : ℕ) (m : Matching) (a b c : Labels) (from j : ℕ)
    → Scanned cost columns row m a b from (min (j * width) columns) → j * width < columns → StripeScanned cost columns width row m b c j
    → Scanned cost columns row m a c from (min ((j + 1) * width) columns)
swept_step cost columns width row m a b c from j done within more =
    let start : min (j * width) columns ≡ j * width = omega arith in
    let end : min (j * width + width) columns ≡ min ((j + 1) * width) columns = omega arith in
    stripe_end_is cost columns row m a c from (min (j * width + width) columns) (min ((j + 1) * width) columns) end
    (scanned_more cost columns row m a b c from (j * width) (min (j * width + width) columns)
    (stripe_end_is cost columns row m a b from (min (j * width) columns) (j * width) start done) more)

pub stripe_grown : (cost : ℕ → ℕ → ℕ) (columns width row : ℕ) (m : Matching) (b c : Labels) (first : ℕ) → Grown b c
    → StripeCovered cost columns width row m b first → StripeCovered cost columns width row m c first
stripe_grown cost columns width row m b c first grown covered = λ s le lt. covered_grown cost row m b c s grown (covered s le lt)

pub floor_bound : (cost : ℕ → ℕ → ℕ) (rows columns width row : ℕ) (m : Matching) (l : Labels) (t : Turn) (stripe floor : ℕ)
    → IsWithinLimits rows columns cost → IsTree cost columns row m l → IsTurn cost row m l t → row < rows → 1 ≤ width
    → stripe * width < columns → IsFloor (cost t.row) columns width stripe floor → t.depth + floor ≤ far + 2 ^ 36
floor_bound cost rows columns width row m l t stripe floor limits tree turn row_in positive within below =
    let low : floor ≤ cost t.row (stripe * width) = below (stripe * width) (omega arith) (omega arith) within in
    let most : cost t.row (stripe * width) ≤ 2 ^ 36 =
    limits.most_cost t.row (stripe * width) (omega (arith, turn.row_is, tree.reached l.at tree.within)) within in
    omega (arith, turn.depth_is, tree.level_most, tree.level_after)

pub turn_start : (cost : ℕ → ℕ → ℕ) (columns row : ℕ) (m : Matching) (l : Labels) (current depth : ℕ) → IsTree cost columns row m l
    → current ≡ get_or l.reached.items l.at current → depth ≡ get_or l.label.items current depth → current ≡ row
    → IsTurn cost row m l (record { row = current; depth = depth; least = 0 })
turn_start cost columns row m l current depth tree read read_depth same =
    let current_is : row_at l l.at ≡ current = read_is l.reached.items l.at current (omega (arith, tree.within, tree.places)) read in
    let depth_is : label_of l current ≡ depth = read_is l.label.items current depth (omega (arith, tree.room.labels)) read_depth in
    record {
      row_is = sym current_is;
      depth_is = rw current_is (sym depth_is);
      least_is = rw (current_is, same) (sym (least_start cost row m));
    }

-- the column that a row of the tree has
pub held_column : (cost : ℕ → ℕ → ℕ) (columns row : ℕ) (m : Matching) (l : Labels) (current column : ℕ) → IsTree cost columns row m l
    → IsMatching cost columns row m → Fits columns row m → current ≡ get_or l.reached.items l.at current → current ≢ row
    → column ≡ get_or m.column_of.items current column → (column_of m current ≡ column) × (current < row) × (column < columns)
held_column cost columns row m l current column tree matched fits read other read_column =
    let current_is : row_at l l.at ≡ current = read_is l.reached.items l.at current (omega (arith, tree.within, tree.places)) read in
    let lt : current < row = omega (arith, tree.reached l.at tree.within) in
    let column_is : column_of m current ≡ column = read_is m.column_of.items current column (omega (arith, fits.chosen)) read_column in
    (column_is, lt, omega (arith, matched.agree.in_range current lt))

pub held_bound : (cost : ℕ → ℕ → ℕ) (rows columns row : ℕ) (m : Matching) (l : Labels) (current column paid price : ℕ) → IsWithinLimits rows columns cost
    → IsTree cost columns row m l → IsMatching cost columns row m → Fits columns row m → row < rows
    → current ≡ get_or l.reached.items l.at current → current ≢ row → column ≡ get_or m.column_of.items current column
    → paid ≡ cost current column → price ≡ get_or m.prices.items column price → paid + price ≤ 2 ^ 37
held_bound cost rows columns row m l current column paid price limits tree matched fits row_in read other read_column paid_is read_price =
    let held : (column_of m current ≡ column) × (current < row) × (column < columns) =
    held_column cost columns row m l current column tree matched fits read other read_column in
    let price_is : price_of m column ≡ price = read_is m.prices.items column price (omega (arith, held.2, fits.prices)) read_price in
    omega (arith, limits.most_cost current column (omega (arith, held.1)) held.2, matched.capped column held.2)

pub turn_held : (cost : ℕ → ℕ → ℕ) (columns row : ℕ) (m : Matching) (l : Labels) (current depth column paid price : ℕ) → IsTree cost columns row m l
    → IsMatching cost columns row m → Fits columns row m
    → current ≡ get_or l.reached.items l.at current → depth ≡ get_or l.label.items current depth → current ≢ row
    → column ≡ get_or m.column_of.items current column → paid ≡ cost current column → price ≡ get_or m.prices.items column price
    → IsTurn cost row m l (record { row = current; depth = depth; least = paid + price })
turn_held cost columns row m l current depth column paid price tree matched fits read read_depth other read_column paid_is read_price =
    let held : (column_of m current ≡ column) × (current < row) × (column < columns) =
    held_column cost columns row m l current column tree matched fits read other read_column in
    let current_is : row_at l l.at ≡ current = read_is l.reached.items l.at current (omega (arith, tree.within, tree.places)) read in
    let depth_is : label_of l current ≡ depth = read_is l.label.items current depth (omega (arith, held.1, tree.room.labels)) read_depth in
    let price_is : price_of m column ≡ price = read_is m.prices.items column price (omega (arith, held.2, fits.prices)) read_price in
    let least : least_of cost row m current ≡ cost current column + price_of m column = rw (← held.0) (least_held cost row m current held.1) in
    record {
      row_is = sym current_is;
      depth_is = rw current_is (sym depth_is);
      least_is = rw current_is (omega (arith, least));
    }

-- a range cut down to the columns of the stripe
pub near_clipped : (cost : ℕ → ℕ) (columns width stripe limit start end first last : ℕ) → IsNear cost columns width stripe limit start end
    → first ≤ max start (stripe * width) → min end (min (stripe * width + width) columns) ≤ last
    → IsNear cost columns width stripe limit first last
near_clipped cost columns width stripe limit start end first last near low high = record {
  before = λ s le lt within under. near.before s le lt within (omega arith);
  after = λ s le lt within over. near.after s le lt within (omega arith);
}

-- a stripe of which the columns near the row were looked at
pub near_scanned : (cost : ℕ → ℕ → ℕ) (columns width row : ℕ) (m : Matching) (a b : Labels) (t : Turn) (stripe limit start end : ℕ)
    → IsTurn cost row m a t → IsNear (cost t.row) columns width stripe limit start end → limit + t.depth ≡ a.level + t.least
    → Scanned cost columns row m a b start end → StripeScanned cost columns width row m a b stripe
near_scanned cost columns width row m a b t stripe limit start end turn near limit_is scanned = record {
  tree = scanned.tree;
  grown = scanned.grown;
  covered = λ s le lt. elim (cases_lt s start) [
    | inl under ↦
        let beyond : limit ≤ cost t.row s = near.before s le (omega arith) (omega arith) under in
        covered_grown cost row m a b s scanned.grown (covered_far cost row m a t s 0 turn (omega arith) (omega arith))
    | inr from ↦ elim (cases_lt s end) [
      | inl inside ↦ scanned.covered s from inside
      | inr over ↦
          let beyond : limit ≤ cost t.row s = near.after s le (omega arith) (omega arith) over in
          covered_grown cost row m a b s scanned.grown (covered_far cost row m a t s 0 turn (omega arith) (omega arith))
    ]
  ];
}

-- a range cut down to the stripes that there are
pub stripes_clipped : (cost : ℕ → ℕ) (columns width limit start end first last count : ℕ) → AreNearStripes cost columns width limit start end
    → first ≤ start → min end count ≤ last → columns ≤ count * width → AreNearStripes cost columns width limit first last
stripes_clipped cost columns width limit start end first last count near low high all = record {
  before = λ s lt under. near.before s lt (omega (arith, mul-le first width start width low (omega arith)));
  after = λ s lt over. elim (cases_lt count end) [
    | inl more ↦ absurd (omega (arith, mul-le count width last width (omega arith) (omega arith)))
    | inr few ↦ near.after s lt (omega (arith, mul-le end width last width (omega arith) (omega arith)))
  ];
}

-- the stripes that may hold a column within the limit were looked at
pub swept_end : (cost : ℕ → ℕ → ℕ) (columns width row : ℕ) (m : Matching) (a b : Labels) (t : Turn) (limit start end j : ℕ)
    → IsTurn cost row m a t → AreNearStripes (cost t.row) columns width limit start end → limit + t.depth ≡ a.level + t.least → j ≡ end
    → Scanned cost columns row m a b (min (start * width) columns) (min (j * width) columns) → Scanned cost columns row m a b 0 columns
swept_end cost columns width row m a b t limit start end j turn near limit_is same scanned =
    let product : j * width ≡ end * width = ap (λ x. x * width) same in
    record {
      tree = scanned.tree;
      grown = scanned.grown;
      covered = λ s le lt. elim (cases_lt s (start * width)) [
        | inl under ↦
            let beyond : limit ≤ cost t.row s = near.before s lt under in
            covered_grown cost row m a b s scanned.grown (covered_far cost row m a t s 0 turn (omega arith) (omega arith))
        | inr from ↦ elim (cases_lt s (end * width)) [
          | inl inside ↦ scanned.covered s (omega arith) (omega arith)
          | inr over ↦
              let beyond : limit ≤ cost t.row s = near.after s lt over in
              covered_grown cost row m a b s scanned.grown (covered_far cost row m a t s 0 turn (omega arith) (omega arith))
        ]
      ];
    }
