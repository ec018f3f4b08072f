-- An order kept by places and a tournament: how many cells have room, setting a key, and the best cell.
use Rattle.std.proofs.Common.{◌≡◌, ◌≢◌, ℕ, ◌<◌, ◌≤◌, ◌⊎◌, inl, inr, true, false, cond, IsTrue, List, [], ◌∷◌, if◌then◌else◌, length, map, get_or, set, length-set, replicate, Option, Some, None, is_some, refl, sym, ap, subst, ◌∙◌, arith}
use Rattle.std.specs.List.{All, Contains}
use Rattle.std.specs.List.Sorted.{IsNonDecreasingBy}
use Rattle.std.proofs.Math.Seq.{map-set_same}
use Rattle.std.proofs.lemmas.Bool.{cases_lt, cases_eq, cases_Bool}
use Rattle.std.proofs.lemmas.List.{length-map, length-replicate, get_or-map, get_or-set_same, get_or-set_other, get_or-replicate, get_or_past, ext_get_or}
use Rattle.std.proofs.lemmas.List.Elements.{All-from_get_or}
use Rattle.std.proofs.lemmas.Simd.{map-map}
use Rattle.fp_base.specs.declared.ids.CellId.{CellId}
use Rattle.fp_base.specs.declared.ids.Die.{Die}
use Rattle.fp_netlist.specs.Netlist.{Netlist}
use Rattle.fp_netlist.specs.Points.{area}
use Rattle.fp_place.specs.Areas.{fits}
use Rattle.fp_place.specs.Held.{Held, has_room}
use Rattle.fp_gains.specs.declared.tournament.Leader.{Leader}
use Rattle.fp_gains.specs.Contests.{nobody, unkeyed, keyed, leader_at, rekeyed, dealt, IsBehind, IsBest, IsBestSlot}
use Rattle.fp_gains.specs.Ordered.{Ordered, is_in, key_of, with_key, IsOrderOf, IsNewOrder, IsDealt}
use Rattle.fp_gains.specs.OrderParts.{number_of, key_in, HoldPlaces, numbers, AreSlots, order_as, AreByArea, IsRoomFor, IsRoomy, IsBestRoomy, IsBestWithRoom}

-- where a cell has room, so has one of less area
-- below one bound all leaves have room, and from another on none has
pub record IsNarrowed (p : Netlist) (held : Held) (die : Die) (leaves : List Leader) (low high : ℕ) : Type 0 where
  pub order : low ≤ high
  pub within : high ≤ length leaves
  pub room : (slot : ℕ) → slot < low → has_room p held (leader_at leaves slot).cell.0 die ≡ true
  pub full : (slot : ℕ) → high ≤ slot → slot < length leaves → has_room p held (leader_at leaves slot).cell.0 die ≡ false

abbrev pub AreRising : Netlist → Die → List Leader → Type 0
AreRising p die leaves = IsNonDecreasingBy (λ (leaf : Leader). area p leaf.cell.0 die) leaves

-- setting a key
number_at : (leaves : List Leader) (slot : ℕ) → slot < length leaves → get_or (map number_of leaves) slot 0 ≡ (leader_at leaves slot).cell.0
number_at leaves slot below = get_or-map number_of leaves slot nobody 0 below

numbers_kept : (leaves : List Leader) (slot key : ℕ) → map number_of (rekeyed leaves slot key) ≡ map number_of leaves
numbers_kept leaves slot key = map-set_same number_of leaves slot (keyed (leader_at leaves slot) key) nobody refl

pub places_kept : (places : List (Option ℕ)) (leaves : List Leader) (slot key : ℕ) → HoldPlaces places (map number_of leaves) (length leaves)
    → HoldPlaces places (map number_of (rekeyed leaves slot key)) (length (rekeyed leaves slot key))
places_kept places leaves slot key hold =
    subst (HoldPlaces places (map number_of (rekeyed leaves slot key))) (sym (length-set leaves slot (keyed (leader_at leaves slot) key)))
    (subst (λ (cells : List ℕ). HoldPlaces places cells (length leaves)) (sym (numbers_kept leaves slot key)) hold)

keys_set : (places : List (Option ℕ)) (leaves : List Leader) (cell slot key : ℕ) → HoldPlaces places (map number_of leaves) (length leaves) → get_or places cell None ≡ Some slot
    → cell < length places → map (key_in (rekeyed leaves slot key)) places ≡ set (map (key_in leaves) places) cell key
keys_set places leaves cell slot key hold there inside =
    ext_get_or 0 (map (key_in (rekeyed leaves slot key)) places) (set (map (key_in leaves) places) cell key)
    (length-map places (key_in (rekeyed leaves slot key)) ∙ sym (length-set (map (key_in leaves) places) cell key ∙ length-map places (key_in leaves)))
    (λ i less. by i (omega (arith, length-map places (key_in (rekeyed leaves slot key)))) (cases_eq i cell))
  where
    below : slot < length leaves
    below = (hold.named cell slot there).0

    here : key_in (rekeyed leaves slot key) (get_or places cell None) ≡ key
    here = ap (key_in (rekeyed leaves slot key)) there ∙ ap (λ (l : Leader). l.key) (get_or-set_same leaves slot (keyed (leader_at leaves slot) key) nobody below)

    elsewhere : (i : ℕ) → i ≢ cell → (o : Option ℕ) → get_or places i None ≡ o → key_in (rekeyed leaves slot key) o ≡ key_in leaves o
    elsewhere i other None at = refl
    elsewhere i other (Some s) at =
        ap (λ (l : Leader). l.key) (get_or-set_other leaves slot s (keyed (leader_at leaves slot) key) nobody
        (λ same. other (sym (hold.named i s at).1 ∙ ap (λ (k : ℕ). get_or (map number_of leaves) k 0) same ∙ (hold.named cell slot there).1)))

    by : (i : ℕ) → i < length places → (i ≡ cell) ⊎ (i ≢ cell) → get_or (map (key_in (rekeyed leaves slot key)) places) i 0 ≡ get_or (set (map (key_in leaves) places) cell key) i 0
    by i less (inl same) =
        get_or-map (key_in (rekeyed leaves slot key)) places i None 0 less ∙ ap (λ (c : ℕ). key_in (rekeyed leaves slot key) (get_or places c None)) same ∙ here
        ∙ sym (ap (λ (c : ℕ). get_or (set (map (key_in leaves) places) cell key) c 0) same ∙ get_or-set_same (map (key_in leaves) places) cell key 0 (omega (arith, inside, length-map places (key_in leaves))))
    by i less (inr other) =
        get_or-map (key_in (rekeyed leaves slot key)) places i None 0 less ∙ elsewhere i other (get_or places i None) refl
        ∙ sym (get_or-set_other (map (key_in leaves) places) cell i key 0 other ∙ get_or-map (key_in leaves) places i None 0 less)

abbrev with_keys : Die → List (Option ℕ) → List ℕ → List ℕ → Ordered
with_keys die places cells keys = record { die = die; cells = cells; places = places; keys = keys }

pub key_set : (die : Die) (places : List (Option ℕ)) (leaves : List Leader) (cell slot key : ℕ) → HoldPlaces places (map number_of leaves) (length leaves)
    → get_or places cell None ≡ Some slot → cell < length places → order_as die places (rekeyed leaves slot key) ≡ with_key (order_as die places leaves) cell key
key_set die places leaves cell slot key hold there inside =
    ap (λ (cells : List ℕ). with_keys die places cells (map (key_in (rekeyed leaves slot key)) places)) (numbers_kept leaves slot key)
    ∙ ap (with_keys die places (map number_of leaves)) (keys_set places leaves cell slot key hold there inside)
    ∙ sym (ap (λ (o : Option ℕ). with_keys die places (map number_of leaves) (cond (is_some o) (set (map (key_in leaves) places) cell key) (map (key_in leaves) places))) there)

-- keys dealt to all leaves
pub leaves_named : (places : List (Option ℕ)) (leaves : List Leader) (many : ℕ) → HoldPlaces places (map number_of leaves) (length leaves) → length places ≡ many
    → All (λ (leaf : Leader). leaf.cell.0 < many) leaves
leaves_named places leaves many hold long = All-from_get_or (λ (leaf : Leader). leaf.cell.0 < many) leaves nobody (λ slot below.
    let found : get_or places (get_or (map number_of leaves) slot 0) None ≡ Some slot = hold.found slot below in
    let there : get_or places (leader_at leaves slot).cell.0 None ≡ Some slot = subst (λ c. get_or places c None ≡ Some slot) (number_at leaves slot below) found in
    by slot (cases_lt (leader_at leaves slot).cell.0 (length places)) there)
  where
    by : (slot : ℕ) → ((leader_at leaves slot).cell.0 < length places) ⊎ (length places ≤ (leader_at leaves slot).cell.0) → get_or places (leader_at leaves slot).cell.0 None ≡ Some slot
        → (leader_at leaves slot).cell.0 < many
    by slot (inl below) there = omega (arith, below, long)
    by slot (inr past) there = absurd (let nothing : None ≡ Some slot = sym (get_or_past places (leader_at leaves slot).cell.0 None past) ∙ there in cc)

dealt_numbers : (keys : List ℕ) (leaves : List Leader) → map number_of (map (dealt keys) leaves) ≡ map number_of leaves
dealt_numbers keys [] = refl
dealt_numbers keys (leaf ∷ leaves) = ap (λ ns. leaf.cell.0 ∷ ns) (dealt_numbers keys leaves)

pub dealt_places : (places : List (Option ℕ)) (keys : List ℕ) (leaves : List Leader) → HoldPlaces places (map number_of leaves) (length leaves)
    → HoldPlaces places (map number_of (map (dealt keys) leaves)) (length (map (dealt keys) leaves))
dealt_places places keys leaves hold =
    subst (HoldPlaces places (map number_of (map (dealt keys) leaves))) (sym (length-map leaves (dealt keys)))
    (subst (λ (cells : List ℕ). HoldPlaces places cells (length leaves)) (sym (dealt_numbers keys leaves)) hold)

pub order_dealt : (die : Die) (places : List (Option ℕ)) (keys : List ℕ) (leaves : List Leader) → HoldPlaces places (map number_of leaves) (length leaves)
    → IsDealt keys (order_as die places leaves) (order_as die places (map (dealt keys) leaves))
order_dealt die places keys leaves hold = record {
  die = refl;
  cells = dealt_numbers keys leaves;
  places = refl;
  many = length-map places (key_in (map (dealt keys) leaves)) ∙ sym (length-map places (key_in leaves));
  each = λ cell below.
      get_or-map (key_in (map (dealt keys) leaves)) places cell None 0 (omega (arith, length-map places (key_in leaves)))
      ∙ by cell (get_or places cell None) refl;
}
  where
    by : (cell : ℕ) → (o : Option ℕ) → get_or places cell None ≡ o → key_in (map (dealt keys) leaves) o ≡ (if is_some o then get_or keys cell 0 else 0)
    by cell None at = refl
    by cell (Some slot) at =
        let is = hold.named cell slot at in
        ap (λ (l : Leader). l.key) (get_or-map (dealt keys) leaves slot nobody nobody is.0)
        ∙ ap (λ (c : ℕ). get_or keys c 0) (sym (number_at leaves slot is.0) ∙ is.1)

-- a new order
unkeyed_numbers : (cells : List CellId) → map number_of (map unkeyed cells) ≡ numbers cells
unkeyed_numbers cells = map-map number_of unkeyed cells

pub places_new : (many : ℕ) (places : List (Option ℕ)) (cells : List CellId) → AreSlots many places cells (length cells)
    → HoldPlaces places (map number_of (map unkeyed cells)) (length (map unkeyed cells))
places_new many places cells are =
    subst (HoldPlaces places (map number_of (map unkeyed cells))) (sym (length-map cells unkeyed))
    (subst (λ (ns : List ℕ). HoldPlaces places ns (length cells)) (sym (unkeyed_numbers cells)) are.hold)

abbrev no_cell : CellId
no_cell = record { 0 = 0 }

unkeyed_key : (cells : List CellId) (slot : ℕ) → (slot < length cells) ⊎ (length cells ≤ slot) → (leader_at (map unkeyed cells) slot).key ≡ 0
unkeyed_key cells slot (inl below) = ap (λ (l : Leader). l.key) (get_or-map unkeyed cells slot no_cell nobody below)
unkeyed_key cells slot (inr past) = ap (λ (l : Leader). l.key) (get_or_past (map unkeyed cells) slot nobody (omega (arith, length-map cells unkeyed)))

no_key : (cells : List CellId) (o : Option ℕ) → key_in (map unkeyed cells) o ≡ 0
no_key cells None = refl
no_key cells (Some slot) = unkeyed_key cells slot (cases_lt slot (length cells))

zero_keys : (cells : List CellId) (places : List (Option ℕ)) (many : ℕ) → length places ≡ many → map (key_in (map unkeyed cells)) places ≡ replicate many 0
zero_keys cells places many long =
    ext_get_or 0 (map (key_in (map unkeyed cells)) places) (replicate many 0) (length-map places (key_in (map unkeyed cells)) ∙ long ∙ sym (length-replicate many 0))
    (λ i less.
    let inside : i < length places = omega (arith, length-map places (key_in (map unkeyed cells))) in
    get_or-map (key_in (map unkeyed cells)) places i None 0 inside ∙ no_key cells (get_or places i None) ∙ sym (get_or-replicate many i 0 0 (omega (arith, long))))

in_where_fits : (p : Netlist) (die : Die) (cells : List CellId) (places : List (Option ℕ)) → AreByArea p die cells → AreSlots (length p.cells) places cells (length cells)
    → (cell : ℕ) → cell < length p.cells → is_some (get_or places cell None) ≡ fits p cell die
in_where_fits p die cells places by_area are cell inside = by (cases_Bool (fits p cell die))
  where
    number : (slot : ℕ) → slot < length cells → get_or (numbers cells) slot 0 ≡ (get_or cells slot no_cell).0
    number slot below = get_or-map (λ (c : CellId). c.0) cells slot no_cell 0 below

    found : Contains cells (record { 0 = cell }) → is_some (get_or places cell None) ≡ true
    found (slot, below, is) =
        ap (λ (c : ℕ). is_some (get_or places c None)) (sym (get_or-map (λ (c : CellId). c.0) cells slot (record { 0 = cell }) 0 below ∙ ap (λ (c : CellId). c.0) is))
        ∙ ap is_some (are.hold.found slot below)

    fitting : (o : Option ℕ) → get_or places cell None ≡ o → fits p cell die ≡ false → is_some o ≡ false
    fitting None at out = refl
    fitting (Some slot) at out =
        let named = are.hold.named cell slot at in
        let fit : IsTrue (fits p (get_or cells slot no_cell).0 die) = by_area.fitting slot no_cell named.0 in
        absurd (let e : false ≡ true = sym out ∙ ap (λ (c : ℕ). fits p c die) (sym named.1 ∙ number slot named.0) ∙ fit in cc)

    by : (fits p cell die ≡ true) ⊎ (fits p cell die ≡ false) → is_some (get_or places cell None) ≡ fits p cell die
    by (inl fit) = found (by_area.there cell inside fit) ∙ sym fit
    by (inr out) = fitting (get_or places cell None) refl out ∙ sym out

new_rising : (p : Netlist) (die : Die) (cells : List CellId) → AreByArea p die cells → (low high : ℕ) → low ≤ high → high < length (map number_of (map unkeyed cells))
    → area p (get_or (map number_of (map unkeyed cells)) low 0) die ≤ area p (get_or (map number_of (map unkeyed cells)) high 0) die
new_rising p die cells by_area low high le below =
    subst (λ (c : ℕ). area p c die ≤ area p (get_or (map number_of (map unkeyed cells)) high 0) die) (sym (at low (omega (arith, le, inside))))
    (subst (λ (c : ℕ). area p (get_or cells low no_cell).0 die ≤ area p c die) (sym (at high inside)) (by_area.rising low high no_cell le inside))
  where
    inside : high < length cells
    inside = omega (arith, length-map (map unkeyed cells) number_of, length-map cells unkeyed)

    at : (slot : ℕ) → slot < length cells → get_or (map number_of (map unkeyed cells)) slot 0 ≡ (get_or cells slot no_cell).0
    at slot less = ap (λ (ns : List ℕ). get_or ns slot 0) (unkeyed_numbers cells) ∙ get_or-map (λ (c : CellId). c.0) cells slot no_cell 0 less

pub new_order : (p : Netlist) (die : Die) (cells : List CellId) (places : List (Option ℕ)) → AreByArea p die cells → AreSlots (length p.cells) places cells (length cells)
    → IsNewOrder p die (order_as die places (map unkeyed cells))
new_order p die cells places by_area are = record {
  order = record {
    die_is = refl;
    places = are.long;
    keys = length-map places (key_in (map unkeyed cells)) ∙ are.long;
    fitting = in_where_fits p die cells places by_area are;
    rising = new_rising p die cells by_area;
  };
  zeros = zero_keys cells places (length p.cells) are.long;
}

-- the cells of an order and its leaves
pub record IsHeldOrder (p : Netlist) (die : Die) (places : List (Option ℕ)) (leaves : List Leader) : Type 0 where
  pub hold : HoldPlaces places (map number_of leaves) (length leaves)
  pub order : IsOrderOf p die (order_as die places leaves)

-- a leaf is a cell of the order, with its key
pub record IsOwnLeaf (p : Netlist) (die : Die) (places : List (Option ℕ)) (leaves : List Leader) (slot cell : ℕ) : Type 0 where
  pub below : slot < length leaves
  pub cell_is : (leader_at leaves slot).cell.0 ≡ cell
  pub key_is : key_of (order_as die places leaves) cell ≡ (leader_at leaves slot).key
  pub inside : cell < length p.cells
  pub placed : IsTrue (is_in (order_as die places leaves) cell)

key_there : (places : List (Option ℕ)) (leaves : List Leader) (cell slot : ℕ) → cell < length places → get_or places cell None ≡ Some slot
    → get_or (map (key_in leaves) places) cell 0 ≡ (leader_at leaves slot).key
key_there places leaves cell slot inside there = get_or-map (key_in leaves) places cell None 0 inside ∙ ap (key_in leaves) there

placed_within : (places : List (Option ℕ)) (cell slot : ℕ) → get_or places cell None ≡ Some slot → (cell < length places) ⊎ (length places ≤ cell) → cell < length places
placed_within places cell slot there (inl inside) = inside
placed_within places cell slot there (inr past) = absurd (let e : None ≡ Some slot = sym (get_or_past places cell None past) ∙ there in cc)

pub own_leaf : (p : Netlist) (die : Die) (places : List (Option ℕ)) (leaves : List Leader) (slot : ℕ) → IsHeldOrder p die places leaves → slot < length leaves
    → IsOwnLeaf p die places leaves slot (leader_at leaves slot).cell.0
own_leaf p die places leaves slot held below = record {
  below = below;
  cell_is = refl;
  key_is = key_there places leaves (leader_at leaves slot).cell.0 slot inside there;
  inside = omega (arith, inside, held.order.places);
  placed = ap is_some there;
}
  where
    there : get_or places (leader_at leaves slot).cell.0 None ≡ Some slot
    there = ap (λ (c : ℕ). get_or places c None) (sym (number_at leaves slot below)) ∙ held.hold.found slot below

    inside : (leader_at leaves slot).cell.0 < length places
    inside = placed_within places (leader_at leaves slot).cell.0 slot there (cases_lt (leader_at leaves slot).cell.0 (length places))

pub record HasLeaf (p : Netlist) (die : Die) (places : List (Option ℕ)) (leaves : List Leader) (cell : ℕ) : Type 0 where
  pub slot : ℕ
  pub own : IsOwnLeaf p die places leaves slot cell

pub leaf_of : (p : Netlist) (die : Die) (places : List (Option ℕ)) (leaves : List Leader) (cell : ℕ) → IsHeldOrder p die places leaves → cell < length p.cells
    → IsTrue (is_in (order_as die places leaves) cell) → HasLeaf p die places leaves cell
leaf_of p die places leaves cell held inside placed = by (get_or places cell None) refl placed
  where
    by : (o : Option ℕ) → get_or places cell None ≡ o → IsTrue (is_some o) → HasLeaf p die places leaves cell
    by None at some = absurd (let e : false ≡ true = some in cc)
    by (Some slot) at some =
        let named = held.hold.named cell slot at in
        record {
          slot = slot;
          own = record {
            below = named.0;
            cell_is = sym (number_at leaves slot named.0) ∙ named.1;
            key_is = key_there places leaves cell slot (omega (arith, held.order.places)) at;
            inside = inside;
            placed = placed;
          };
        }

pub leaves_within : (p : Netlist) (die : Die) (places : List (Option ℕ)) (leaves : List Leader) → IsHeldOrder p die places leaves → All (λ (leaf : Leader). leaf.cell.0 < length p.cells) leaves
leaves_within p die places leaves held = All-from_get_or (λ (leaf : Leader). leaf.cell.0 < length p.cells) leaves nobody (λ slot below. (own_leaf p die places leaves slot held below).inside)

pub leaves_rise : (p : Netlist) (die : Die) (places : List (Option ℕ)) (leaves : List Leader) → IsHeldOrder p die places leaves → AreRising p die leaves
leaves_rise p die places leaves held i j d le below =
    subst (λ (c : ℕ). area p c die ≤ area p (get_or leaves j d).cell.0 die) (at i (omega arith))
    (subst (λ (c : ℕ). area p (get_or (map number_of leaves) i 0) die ≤ area p c die) (at j below) (held.order.rising i j le (omega (arith, below, length-map leaves number_of))))
  where
    at : (slot : ℕ) → slot < length leaves → get_or (map number_of leaves) slot 0 ≡ (get_or leaves slot d).cell.0
    at slot less = get_or-map number_of leaves slot d 0 less

-- the best of a front that all cells with room stand in
pub record HasAllRoom (p : Netlist) (held : Held) (die : Die) (leaves : List Leader) (count : ℕ) : Type 0 where
  pub within : count ≤ length leaves
  pub full : (slot : ℕ) → count ≤ slot → slot < length leaves → has_room p held (leader_at leaves slot).cell.0 die ≡ false

pub all_slots : (p : Netlist) (held : Held) (die : Die) (leaves : List Leader) → HasAllRoom p held die leaves (length leaves)
all_slots p held die leaves = record { within = omega arith; full = λ slot from below. absurd (omega arith) }

front : (p : Netlist) (held : Held) (die : Die) (places : List (Option ℕ)) (leaves : List Leader) (count cell : ℕ) → IsHeldOrder p die places leaves → HasAllRoom p held die leaves count
    → (roomy : IsRoomy p held (order_as die places leaves) cell) → (slot : ℕ) → IsOwnLeaf p die places leaves slot cell → (slot < count) ⊎ (count ≤ slot) → slot < count
front p held die places leaves count cell holds room roomy slot own (inl before) = before
front p held die places leaves count cell holds room roomy slot own (inr behind) =
    absurd (let e : false ≡ true = sym (room.full slot behind own.below) ∙ ap (λ (c : ℕ). has_room p held c die) own.cell_is ∙ roomy.room in cc)

pub best_roomy : (p : Netlist) (held : Held) (die : Die) (places : List (Option ℕ)) (leaves : List Leader) (count : ℕ) (best : Leader) → IsHeldOrder p die places leaves
    → HasAllRoom p held die leaves count → IsBest leaves count best → has_room p held best.cell.0 die ≡ true → IsBestRoomy p held (order_as die places leaves) best
best_roomy p held die places leaves count best holds room is roomy = record {
  roomy = record {
    within = subst (λ (l : Leader). l.cell.0 < length p.cells) is.there mine.inside;
    inside = subst (λ (l : Leader). IsTrue (is_in (order_as die places leaves) l.cell.0)) is.there mine.placed;
    room = roomy;
  };
  key = subst (λ (l : Leader). key_of (order_as die places leaves) l.cell.0 ≡ l.key) is.there mine.key_is;
  ahead = λ cell roomy. behind cell roomy (leaf_of p die places leaves cell holds roomy.within roomy.inside);
}
  where
    mine : IsOwnLeaf p die places leaves is.slot (leader_at leaves is.slot).cell.0
    mine = own_leaf p die places leaves is.slot holds (omega (arith, is.within, room.within))

    behind : (cell : ℕ) → IsRoomy p held (order_as die places leaves) cell → HasLeaf p die places leaves cell
        → IsBehind (record { cell = record { 0 = cell }; key = key_of (order_as die places leaves) cell }) best
    behind cell roomy leaf =
        let own = leaf.own in
        let ahead = is.ahead leaf.slot (front p held die places leaves count cell holds room roomy leaf.slot own (cases_lt leaf.slot count)) in
        record {
          key = omega (arith, ahead.key, own.key_is);
          cell = λ same. omega (arith, ahead.cell (omega (arith, own.key_is, same)), own.cell_is);
        }

pub none_roomy : (p : Netlist) (held : Held) (die : Die) (places : List (Option ℕ)) (leaves : List Leader) (count : ℕ) → IsHeldOrder p die places leaves → HasAllRoom p held die leaves count
    → count ≡ 0 → (cell : ℕ) → IsRoomy p held (order_as die places leaves) cell → ⊥
none_roomy p held die places leaves count holds room none cell roomy =
    let leaf = leaf_of p die places leaves cell holds roomy.within roomy.inside in
    omega (arith, front p held die places leaves count cell holds room roomy leaf.slot leaf.own (cases_lt leaf.slot count))

pub front_best : (p : Netlist) (held : Held) (die : Die) (places : List (Option ℕ)) (leaves : List Leader) (count : ℕ) (best : Option Leader) → IsHeldOrder p die places leaves
    → IsRoomFor p held die leaves count → IsBestSlot leaves count best → IsBestWithRoom p held (order_as die places leaves) best
front_best p held die places leaves count None holds room is = none_roomy p held die places leaves count holds (record { within = room.within; full = room.full }) is
front_best p held die places leaves count (Some best) holds room is =
    best_roomy p held die places leaves count best holds (record { within = room.within; full = room.full }) is
    (ap (λ (l : Leader). has_room p held l.cell.0 die) (sym is.there) ∙ room.room is.slot is.within)

-- what a method knows of the parts of an order
pub held_order : (p : Netlist) (die : Die) (places : List (Option ℕ)) (leaves : List Leader) (o : Ordered) → HoldPlaces places (map number_of leaves) (length leaves)
    → order_as die places leaves ≡ o → IsOrderOf p o.die o → IsHeldOrder p die places leaves
held_order p die places leaves o hold seen order = record { hold = hold; order = subst (λ (one : Ordered). IsOrderOf p one.die one) (sym seen) order }

pub keys_long : (die : Die) (places : List (Option ℕ)) (leaves : List Leader) (o : Ordered) (cell : ℕ) → order_as die places leaves ≡ o → cell < length o.keys → cell < length places
keys_long die places leaves o cell seen inside =
    let long : length o.keys ≡ length places = sym (ap (λ (one : Ordered). length one.keys) seen) ∙ length-map places (key_in leaves) in
    omega (arith, inside, long)

-- the leader of all slots, where it has room
pub leader_roomy : (p : Netlist) (held : Held) (die : Die) (places : List (Option ℕ)) (leaves : List Leader) (best : Leader) → IsHeldOrder p die places leaves
    → IsBest leaves (length leaves) best → has_room p held best.cell.0 die ≡ true → IsBestRoomy p held (order_as die places leaves) best
leader_roomy p held die places leaves best holds is roomy = best_roomy p held die places leaves (length leaves) best holds (all_slots p held die leaves) is roomy

pub leader_within : (p : Netlist) (die : Die) (places : List (Option ℕ)) (leaves : List Leader) (best : Leader) → IsHeldOrder p die places leaves → IsBest leaves (length leaves) best
    → best.cell.0 < length p.cells
leader_within p die places leaves best holds is = subst (λ (l : Leader). l.cell.0 < length p.cells) is.there (own_leaf p die places leaves is.slot holds is.within).inside
