-- Lines of cut nets beside the rows of a table of slots' costs: that they are its nets, with slots of their own, and what their prices show.
use Rattle.std.proofs.Common.{◌≡◌, ◌≢◌, ℕ, zero, suc, ◌+◌, ◌<◌, ◌≤◌, ◌^◌, true, false, List, [], ◌∷◌, length, map, set, replicate, drop, get_or, Some, unsigned_abs, refl, sym, ap, subst, ◌∙◌, arith}
use Rattle.std.specs.Prelude.{Bool, nat_eq, cond, slice_index, All, ◌↔◌}
use Rattle.std.specs.List.{AllByRecursion, range_with_len, IsDistinct}
use Rattle.std.proofs.lemmas.Bool.Decides.{nat_tests}
use Rattle.std.proofs.lemmas.List.{length-set, length-map, length-replicate, get_or-map, get_or-replicate, get_or-set_same, get_or-set_other, ext_get_or, drop_all, drop_more}
use Rattle.std.proofs.lemmas.List.Elements.{recursion_from_All, All-map}
use Rattle.std.proofs.lemmas.List.FromFn.{length-map-range_with_len, get_or-map-range_with_len, fill_by_all}
use Rattle.std.proofs.lemmas.Option.{slice_get_within, slice_get-get_or, get_or_from_slice_get}
use Rattle.fp_tech.specs.Slots.{Slots, slot_count, centre_of}
use Rattle.fp_netlist.specs.Netlist.{Netlist}
use Rattle.fp_place.specs.Places.{dies_of}
use Rattle.fp_place.specs.Placed.{Placed, places_of}
use Rattle.fp_match.specs.Prices.{AreDistinctBelow, IsUsed, IsFirstClash, ArePrices}
use Rattle.fp_score.specs.Score.{net_length}
use Rattle.fp_slots.specs.declared.cut_net.CutNet.{CutNet}
use Rattle.fp_slots.specs.CutNets.{length_with}
use Rattle.fp_slots.specs.Table.{SlotTable, no_net, row_at, net_of, cost_of, IsCostsOf}
use Rattle.fp_cert.specs.declared.shown.CutShown.{CutShown}
use Rattle.fp_cert.specs.Certified.{ArePricesShown, price_by, price_shown, slot_cost}
use Rattle.fp_cert.specs.CutLinesLaws.{IsCutNet, cut_nets_by_rank}
use Rattle.fp_cert.specs.Endings.{has_rows}
use Rattle.fp_cert.specs.OfProblem.{most_shown, IsCutOf}
use Rattle.fp_cert.specs.Shown.{ShownTrial}
use Rattle.fp_cert.specs.Standing.{places_shown, placed_shown, dies_shown}
use Rattle.fp_cert.specs.Trials.{cut_nets}
use Rattle.fp_check.specs.CutLines.{slots_of, nets_in, find_slot, prices_by, with_prices, AreBest}

abbrev pub no_cut : CutShown
no_cut = record { net = record { 0 = 0 }; slot = record { 0 = 0 }; price = 0 }

equal : (a b : ℕ) → nat_eq a b ≡ true → a ≡ b
equal a b is = grind (arith, nat_tests)

unequal : (a b : ℕ) → nat_eq a b ≡ false → a ≢ b
unequal a b is same = grind (arith, nat_tests)

unlike : (a b : ℕ) → a ≢ b → nat_eq a b ≡ false
unlike a b apart = grind (arith, nat_tests)

-- ---- their nets

length-nets_in : (table : SlotTable) → length (nets_in table) ≡ length table.rows
length-nets_in table = length-map table.rows (λ (row : CutNet). row.net.0)

length-nets : (cuts : List CutShown) → length (map (λ (cut : CutShown). cut.net.0) cuts) ≡ length cuts
length-nets cuts = length-map cuts (λ (cut : CutShown). cut.net.0)

net_at : (cuts : List CutShown) (row : ℕ) → row < length cuts → get_or (map (λ (cut : CutShown). cut.net.0) cuts) row 0 ≡ (get_or cuts row no_cut).net.0
net_at cuts row below = get_or-map (λ (cut : CutShown). cut.net.0) cuts row no_cut 0 below

net_in : (table : SlotTable) (row : ℕ) → row < length table.rows → get_or (nets_in table) row 0 ≡ net_of table row
net_in table row below = get_or-map (λ (row : CutNet). row.net.0) table.rows row no_net 0 below

pub many_lines : (table : SlotTable) (cuts : List CutShown) → map (λ (cut : CutShown). cut.net.0) cuts ≡ nets_in table → length cuts ≡ length table.rows
many_lines table cuts same = sym (length-nets cuts) ∙ ap length same ∙ length-nets_in table

pub line_of_row : (table : SlotTable) (cuts : List CutShown) (row : ℕ) → map (λ (cut : CutShown). cut.net.0) cuts ≡ nets_in table → row < length table.rows
    → (get_or cuts row no_cut).net.0 ≡ net_of table row
line_of_row table cuts row same below =
    sym (net_at cuts row (omega (arith, below, many_lines table cuts same))) ∙ ap (λ (nets : List ℕ). get_or nets row 0) same ∙ net_in table row below

pub lines_of_rows : (table : SlotTable) (cuts : List CutShown) → length cuts ≡ length table.rows
    → ((row : ℕ) → row < length table.rows → (get_or cuts row no_cut).net.0 ≡ net_of table row) → map (λ (cut : CutShown). cut.net.0) cuts ≡ nets_in table
lines_of_rows table cuts many each =
    ext_get_or 0 (map (λ (cut : CutShown). cut.net.0) cuts) (nets_in table) (length-nets cuts ∙ many ∙ sym (length-nets_in table)) (λ row below.
    let in_cuts : row < length cuts = omega (arith, below, length-nets cuts) in
    let in_rows : row < length table.rows = omega (arith, in_cuts, many) in
    net_at cuts row in_cuts ∙ each row in_rows ∙ sym (net_in table row in_rows))

-- the nets of a placement's table are the cut nets in file order
pub nets_are_cut : (p : Netlist) (placed : Placed) (grid : Slots) (table : SlotTable) → IsCostsOf p placed grid table → nets_in table ≡ cut_nets p (dies_of (places_of placed))
nets_are_cut p placed grid table is =
    cut_nets_by_rank p (dies_of (places_of placed)) (nets_in table) (length-nets_in table ∙ is.all_cut) (λ rank below.
    let within : rank < length table.rows = omega (arith, below, length-nets_in table) in
    let row = is.rows rank within in
    subst (IsCutNet p (dies_of (places_of placed)) rank) (sym (net_in table rank within))
    (record { within = row.within; is_cut_net = row.is_cut_net; rank_is = row.in_order }))

pub dies_placed : (p : Netlist) (trial : ShownTrial) → has_rows trial.ending ≡ true → dies_shown p trial ≡ dies_of (places_shown p trial)
unfolding dies_shown
dies_placed p trial has = rw has refl

-- the nets of a trial's table are its cut nets
pub nets_shown : (p : Netlist) (grid : Slots) (trial : ShownTrial) (placed : Placed) (table : SlotTable) → has_rows trial.ending ≡ true → placed ≡ placed_shown p grid trial
    → IsCostsOf p placed grid table → nets_in table ≡ cut_nets p (dies_shown p trial)
nets_shown p grid trial placed table has shows is =
    nets_are_cut p placed grid table is ∙ ap (λ (pl : Placed). cut_nets p (dies_of (places_of pl))) shows ∙ ap (cut_nets p) (sym (dies_placed p trial has))

-- ---- slots of their own

none_alike : (x : ℕ) (xs : List ℕ) → ((n : ℕ) → n < length xs → x ≢ slice_index xs n) → AllByRecursion (λ y. nat_eq x y ≡ false) xs
none_alike x [] apart = tt
none_alike x (y ∷ xs) apart = (unlike x y (apart 0 (omega arith)), none_alike x xs (λ n below. apart (suc n) (omega (arith, below))))

pub distinct_by_rows : (xs : List ℕ) → AreDistinctBelow (length xs) xs → IsDistinct nat_eq xs
unfolding IsDistinct
distinct_by_rows [] apart = tt
distinct_by_rows (x ∷ xs) apart = (
  none_alike x xs (λ n below. apart 0 (suc n) (omega arith) (omega (arith, below))),
  distinct_by_rows xs (λ i j less below. apart (suc i) (suc j) (omega (arith, less)) (omega (arith, below))),
)

alike_none : (x : ℕ) (xs : List ℕ) (n : ℕ) → AllByRecursion (λ y. nat_eq x y ≡ false) xs → n < length xs → x ≢ slice_index xs n
alike_none x [] n all below = absurd (omega (arith, below))
alike_none x (y ∷ xs) zero all below = unequal x y all.0
alike_none x (y ∷ xs) (suc n) all below = alike_none x xs n all.1 (omega (arith, below))

pub rows_by_distinct : (xs : List ℕ) → IsDistinct nat_eq xs → AreDistinctBelow (length xs) xs
unfolding IsDistinct
rows_by_distinct [] distinct i j less below = absurd (omega (arith, below))
rows_by_distinct (x ∷ xs) distinct i zero less below = absurd (omega (arith, less))
rows_by_distinct (x ∷ xs) distinct zero (suc j) less below = alike_none x xs j distinct.0 (omega (arith, below))
rows_by_distinct (x ∷ xs) distinct (suc i) (suc j) less below = rows_by_distinct xs distinct.1 i j (omega (arith, less)) (omega (arith, below))

pub no_clash : (xs : List ℕ) (first second : ℕ) → IsFirstClash xs first second → IsDistinct nat_eq xs → ⊥
no_clash xs first second clash distinct = rows_by_distinct xs distinct first second clash.earlier clash.row clash.same

-- ---- their prices

pub length-with_prices : (cuts : List CutShown) (prices : List ℕ) → length (with_prices cuts prices) ≡ length prices
unfolding with_prices
length-with_prices [] prices = refl
length-with_prices (cut ∷ cuts) prices = length-set (with_prices cuts prices) cut.slot.0 cut.price ∙ length-with_prices cuts prices

pub no_line_yet : (cuts : List CutShown) (prices : List ℕ) → with_prices (drop (length cuts) cuts) prices ≡ prices
unfolding with_prices
no_line_yet cuts prices = ap (λ (lines : List CutShown). with_prices lines prices) (drop_all (length cuts) cuts (omega arith))

pub line_before : (cuts : List CutShown) (line : ℕ) (d : CutShown) (prices : List ℕ) → line < length cuts
    → set (with_prices (drop (line + 1) cuts) prices) (get_or cuts line d).slot.0 (get_or cuts line d).price ≡ with_prices (drop line cuts) prices
unfolding with_prices
line_before cuts line d prices below = sym (ap (λ (lines : List CutShown). with_prices lines prices) (drop_more cuts line d below))

price_at : (cuts : List CutShown) (slots slot : ℕ) → slot < slots → get_or (with_prices cuts (replicate slots 0)) slot 0 ≡ price_by (find_slot slot cuts)
unfolding with_prices
price_at [] slots slot below = get_or-replicate slots slot 0 0 below
price_at (cut ∷ cuts) slots slot below = by (nat_eq cut.slot.0 slot) refl (price_at cuts slots slot below)
  where
    others : List ℕ
    others = with_prices cuts (replicate slots 0)

    long : length others ≡ slots
    long = length-with_prices cuts (replicate slots 0) ∙ length-replicate slots 0

    by : (b : Bool) → nat_eq cut.slot.0 slot ≡ b → get_or others slot 0 ≡ price_by (find_slot slot cuts)
        → get_or (set others cut.slot.0 cut.price) slot 0 ≡ price_by (cond b (Some cut) (find_slot slot cuts))
    by true is behind =
        let same : cut.slot.0 ≡ slot = equal cut.slot.0 slot is in
        ap (λ k. get_or (set others k cut.price) slot 0) same ∙ get_or-set_same others slot cut.price 0 (omega (arith, below, long))
    by false other behind = get_or-set_other others cut.slot.0 slot cut.price 0 (λ same. unequal cut.slot.0 slot other (sym same)) ∙ behind

-- where each slot begins with the price 0, it has that of its first line
pub prices_are : (cuts : List CutShown) (slots : ℕ) → with_prices cuts (replicate slots 0) ≡ prices_by slots cuts
unfolding prices_by
prices_are cuts slots =
    fill_by_all (λ slot. price_by (find_slot slot cuts)) (with_prices cuts (replicate slots 0)) slots 0 (length-with_prices cuts (replicate slots 0) ∙ length-replicate slots 0)
    (price_at cuts slots)

pub length-prices_by : (slots : ℕ) (cuts : List CutShown) → length (prices_by slots cuts) ≡ slots
unfolding prices_by
length-prices_by slots cuts = length-map-range_with_len (λ slot. price_by (find_slot slot cuts)) 0 slots

pub price_of : (slots : ℕ) (cuts : List CutShown) (slot : ℕ) → slot < slots → slice_index (prices_by slots cuts) slot ≡ price_by (find_slot slot cuts)
unfolding prices_by
price_of slots cuts slot below = get_or-map-range_with_len (λ slot. price_by (find_slot slot cuts)) 0 slots slot slot 0 below (omega arith)

small_price : (slot : ℕ) (cuts : List CutShown) → AllByRecursion (λ (cut : CutShown). cut.price ≤ most_shown) cuts → price_by (find_slot slot cuts) ≤ most_shown
small_price slot [] each = omega arith
small_price slot (cut ∷ cuts) each = by (nat_eq cut.slot.0 slot) (small_price slot cuts each.1)
  where
    by : (b : Bool) → price_by (find_slot slot cuts) ≤ most_shown → price_by (cond b (Some cut) (find_slot slot cuts)) ≤ most_shown
    by true rest = each.0
    by false rest = rest

pub prices_small : (slots : ℕ) (cuts : List CutShown) → All (λ (cut : CutShown). cut.price ≤ most_shown) cuts → All (λ price. price ≤ 2 ^ 60) (prices_by slots cuts)
unfolding prices_by
prices_small slots cuts each =
    All-map (λ price. price ≤ 2 ^ 60) (λ slot. price_by (find_slot slot cuts)) (range_with_len 0 slots)
    (λ k d below. small_price (get_or (range_with_len 0 slots) k d) cuts (recursion_from_All (λ (cut : CutShown). cut.price ≤ most_shown) cuts each))

-- a slot of which no line is has the price 0
no_price : (slot : ℕ) (cuts : List CutShown) → ¬ (IsUsed (slots_of cuts) slot) → price_by (find_slot slot cuts) ≡ 0
no_price slot [] unused = refl
no_price slot (cut ∷ cuts) unused = by (nat_eq cut.slot.0 slot) refl (no_price slot cuts)
  where
    by : (b : Bool) → nat_eq cut.slot.0 slot ≡ b → (¬ (IsUsed (slots_of cuts) slot) → price_by (find_slot slot cuts) ≡ 0) → price_by (cond b (Some cut) (find_slot slot cuts)) ≡ 0
    by true is behind = absurd (unused (0, omega arith, equal cut.slot.0 slot is))
    by false other behind = behind (λ used. unused (suc used.0, omega (arith, used.1), used.2))

-- ---- what they show

-- what a slot costs the net of a row is its cost in the table
cost_shown : (p : Netlist) (grid : Slots) (trial : ShownTrial) (placed : Placed) (table : SlotTable) → placed ≡ placed_shown p grid trial → IsCostsOf p placed grid table
    → (row slot : ℕ) → row < length table.rows → cost_of table row slot ≡ slot_cost p grid trial (net_of table row) slot
cost_shown p grid trial placed table shows is row slot below =
    ap (λ (slots : Slots). unsigned_abs (length_with (row_at table row) (centre_of slots slot))) is.slots
    ∙ ap unsigned_abs (is.lengths row (centre_of grid slot) below)
    ∙ ap (λ (pl : Placed). unsigned_abs (net_length p (places_of pl) (set pl.terminals (net_of table row) (Some (centre_of grid slot))) (net_of table row))) shows

slot_at : (cuts : List CutShown) (row : ℕ) → row < length cuts → slice_index (slots_of cuts) row ≡ (get_or cuts row no_cut).slot.0
slot_at cuts row below = get_or-map (λ (cut : CutShown). cut.slot.0) cuts row no_cut 0 below

-- the first of two lines of one slot would be the same line, where slots are distinct
own_price : (cuts : List CutShown) (row : ℕ) → IsDistinct nat_eq (slots_of cuts) → row < length cuts
    → price_by (find_slot (get_or cuts row no_cut).slot.0 cuts) ≡ (get_or cuts row no_cut).price
unfolding IsDistinct
own_price [] row distinct below = absurd (omega (arith, below))
own_price (cut ∷ cuts) zero distinct below = ap (λ b. price_by (cond b (Some cut) (find_slot cut.slot.0 cuts))) (self cut.slot.0)
  where
    self : (n : ℕ) → nat_eq n n ≡ true
    self n = grind (arith, nat_tests)
own_price (cut ∷ cuts) (suc row) distinct below =
    let other : nat_eq cut.slot.0 (get_or cuts row no_cut).slot.0 ≡ false =
    unlike cut.slot.0 (get_or cuts row no_cut).slot.0 (λ same. alike_none cut.slot.0 (slots_of cuts) row distinct.0 (omega (arith, below, length-map cuts (λ (cut : CutShown). cut.slot.0)))
    (same ∙ sym (slot_at cuts row (omega (arith, below))))) in
    ap (λ b. price_by (cond b (Some cut) (find_slot (get_or cuts row no_cut).slot.0 cuts))) other ∙ own_price cuts row distinct.1 (omega (arith, below))

-- what a trial's lines show of the table of its placement
pub record IsPriced (p : Netlist) (grid : Slots) (trial : ShownTrial) (placed : Placed) (table : SlotTable) : Type 0 where
  pub shows : placed ≡ placed_shown p grid trial
  pub costs : IsCostsOf p placed grid table
  pub nets : map (λ (cut : CutShown). cut.net.0) trial.cuts ≡ nets_in table
  pub slots : IsDistinct nat_eq (slots_of trial.cuts)
  pub within : All (λ (cut : CutShown). cut.slot.0 < slot_count grid) trial.cuts

-- the two sides of a comparison, once by the table and once as shown
abbrev CostsLess : Netlist → Slots → ShownTrial → CutShown → ℕ → Type 0
CostsLess p grid trial cut slot = slot_cost p grid trial cut.net.0 cut.slot.0 + cut.price ≤ slot_cost p grid trial cut.net.0 slot + price_shown trial slot

abbrev TableLess : Slots → ShownTrial → SlotTable → ℕ → ℕ → Type 0
TableLess grid trial table row slot =
    cost_of table row (slice_index (slots_of trial.cuts) row) + slice_index (prices_by (slot_count grid) trial.cuts) (slice_index (slots_of trial.cuts) row)
    ≤ cost_of table row slot + slice_index (prices_by (slot_count grid) trial.cuts) slot

by_parts : (a b c d e f g h : ℕ) → a ≡ e → b ≡ f → c ≡ g → d ≡ h → (a + b ≤ c + d) ↔ (e + f ≤ g + h)
by_parts a b c d e f g h one two three four = (λ less. omega (arith, one, two, three, four, less), λ less. omega (arith, one, two, three, four, less))

same_less : (p : Netlist) (grid : Slots) (trial : ShownTrial) (placed : Placed) (table : SlotTable) → IsPriced p grid trial placed table → (row slot : ℕ) → row < length trial.cuts
    → slot < slot_count grid → TableLess grid trial table row slot ↔ CostsLess p grid trial (get_or trial.cuts row no_cut) slot
same_less p grid trial placed table is row slot below slot_in =
    by_parts _ _ _ _ _ _ _ _
    (cost_shown p grid trial placed table is.shows is.costs row own in_rows ∙ (λ i. slot_cost p grid trial (sym net i) (here i)))
    (ap (slice_index (prices_by (slot_count grid) trial.cuts)) here ∙ price_of (slot_count grid) trial.cuts (get_or trial.cuts row no_cut).slot.0 (is.within row no_cut below)
    ∙ own_price trial.cuts row is.slots below)
    (cost_shown p grid trial placed table is.shows is.costs row slot in_rows ∙ ap (λ k. slot_cost p grid trial k slot) (sym net))
    (price_of (slot_count grid) trial.cuts slot slot_in)
  where
    own : ℕ
    own = slice_index (slots_of trial.cuts) row

    in_rows : row < length table.rows
    in_rows = omega (arith, below, many_lines table trial.cuts is.nets)

    here : own ≡ (get_or trial.cuts row no_cut).slot.0
    here = slot_at trial.cuts row below

    net : (get_or trial.cuts row no_cut).net.0 ≡ net_of table row
    net = line_of_row table trial.cuts row is.nets in_rows

-- Prices show the slots of the lines to be the best exactly where they show it of the table.
pub best_shown : (p : Netlist) (grid : Slots) (trial : ShownTrial) (placed : Placed) (table : SlotTable) → IsPriced p grid trial placed table
    → AreBest table trial.cuts ↔ ArePricesShown p grid trial
best_shown p grid trial placed table is = (there, back)
  where
    many : length (slots_of trial.cuts) ≡ length trial.cuts
    many = length-map trial.cuts (λ (cut : CutShown). cut.slot.0)

    on_grid : AreBest table trial.cuts ↔ ArePrices (cost_of table) (slot_count grid) (slots_of trial.cuts) (prices_by (slot_count grid) trial.cuts)
    on_grid = (
      subst (λ (slots : Slots). ArePrices (cost_of table) (slot_count slots) (slots_of trial.cuts) (prices_by (slot_count slots) trial.cuts)) is.costs.slots,
      subst (λ (slots : Slots). ArePrices (cost_of table) (slot_count slots) (slots_of trial.cuts) (prices_by (slot_count slots) trial.cuts)) (sym is.costs.slots),
    )

    there : AreBest table trial.cuts → ArePricesShown p grid trial
    there best row cut slot at slot_in =
        let below = slice_get_within trial.cuts row cut at in
        subst (λ (c : CutShown). CostsLess p grid trial c slot) (get_or_from_slice_get trial.cuts row cut no_cut at)
        ((same_less p grid trial placed table is row slot below slot_in).0 ((on_grid.0 best).best row (omega (arith, below, many)) slot slot_in))

    back : ArePricesShown p grid trial → AreBest table trial.cuts
    back shown = on_grid.1 (record {
      unused = λ slot slot_in unused. price_of (slot_count grid) trial.cuts slot slot_in ∙ no_price slot trial.cuts unused;
      best = λ row below slot slot_in.
          let in_cuts : row < length trial.cuts = omega (arith, below, many) in
          (same_less p grid trial placed table is row slot in_cuts slot_in).1
          (shown row (get_or trial.cuts row no_cut) slot (slice_get-get_or trial.cuts row no_cut in_cuts) slot_in);
    })

-- ---- their slots, below the number of slots

pub slots_within : (count most : ℕ) (cuts : List CutShown) (slots : List ℕ) → most ≡ count → slots ≡ slots_of cuts → All (λ (cut : CutShown). cut.slot.0 < count) cuts
    → All (λ slot. slot < most) slots
slots_within count most cuts slots same are within =
    subst (λ n. All (λ slot. slot < n) slots) (sym same)
    (subst (All (λ slot. slot < count)) (sym are) (All-map (λ slot. slot < count) (λ (cut : CutShown). cut.slot.0) cuts within))

pub cuts_within : (p : Netlist) (slots : ℕ) (cuts : List CutShown) → All (IsCutOf p slots) cuts → All (λ (cut : CutShown). cut.slot.0 < slots) cuts
cuts_within p slots cuts each k d below = (each k d below).slot
