-- Rows of a table of slots' costs, one after the other: their nets' terminals, and their lines.
use Rattle.std.proofs.Common.{◌≡◌, ◌≢◌, ℕ, zero, suc, ◌+◌, ◌<◌, true, false, List, [], ◌∷◌, ◌++◌, length, map, set, get_or, Option, Some, None, Result, Ok, Err, refl, sym, ap, subst, ◌∙◌, append_assoc, arith}
use Rattle.std.specs.Prelude.{slice_index, OnOk, Bool, nat_eq}
use Rattle.std.proofs.lemmas.List.{length-set, length-map, get_or-map, get_or-set_same, get_or-set_other, ext_get_or}
use Rattle.std.proofs.lemmas.Bool.Decides.{nat_tests}
use Rattle.std.proofs.lemmas.List.FromFn.{length-map-range_with_len, get_or-map-range_with_len, map-range_with_len_more}
use Rattle.fp_base.specs.declared.ids.Die.{Die}
use Rattle.fp_base.specs.declared.ids.Point.{Point}
use Rattle.fp_tech.specs.Slots.{Slots, centre_of}
use Rattle.fp_netlist.specs.Netlist.{Netlist}
use Rattle.fp_place.specs.Cut.{is_cut, cut_below, cut}
use Rattle.fp_place.specs.Places.{dies_of}
use Rattle.fp_place.specs.Placed.{Placed, places_of}
use Rattle.fp_match.specs.Prices.{Solution}
use Rattle.fp_score.specs.Score.{terminal_at}
use Rattle.fp_slots.specs.Table.{SlotTable, net_of, IsCostsOf}
use Rattle.fp_cert.specs.declared.shown.CutShown.{CutShown}
use Rattle.fp_cert.specs.CutLinesLaws.{IsCutNet, cut_nets_by_rank}
use Rattle.fp_cert.specs.Trials.{cut_nets}
use Rattle.fp_flow.specs.Slotted.{with_slots, slotted_line, slotted_lines}

pub on_ok : {X Y A B : Type 0} (r : Result X Y) → (A → B) → OnOk r A → OnOk r B
on_ok (Ok x) f a = f a
on_ok (Err e) f a = tt

-- ---- terminals

pub none_yet : (grid : Slots) (table : SlotTable) (chosen : List ℕ) (terminals : List (Option Point)) → with_slots grid table chosen 0 terminals ≡ terminals
unfolding with_slots
none_yet grid table chosen terminals = refl

pub one_more : (grid : Slots) (table : SlotTable) (chosen : List ℕ) (row : ℕ) (terminals : List (Option Point))
    → set (with_slots grid table chosen row terminals) (net_of table row) (Some (centre_of grid (slice_index chosen row))) ≡ with_slots grid table chosen (row + 1) terminals
unfolding with_slots
one_more grid table chosen row terminals =
    let next : suc row ≡ row + 1 = omega arith in
    ap (λ n. with_slots grid table chosen n terminals) next

pub length-with_slots : (grid : Slots) (table : SlotTable) (chosen : List ℕ) (rows : ℕ) (terminals : List (Option Point)) → length (with_slots grid table chosen rows terminals) ≡ length terminals
unfolding with_slots
length-with_slots grid table chosen zero terminals = refl
length-with_slots grid table chosen (suc row) terminals =
    length-set (with_slots grid table chosen row terminals) (net_of table row) (Some (centre_of grid (slice_index chosen row))) ∙ length-with_slots grid table chosen row terminals

-- a net of no row keeps its terminal
pub others_stay : (grid : Slots) (table : SlotTable) (chosen : List ℕ) (rows : ℕ) (terminals : List (Option Point)) (net : ℕ) → ((row : ℕ) → row < rows → net ≢ net_of table row)
    → terminal_at (with_slots grid table chosen rows terminals) net ≡ terminal_at terminals net
unfolding with_slots
others_stay grid table chosen zero terminals net other = refl
others_stay grid table chosen (suc row) terminals net other =
    get_or-set_other (with_slots grid table chosen row terminals) (net_of table row) net (Some (centre_of grid (slice_index chosen row))) None (other row (omega arith))
    ∙ others_stay grid table chosen row terminals net (λ k below. other k (omega (arith, below)))

equal : (a b : ℕ) → nat_eq a b ≡ true → a ≡ b
equal a b is = grind (arith, nat_tests)

before_last : (row last : ℕ) → nat_eq row last ≡ false → row < last + 1 → row < last
before_last row last other below = grind (arith, nat_tests)

-- the net of a row, of which no later row is, has the row's slot
pub row_is_set : (grid : Slots) (table : SlotTable) (chosen : List ℕ) (rows : ℕ) (terminals : List (Option Point)) (row : ℕ) → row < rows → net_of table row < length terminals
    → ((other : ℕ) → row < other → other < rows → net_of table other ≢ net_of table row)
    → terminal_at (with_slots grid table chosen rows terminals) (net_of table row) ≡ Some (centre_of grid (get_or chosen row 0))
unfolding with_slots
row_is_set grid table chosen zero terminals row below within apart = absurd (omega (arith, below))
row_is_set grid table chosen (suc last) terminals row below within apart =
    by (nat_eq row last) refl (λ before. row_is_set grid table chosen last terminals row before within (λ other above least. apart other above (omega (arith, least))))
  where
    by : (b : Bool) → nat_eq row last ≡ b → (row < last → terminal_at (with_slots grid table chosen last terminals) (net_of table row) ≡ Some (centre_of grid (get_or chosen row 0)))
        → terminal_at (set (with_slots grid table chosen last terminals) (net_of table last) (Some (centre_of grid (slice_index chosen last)))) (net_of table row)
        ≡ Some (centre_of grid (get_or chosen row 0))
    by true same behind =
        let is : row ≡ last = equal row last same in
        let long : net_of table last < length (with_slots grid table chosen last terminals) =
        omega (arith, length-with_slots grid table chosen last terminals, subst (λ k. net_of table k < length terminals) is within) in
        subst (λ k. terminal_at (set (with_slots grid table chosen last terminals) (net_of table last) (Some (centre_of grid (slice_index chosen last)))) (net_of table k)
        ≡ Some (centre_of grid (get_or chosen k 0))) (sym is)
        (get_or-set_same (with_slots grid table chosen last terminals) (net_of table last) (Some (centre_of grid (slice_index chosen last))) None long)
    by false other behind =
        let before : row < last = before_last row last other (omega (arith, below)) in
        get_or-set_other (with_slots grid table chosen last terminals) (net_of table last) (net_of table row) (Some (centre_of grid (slice_index chosen last))) None
        (λ same. apart last before (omega arith) (sym same))
        ∙ behind before

-- ---- lines

pub one_line_more : (table : SlotTable) (solution : Solution) (row : ℕ) (cuts : List CutShown)
    → (cuts ++ slotted_lines table solution row) ++ slotted_line table solution row ∷ [] ≡ cuts ++ slotted_lines table solution (row + 1)
one_line_more table solution row cuts =
    append_assoc cuts (slotted_lines table solution row) (slotted_line table solution row ∷ [])
    ∙ ap (λ lines. cuts ++ lines) (sym (map-range_with_len_more (slotted_line table solution) 0 row row (omega arith)))

-- ---- all rows

line_at : (table : SlotTable) (solution : Solution) (rows row : ℕ) → row < rows → (d : CutShown) → get_or (slotted_lines table solution rows) row d ≡ slotted_line table solution row
line_at table solution rows row below d = get_or-map-range_with_len (slotted_line table solution) 0 rows row row d below (omega arith)

length-lines : (table : SlotTable) (solution : Solution) (rows : ℕ) → length (slotted_lines table solution rows) ≡ rows
length-lines table solution rows = length-map-range_with_len (slotted_line table solution) 0 rows

no_line : CutShown
no_line = record { net = record { 0 = 0 }; slot = record { 0 = 0 }; price = 0 }

-- two rows have two nets
pub nets_apart : (p : Netlist) (placed : Placed) (grid : Slots) (table : SlotTable) → IsCostsOf p placed grid table → (row other : ℕ) → row < other → other < length table.rows
    → net_of table other ≢ net_of table row
nets_apart p placed grid table is row other above below same =
    let mine = (is.rows row (omega (arith, above, below))).in_order in
    let its = (is.rows other below).in_order in
    let equal : other ≡ row = sym its ∙ ap (cut_below p (dies_of (places_of placed))) same ∙ mine in
    absurd (omega (arith, equal, above))

-- a net that is not cut is of no row
pub row_is_cut : (p : Netlist) (placed : Placed) (grid : Slots) (table : SlotTable) → IsCostsOf p placed grid table → (row : ℕ) → row < length table.rows → (net : ℕ)
    → is_cut p (dies_of (places_of placed)) net ≡ false → net ≢ net_of table row
row_is_cut p placed grid table is row within net uncut same =
    let both : true ≡ false = sym (is.rows row within).is_cut_net ∙ ap (is_cut p (dies_of (places_of placed))) (sym same) ∙ uncut in
    absurd cc

-- the lines of all rows list the cut nets in file order
pub lines_list_cuts : (p : Netlist) (placed : Placed) (grid : Slots) (table : SlotTable) (solution : Solution) → IsCostsOf p placed grid table
    → map (λ cut. cut.net.0) (slotted_lines table solution (length table.rows)) ≡ cut_nets p (dies_of (places_of placed))
lines_list_cuts p placed grid table solution is =
    cut_nets_by_rank p dies nets many (λ rank below.
    let row = is.rows rank (omega (arith, below, rows)) in
    let net : get_or nets rank 0 ≡ net_of table rank =
    get_or-map (λ (cut : CutShown). cut.net.0) (slotted_lines table solution (length table.rows)) rank no_line 0 (omega (arith, below, rows, length-lines table solution (length table.rows)))
    ∙ ap (λ (cut : CutShown). cut.net.0) (line_at table solution (length table.rows) rank (omega (arith, below, rows)) no_line) in
    subst (IsCutNet p dies rank) (sym net) (record { within = row.within; is_cut_net = row.is_cut_net; rank_is = row.in_order }))
  where
    dies : List Die
    dies = dies_of (places_of placed)

    nets : List ℕ
    nets = map (λ cut. cut.net.0) (slotted_lines table solution (length table.rows))

    rows : length nets ≡ length table.rows
    rows = length-map (slotted_lines table solution (length table.rows)) (λ cut. cut.net.0) ∙ length-lines table solution (length table.rows)

    many : length nets ≡ cut p dies
    many = rows ∙ is.all_cut

-- and the slots of the solution
pub lines_list_slots : (table : SlotTable) (solution : Solution) (rows : ℕ) → length solution.chosen ≡ rows → map (λ cut. cut.slot.0) (slotted_lines table solution rows) ≡ solution.chosen
lines_list_slots table solution rows many =
    ext_get_or 0 (map (λ cut. cut.slot.0) (slotted_lines table solution rows)) solution.chosen (long ∙ sym many) (λ row below.
    get_or-map (λ (cut : CutShown). cut.slot.0) (slotted_lines table solution rows) row no_line 0 (omega (arith, below, long, length-lines table solution rows))
    ∙ ap (λ (cut : CutShown). cut.slot.0) (line_at table solution rows row (omega (arith, below, long)) no_line))
  where
    long : length (map (λ (cut : CutShown). cut.slot.0) (slotted_lines table solution rows)) ≡ rows
    long = length-map (slotted_lines table solution rows) (λ cut. cut.slot.0) ∙ length-lines table solution rows
