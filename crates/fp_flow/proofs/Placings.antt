-- Positions and duals of a row, in vectors and in lines.
use Rattle.std.proofs.Common.{◌≡◌, ℕ, suc, ◌+◌, ◌^◌, ◌<◌, ◌≤◌, List, [], ◌∷◌, ◌++◌, length, map, take, get_or, slice_get, Some, ℤ, pos, ◌+ℤ◌, refl, sym, ap, subst, ◌∙◌, arith}
use Rattle.std.specs.Prelude.{All}
use Rattle.std.specs.List.{range_with_len}
use Rattle.std.proofs.lemmas.List.{take-append-le, take_all, length-map, get_or-map, ext_get_or}
use Rattle.std.proofs.lemmas.List.FromFn.{length-map-range_with_len, get_or-map-range_with_len}
use Rattle.std.proofs.lemmas.Option.{slice_get_within, get_or_from_slice_get}
use Rattle.fp_base.specs.declared.ids.CellId.{CellId}
use Rattle.fp_base.specs.declared.ids.Die.{Die}
use Rattle.fp_base.specs.declared.ids.Point.{Point}
use Rattle.fp_tech.specs.declared.dies.Segment.{Segment}
use Rattle.fp_netlist.specs.Netlist.{Netlist}
use Rattle.fp_rows.specs.Rows.{FeasibleBy, ShownBy, AreDualsBy}
use Rattle.fp_rows.specs.declared.RowCell.{RowCell}
use Rattle.fp_rows.specs.Squares.{AreDuals, IsBest}
use Rattle.fp_score.specs.Pick.{point_at}
use Rattle.fp_cert.specs.declared.shown.CellShown.{CellShown}
use Rattle.fp_cert.specs.Shown.{ShownRow}
use Rattle.fp_cert.specs.RowsLaws.{cell_for}
use Rattle.fp_cert.specs.Trials.{row_cell, row_cells, row_xs}
use Rattle.fp_cert.specs.Certified.{row_duals}
use Rattle.fp_flow.specs.Rows.{no_cell, line_of, placed_row, IsPlacedRow, IsBestRow}

-- what is written over a vector of the same length is what it holds
pub written_whole : {A : Type 0} (n : ℕ) (new old : List A) → length new ≡ n → take n (new ++ old) ≡ new
written_whole n new old long = take-append-le n new old (omega (arith, long)) ∙ take_all n new (omega (arith, long))

-- feasible positions are as many as the cells, and duals one more
pub xs_long : {Cell : Type 0} (width : Cell → ℤ) (from to : ℤ) (cells : List Cell) (xs : List ℤ) → FeasibleBy width from to cells xs → length xs ≡ length cells
xs_long width from to [] [] feasible = refl
xs_long width from to [] (x ∷ xs) feasible = absurd feasible
xs_long width from to (c ∷ cells) [] feasible = absurd feasible
xs_long width from to (c ∷ cells) (x ∷ xs) feasible = ap suc (xs_long width (x +ℤ width c) to cells xs feasible.1)

shown_long : {Cell : Type 0} (width : Cell → ℤ) (rise : Cell → ℤ → ℤ) (from to : ℤ) (cells : List Cell) (xs : List ℤ) (before : ℕ) (afters : List ℕ)
    → ShownBy width rise from to cells xs before afters → length afters ≡ length cells
shown_long width rise from to [] [] before [] shown = refl
shown_long width rise from to [] [] before (a ∷ afters) shown = absurd shown
shown_long width rise from to [] (x ∷ xs) before afters shown = absurd shown
shown_long width rise from to (c ∷ cells) [] before afters shown = absurd shown
shown_long width rise from to (c ∷ cells) (x ∷ xs) before [] shown = absurd shown
shown_long width rise from to (c ∷ cells) (x ∷ xs) before (a ∷ afters) shown = ap suc (shown_long width rise (x +ℤ width c) to cells xs a afters shown.2)

pub duals_long : {Cell : Type 0} (width : Cell → ℤ) (rise : Cell → ℤ → ℤ) (from to : ℤ) (cells : List Cell) (xs : List ℤ) (duals : List ℕ)
    → AreDualsBy width rise from to cells xs duals → length duals ≡ length cells + 1
duals_long width rise from to cells xs [] shown = absurd shown
duals_long width rise from to [] xs (dual ∷ duals) shown = let none = ap length shown.2 in omega (arith, none)
duals_long width rise from to (c ∷ cells) xs (dual ∷ duals) shown = let rest = shown_long width rise from to (c ∷ cells) xs dual duals shown in omega (arith, rest)

-- ---- the lines of a placed row

no_line : CellShown
no_line = record { cell = no_cell; x = pos 0; target = record { x = pos 0; y = pos 0 }; dual = 0 }

line_at : (lane : List CellId) (targets : List Point) (xs : List ℤ) (duals : List ℕ) (rank : ℕ) → rank < length lane → (d : CellShown)
    → get_or (map (line_of lane targets xs duals) (range_with_len 0 (length lane))) rank d ≡ line_of lane targets xs duals rank
line_at lane targets xs duals rank below d = get_or-map-range_with_len (line_of lane targets xs duals) 0 (length lane) rank rank d below (omega arith)

-- what the lines show of each cell, as a list
shows : {A : Type 0} (view : CellShown → A) (lane : List CellId) (targets : List Point) (xs : List ℤ) (duals : List ℕ) (list : List A) (d : A) → length list ≡ length lane
    → ((rank : ℕ) → rank < length lane → view (line_of lane targets xs duals rank) ≡ get_or list rank d)
    → map view (map (line_of lane targets xs duals) (range_with_len 0 (length lane))) ≡ list
shows view lane targets xs duals list d many each =
    ext_get_or d (map view lines) list (long ∙ sym many) (λ rank below.
    let inside : rank < length lane = omega (arith, below, long) in
    get_or-map view lines rank no_line d (omega (arith, inside, lines_long)) ∙ ap view (line_at lane targets xs duals rank inside no_line) ∙ each rank inside)
  where
    lines : List CellShown
    lines = map (line_of lane targets xs duals) (range_with_len 0 (length lane))

    lines_long : length lines ≡ length lane
    lines_long = length-map-range_with_len (line_of lane targets xs duals) 0 (length lane)

    long : length (map view lines) ≡ length lane
    long = length-map lines view ∙ lines_long

no_row_cell : RowCell
no_row_cell = record { width = pos 0; target = pos 0; weight = pos 0 }

-- A row of the best positions with duals that show it is the best row of its lane.
pub placed_is_best : (p : Netlist) (die : Die) (segment : Segment) (lane : List CellId) (targets : List Point) (xs : List ℤ) (duals : List ℕ)
    → IsPlacedRow (map (cell_for p die targets) lane) segment.start (segment.start +ℤ segment.length) xs duals → IsBestRow p die segment lane targets (placed_row lane targets xs duals)
placed_is_best p die segment lane targets xs duals placed = record {
  lane_is = shows (λ cell. cell.cell) lane targets xs duals lane no_cell refl (λ rank below. refl);
  targets_are = λ rank cell at. target rank cell at;
  best = subst (λ (zs : List ℤ). IsBest (row_cells p die row) from to zs) (sym xs_are) (subst (λ (cells : List RowCell). IsBest cells from to xs) (sym cells_are) placed.best);
  duals = subst (λ (ds : List ℕ). AreDuals (row_cells p die row) from to (row_xs row) ds) (sym duals_are)
      (subst (λ (zs : List ℤ). AreDuals (row_cells p die row) from to zs duals) (sym xs_are) (subst (λ (cells : List RowCell). AreDuals cells from to xs duals) (sym cells_are) placed.shown));
  small = subst (All (λ dual. dual ≤ 2 ^ 57)) (sym duals_are) placed.small;
}
  where
    row : ShownRow
    row = placed_row lane targets xs duals

    from : ℤ
    from = segment.start

    to : ℤ
    to = segment.start +ℤ segment.length

    many : length xs ≡ length lane
    many = placed.many ∙ length-map lane (cell_for p die targets)

    xs_are : row_xs row ≡ xs
    xs_are = shows (λ cell. cell.x) lane targets xs duals xs (pos 0) many (λ rank below. refl)

    cells_are : row_cells p die row ≡ map (cell_for p die targets) lane
    cells_are = shows (row_cell p die) lane targets xs duals (map (cell_for p die targets) lane) no_row_cell (length-map lane (cell_for p die targets))
        (λ rank below. sym (get_or-map (cell_for p die targets) lane rank no_cell no_row_cell below))

    behind : (ds : List ℕ) → ds ≡ duals → length ds ≡ length lane + 1 → get_or duals 0 0 ∷ map (λ (cell : CellShown). cell.dual) row.cells ≡ ds
    behind [] are long = absurd (omega (arith, long))
    behind (first ∷ rest) are long =
        let head : get_or duals 0 0 ≡ first = ap (λ (list : List ℕ). get_or list 0 0) (sym are) in
        let tail = shows (λ cell. cell.dual) lane targets xs duals rest 0 (omega (arith, long)) (λ rank below.
        let next : rank + 1 ≡ suc rank = omega arith in
        ap (λ (list : List ℕ). get_or list (rank + 1) 0) (sym are) ∙ ap (λ k. get_or (first ∷ rest) k 0) next) in
        λ i. head i ∷ tail i

    duals_are : row_duals row ≡ duals
    duals_are = behind duals refl (placed.many_duals ∙ ap (λ n. n + 1) (length-map lane (cell_for p die targets)))

    target : (rank : ℕ) (cell : CellShown) → slice_get row.cells rank ≡ Some cell → cell.target ≡ point_at targets cell.cell.0
    target rank cell at =
        let below : rank < length lane = omega (arith, slice_get_within row.cells rank cell at, length-map-range_with_len (line_of lane targets xs duals) 0 (length lane)) in
        let same : line_of lane targets xs duals rank ≡ cell = sym (line_at lane targets xs duals rank below no_line) ∙ get_or_from_slice_get row.cells rank cell no_line at in
        subst (λ (c : CellShown). c.target ≡ point_at targets c.cell.0) same refl
