-- A row that is placed by its clusters.
use Rattle.std.proofs.Common.{◌≡◌, ℕ, ◌^◌, ◌≤◌, ℤ, pos, ◌+ℤ◌, ◌-ℤ◌, ◌≤ℤ◌, List, [], ◌∷◌, length, take, drop, ◌-◌, All, arith, refl}
use Rattle.std.proofs.lemmas.Int.{ints}
use Rattle.std.proofs.lemmas.List.Elements.{recursion_from_All, All-from_recursion}
use Rattle.std.proofs.lemmas.List.{length-drop}
use Rattle.std.proofs.Math.Seq.{take-length}
use Rattle.std.specs.List.{AllByRecursion}
use Rattle.fp_rows.specs.declared.RowCell.{RowCell}
use Rattle.fp_rows.specs.Rows.{FeasibleBy}
use Rattle.fp_rows.specs.Squares.{IsCell, IsPlace, AreCells, ArePlaces, IsRow, Feasible, AreDuals, width_of, squared_rise, total_width}
use Rattle.fp_rows.specs.SquaresLaws.{squares_sized}
use Rattle.fp_rows.specs.Runs.{span}
use Rattle.fp_rows.specs.LeastDuals.{least_duals}
use Rattle.fp_rows.specs.TightLaws.{Tight, tight_is_feasible, tight_is_shown}
use Rattle.fp_rows.specs.RunsLaws.{span_low}
use Rattle.fp_rows.specs.NeedsLaws.{least_small}
use Rattle.fp_abacus.specs.declared.stack.Cluster.{Cluster}
use Rattle.fp_abacus.specs.Stacks.{AreClusters, places}
use Rattle.fp_abacus.proofs.Places.{clusters_are_tight}
use Rattle.fp_abacus.proofs.Adding.{all_grow}
use Rattle.fp_abacus.proofs.Rises.{most_of, small_rises}

span-is : (cells : List RowCell) → span width_of cells ≡ total_width cells
span-is [] = refl
span-is (c ∷ cs) =
    let e = span-is cs in
    omega (arith, ints)

pub rest_of : {A : Type 0} (xs : List A) (i : ℕ) → take (length xs - i) (drop i xs) ≡ drop i xs
rest_of xs i = rw (← length-drop i xs) (take-length (drop i xs))

pub record HasRoom (cells : List RowCell) (lo hi : ℤ) : Type 0 where
  pub low : pos 0 ≤ℤ span width_of cells
  pub ordered : lo ≤ℤ (hi -ℤ span width_of cells)

pub has_room : (cells : List RowCell) (lo hi : ℤ) → IsRow cells lo hi → HasRoom cells lo hi
has_room cells lo hi h =
    let same = span-is cells in
    record { low = span_low width_of cells (squares_sized cells (recursion_from_All IsCell cells h.each.each)); ordered = omega (arith, ints, h.room) }

pub tight_places : (cells : List RowCell) (lo hi : ℤ) (ks : List Cluster) → IsRow cells lo hi → AreClusters (pos 0) cells ks → Tight width_of squared_rise lo hi 0 cells (places lo (hi -ℤ span width_of cells) (pos 0) cells ks)
tight_places cells lo hi ks h clusters =
    clusters_are_tight lo (hi -ℤ span width_of cells) hi ks cells (has_room cells lo hi h).ordered (all_grow cells (recursion_from_All IsCell cells h.each.each)) clusters (omega (arith, ints))

feasible_range : (cells : List RowCell) (xs : List ℤ) (from to : ℤ) → AllByRecursion IsCell cells → pos 0 ≤ℤ from → to ≤ℤ pos (2 ^ 31) → FeasibleBy width_of from to cells xs → (length xs ≡ length cells) × AllByRecursion IsPlace xs × (from ≤ℤ to)
feasible_range [] [] from to each low high f = (refl, tt, f)
feasible_range [] (x ∷ xs) from to each low high f = absurd f
feasible_range (c ∷ cs) [] from to each low high f = absurd f
feasible_range (c ∷ cs) (x ∷ xs) from to each low high f =
    let wide = each.0.width_from in
    let rest = feasible_range cs xs (x +ℤ c.width) to each.1 (omega (arith, ints, f.0)) high f.1 in
    let end = rest.2 in
    (omega (arith, rest.0), ((omega (arith, ints, f.0), omega (arith, ints)), rest.1), omega (arith, ints, f.0))

pub feasible_places : (cells : List RowCell) (lo hi : ℤ) (xs : List ℤ) → IsRow cells lo hi → Feasible cells lo hi xs → ArePlaces cells xs
feasible_places cells lo hi xs h f =
    let r = feasible_range cells xs lo hi (recursion_from_All IsCell cells h.each.each) h.start h.finish f in
    record { count = r.0; range = All-from_recursion IsPlace xs r.1 }

pub placed_is_feasible : (cells : List RowCell) (lo hi : ℤ) (xs : List ℤ) → Tight width_of squared_rise lo hi 0 cells xs → Feasible cells lo hi xs
placed_is_feasible cells lo hi xs h = tight_is_feasible width_of squared_rise cells xs lo hi 0 h

pub placed_is_shown : (cells : List RowCell) (lo hi : ℤ) (xs : List ℤ) → AreCells cells → ArePlaces cells xs → Tight width_of squared_rise lo hi 0 cells xs → AreDuals cells lo hi xs (least_duals squared_rise 0 cells xs)
placed_is_shown cells lo hi xs good places h = tight_is_shown width_of squared_rise most_of cells xs lo hi (small_rises cells xs good places).near h

pub duals_are_small : (cells : List RowCell) (xs : List ℤ) → AreCells cells → ArePlaces cells xs → All (λ dual. dual ≤ 2 ^ 57) (least_duals squared_rise 0 cells xs)
duals_are_small cells xs good places =
    let small = small_rises cells xs good places in
    All-from_recursion (λ dual. dual ≤ 2 ^ 57) (least_duals squared_rise 0 cells xs) (least_small squared_rise most_of cells xs 0 small.near (omega (arith, small.few)))
