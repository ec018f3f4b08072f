-- Both measures are convex.
use Rattle.std.proofs.Common.{◌≡◌, ℕ, zero, suc, ◌*◌, ◌^◌, ◌<◌, ◌≤◌, ℤ, pos, negsuc, neg_ℤ, ◌+ℤ◌, ◌-ℤ◌, ◌*ℤ◌, ◌≤ℤ◌, ◌<ℤ◌, FitsSigned, w64, to_z, of_z, lit<, List, [], ◌∷◌, map, length, get_or, unsigned_abs, arith, ap, refl}
use Rattle.std.proofs.lemmas.Int.{ints, to_z-of_z}
use Rattle.std.proofs.lemmas.List.{length-map}
use Rattle.std.proofs.lemmas.List.Elements.{recursion_from_All, All-from_recursion}
use Rattle.std.specs.List.{AllByRecursion}
use Rattle.fp_rows.specs.declared.RowCell.{RowCell}
use Rattle.fp_rows.specs.Rows.{FeasibleBy, ShownBy, total_by}
use Rattle.fp_rows.specs.Runs.{span, total_most}
use Rattle.fp_rows.specs.Squares.{IsCell, AreCells, IsRow, IsBest, AreDuals, squared_cost, squared_rise, total_weight, total_width}
use Rattle.fp_rows.specs.Squares as squares
use Rattle.fp_rows.specs.SquaresLaws.{squares_are_convex}
use Rattle.fp_rows.specs.Products.{mul-le_by, mul-suc}
use Rattle.fp_rows.specs.Ranges.{product_fits}
use Rattle.fp_rows.specs.Weights.{weight_at}
use mir.Syntax.{w128}
use Rattle.fp_rows.specs.LeastDuals.{above}
use Rattle.fp_rows.specs.TightLaws.{above-is}
use Rattle.fp_absrow.specs.ConvexCells.{ConvexCell, width_of, cost_of, rise_of, most_of, cell_at, IsTold, IsConvexCell, AreConvexCells, HasRoom, ConvexBest, ConvexDuals}
use Rattle.fp_absrow.specs.Measures.{absolute_cost, absolute_rise, turned, squared_cell, absolute_cell, squared_cells, absolute_cells}

-- ---- one cell
most_is : (weight : ℤ) → pos 1 ≤ℤ weight → pos (above (weight *ℤ pos (2 ^ 35))) ≡ weight *ℤ pos (2 ^ 35)
most_is weight h =
    let e = above-is (weight *ℤ pos (2 ^ 35)) in
    omega (arith, ints)

squared_range : (c : RowCell) (x : ℤ) → IsCell c → IsTold x → (neg_ℤ (c.weight *ℤ pos (2 ^ 35)) ≤ℤ squared_rise c x) × (squared_rise c x ≤ℤ (c.weight *ℤ pos (2 ^ 35)))
unfolding squared_rise
squared_range c x h told =
    let slope = pos 2 *ℤ (x -ℤ c.target) +ℤ pos 1 in
    let some : pos 0 ≤ℤ c.weight = omega (arith, ints, h.weight_from) in
    let least = mul-le_by c.weight (neg_ℤ (pos (2 ^ 35))) slope some (omega (arith, ints, h.target_to, told.0)) in
    let most = mul-le_by c.weight slope (pos (2 ^ 35)) some (omega (arith, ints, h.target_from, told.1)) in
    (omega (arith, ints), most)

pub squared_is_convex : (c : RowCell) → IsCell c → IsConvexCell (squared_cell c)
unfolding squared_cell
squared_is_convex c h = record {
  width_from = h.width_from;
  width_to = h.width_to;
  difference = λ x a b. (let e = (squares_are_convex x (x +ℤ pos 1) c h).step x (omega (arith, ints)) (omega (arith, ints)) in omega (arith, ints));
  grows = λ x a b. (squares_are_convex x (x +ℤ pos 1) c h).grows x (omega (arith, ints)) (omega (arith, ints));
  low = λ x told. (let e = most_is c.weight h.weight_from in let r = squared_range c x h told in omega (arith, ints, r.0));
  high = λ x told. (let e = most_is c.weight h.weight_from in let r = squared_range c x h told in omega (arith, ints, r.1));
}

distances : (w d : ℤ) → turned w d ≡ w *ℤ pos (unsigned_abs (d +ℤ pos 1)) -ℤ w *ℤ pos (unsigned_abs d)
unfolding turned
distances w (pos n) =
    let next : pos n +ℤ pos 1 ≡ pos (suc n) = omega (arith, ints) in
    let e = ap (λ z. w *ℤ pos (unsigned_abs z)) next in
    let f = mul-suc w n in
    omega (arith, ints)
distances w (negsuc zero) =
    let next : negsuc zero +ℤ pos 1 ≡ pos 0 = omega (arith, ints) in
    let e = ap (λ z. w *ℤ pos (unsigned_abs z)) next in
    let f = mul-suc w 0 in
    omega (arith, ints)
distances w (negsuc (suc n)) =
    let next : negsuc (suc n) +ℤ pos 1 ≡ negsuc n = omega (arith, ints) in
    let e = ap (λ z. w *ℤ pos (unsigned_abs z)) next in
    let f = mul-suc w (suc n) in
    omega (arith, ints)

turns : (w d : ℤ) → pos 0 ≤ℤ w → turned w d ≤ℤ turned w (d +ℤ pos 1)
unfolding turned
turns w (pos n) some =
    let next : pos n +ℤ pos 1 ≡ pos (suc n) = omega (arith, ints) in
    let e = ap (turned w) next in
    omega (arith, ints)
turns w (negsuc zero) some =
    let next : negsuc zero +ℤ pos 1 ≡ pos 0 = omega (arith, ints) in
    let e = ap (turned w) next in
    omega (arith, ints)
turns w (negsuc (suc n)) some =
    let next : negsuc (suc n) +ℤ pos 1 ≡ negsuc n = omega (arith, ints) in
    let e = ap (turned w) next in
    omega (arith, ints)

turned_range : (w d : ℤ) → pos 0 ≤ℤ w → (neg_ℤ w ≤ℤ turned w d) × (turned w d ≤ℤ w)
unfolding turned
turned_range w (pos n) some = (omega (arith, ints), omega (arith, ints))
turned_range w (negsuc n) some = (omega (arith, ints), omega (arith, ints))

weight_is : (weight : ℤ) → pos 1 ≤ℤ weight → pos (above weight) ≡ weight
weight_is weight h =
    let e = above-is weight in
    omega (arith, ints)

pub absolute_is_convex : (c : RowCell) → IsCell c → IsConvexCell (absolute_cell c)
unfolding absolute_cell absolute_cost absolute_rise
absolute_is_convex c h = record {
  width_from = h.width_from;
  width_to = h.width_to;
  difference = λ x a b. (let shift : (x +ℤ pos 1) -ℤ c.target ≡ (x -ℤ c.target) +ℤ pos 1 = omega (arith, ints) in let e = ap (λ z. c.weight *ℤ pos (unsigned_abs z)) shift in let f = distances c.weight (x -ℤ c.target) in omega (arith, ints));
  grows = λ x a b. (let shift : (x +ℤ pos 1) -ℤ c.target ≡ (x -ℤ c.target) +ℤ pos 1 = omega (arith, ints) in let e = ap (turned c.weight) shift in let f = turns c.weight (x -ℤ c.target) (omega (arith, ints, h.weight_from)) in omega (arith, ints));
  low = λ x told. (let e = weight_is c.weight h.weight_from in let r = turned_range c.weight (x -ℤ c.target) (omega (arith, ints, h.weight_from)) in omega (arith, ints, r.0));
  high = λ x told. (let e = weight_is c.weight h.weight_from in let r = turned_range c.weight (x -ℤ c.target) (omega (arith, ints, h.weight_from)) in omega (arith, ints, r.1));
}

-- ---- all cells
all_squared : (cells : List RowCell) → AllByRecursion IsCell cells → AllByRecursion IsConvexCell (squared_cells cells)
all_squared [] h = tt
all_squared (c ∷ cs) h = (squared_is_convex c h.0, all_squared cs h.1)

all_absolute : (cells : List RowCell) → AllByRecursion IsCell cells → AllByRecursion IsConvexCell (absolute_cells cells)
all_absolute [] h = tt
all_absolute (c ∷ cs) h = (absolute_is_convex c h.0, all_absolute cs h.1)

squared_most : (cells : List RowCell) → AllByRecursion IsCell cells → pos (total_most most_of (squared_cells cells)) ≡ total_weight cells *ℤ pos (2 ^ 35)
unfolding squared_cell
squared_most [] h = omega (arith, ints)
squared_most (c ∷ cs) h =
    let others = squared_most cs h.1 in
    let one = most_is c.weight h.0.weight_from in
    omega (arith, ints)

absolute_most : (cells : List RowCell) → AllByRecursion IsCell cells → pos (total_most most_of (absolute_cells cells)) ≡ total_weight cells
unfolding absolute_cell
absolute_most [] h = omega (arith, ints)
absolute_most (c ∷ cs) h =
    let others = absolute_most cs h.1 in
    let one = weight_is c.weight h.0.weight_from in
    omega (arith, ints)

pub squared_are_convex : (cells : List RowCell) → AreCells cells → AreConvexCells (squared_cells cells)
squared_are_convex cells h =
    let each = recursion_from_All IsCell cells h.each in
    let all = squared_most cells each in
    record { each = All-from_recursion IsConvexCell (squared_cells cells) (all_squared cells each); most = omega (arith, ints, h.weight) }

pub absolute_are_convex : (cells : List RowCell) → AreCells cells → AreConvexCells (absolute_cells cells)
absolute_are_convex cells h =
    let each = recursion_from_All IsCell cells h.each in
    let all = absolute_most cells each in
    record { each = All-from_recursion IsConvexCell (absolute_cells cells) (all_absolute cells each); most = omega (arith, ints, h.weight) }

-- cells are no more than they weigh
weighed : (cells : List RowCell) → AllByRecursion IsCell cells → pos (length cells) ≤ℤ total_weight cells
weighed [] h = omega (arith, ints)
weighed (c ∷ cs) h =
    let others = weighed cs h.1 in
    omega (arith, ints, h.0.weight_from)

pub few : (cells : List RowCell) → AreCells cells → length cells ≤ 2 ^ 22
few cells h =
    let all = weighed cells (recursion_from_All IsCell cells h.each) in
    omega (arith, ints, h.weight)

-- ---- rows
squared_span : (cells : List RowCell) → span width_of (squared_cells cells) ≡ total_width cells
unfolding squared_cell
squared_span [] = refl
squared_span (c ∷ cs) =
    let others = squared_span cs in
    omega (arith, ints)

absolute_span : (cells : List RowCell) → span width_of (absolute_cells cells) ≡ total_width cells
unfolding absolute_cell
absolute_span [] = refl
absolute_span (c ∷ cs) =
    let others = absolute_span cs in
    omega (arith, ints)

pub squared_row : (cells : List RowCell) (lo hi : ℤ) → IsRow cells lo hi → HasRoom (squared_cells cells) lo hi
squared_row cells lo hi h = record { start = h.start; ordered = h.ordered; finish = h.finish; room = rw (squared_span cells) h.room }

pub absolute_row : (cells : List RowCell) (lo hi : ℤ) → IsRow cells lo hi → HasRoom (absolute_cells cells) lo hi
absolute_row cells lo hi h = record { start = h.start; ordered = h.ordered; finish = h.finish; room = rw (absolute_span cells) h.room }

-- ---- what is best of squares, and its duals, are as for rows
feasible_on : (cells : List RowCell) (xs : List ℤ) (from to : ℤ) → FeasibleBy width_of from to (squared_cells cells) xs → FeasibleBy squares.width_of from to cells xs
unfolding squared_cell
feasible_on [] [] from to h = h
feasible_on [] (x ∷ xs) from to h = h
feasible_on (c ∷ cs) [] from to h = h
feasible_on (c ∷ cs) (x ∷ xs) from to h = (h.0, feasible_on cs xs (x +ℤ c.width) to h.1)

feasible_back : (cells : List RowCell) (xs : List ℤ) (from to : ℤ) → FeasibleBy squares.width_of from to cells xs → FeasibleBy width_of from to (squared_cells cells) xs
unfolding squared_cell
feasible_back [] [] from to h = h
feasible_back [] (x ∷ xs) from to h = h
feasible_back (c ∷ cs) [] from to h = h
feasible_back (c ∷ cs) (x ∷ xs) from to h = (h.0, feasible_back cs xs (x +ℤ c.width) to h.1)

same_total : (cells : List RowCell) (xs : List ℤ) → total_by cost_of (squared_cells cells) xs ≡ total_by squared_cost cells xs
unfolding squared_cell
same_total [] xs = refl
same_total (c ∷ cs) [] = refl
same_total (c ∷ cs) (x ∷ xs) = ap (λ z. squared_cost c x +ℤ z) (same_total cs xs)

shown_on : (cells : List RowCell) (xs : List ℤ) (duals : List ℕ) (from to : ℤ) (before : ℕ) → ShownBy width_of rise_of from to (squared_cells cells) xs before duals → ShownBy squares.width_of squared_rise from to cells xs before duals
unfolding squared_cell
shown_on [] [] [] from to before h = h
shown_on [] [] (d ∷ ds) from to before h = h
shown_on [] (x ∷ xs) ds from to before h = h
shown_on (c ∷ cs) [] ds from to before h = h
shown_on (c ∷ cs) (x ∷ xs) [] from to before h = h
shown_on (c ∷ cs) (x ∷ xs) (d ∷ ds) from to before h = (h.0, h.1, shown_on cs xs ds (x +ℤ c.width) to d h.2)

shown_back : (cells : List RowCell) (xs : List ℤ) (duals : List ℕ) (from to : ℤ) (before : ℕ) → ShownBy squares.width_of squared_rise from to cells xs before duals → ShownBy width_of rise_of from to (squared_cells cells) xs before duals
unfolding squared_cell
shown_back [] [] [] from to before h = h
shown_back [] [] (d ∷ ds) from to before h = h
shown_back [] (x ∷ xs) ds from to before h = h
shown_back (c ∷ cs) [] ds from to before h = h
shown_back (c ∷ cs) (x ∷ xs) [] from to before h = h
shown_back (c ∷ cs) (x ∷ xs) (d ∷ ds) from to before h = (h.0, h.1, shown_back cs xs ds (x +ℤ c.width) to d h.2)

pub best_on : (cells : List RowCell) (lo hi : ℤ) (xs : List ℤ) → ConvexBest (squared_cells cells) lo hi xs → IsBest cells lo hi xs
best_on cells lo hi xs h =
    (feasible_on cells xs lo hi h.0, λ zs other. rw (← same_total cells xs, ← same_total cells zs) (h.1 zs (feasible_back cells zs lo hi other)))

pub best_back : (cells : List RowCell) (lo hi : ℤ) (xs : List ℤ) → IsBest cells lo hi xs → ConvexBest (squared_cells cells) lo hi xs
best_back cells lo hi xs h =
    (feasible_back cells xs lo hi h.0, λ zs other. rw (same_total cells xs, same_total cells zs) (h.1 zs (feasible_on cells zs lo hi other)))

pub duals_on : (cells : List RowCell) (lo hi : ℤ) (xs : List ℤ) (duals : List ℕ) → ConvexDuals (squared_cells cells) lo hi xs duals → AreDuals cells lo hi xs duals
duals_on cells lo hi xs [] h = absurd h
duals_on [] lo hi xs (d ∷ ds) h = h
duals_on (c ∷ cs) lo hi xs (d ∷ ds) h = shown_on (c ∷ cs) xs ds lo hi d h

pub duals_back : (cells : List RowCell) (lo hi : ℤ) (xs : List ℤ) (duals : List ℕ) → AreDuals cells lo hi xs duals → ConvexDuals (squared_cells cells) lo hi xs duals
duals_back cells lo hi xs [] h = absurd h
duals_back [] lo hi xs (d ∷ ds) h = h
duals_back (c ∷ cs) lo hi xs (d ∷ ds) h = shown_back (c ∷ cs) xs ds lo hi d h

-- ---- one cell of all
pub squared_at : (cells : List RowCell) (i : ℕ) (d : RowCell) → i < length cells → cell_at (squared_cells cells) i ≡ squared_cell (get_or cells i d)
squared_at [] i d lt = absurd (omega arith)
squared_at (c ∷ cs) zero d lt = refl
squared_at (c ∷ cs) (suc i) d lt = squared_at cs i d (omega arith)

pub absolute_at : (cells : List RowCell) (i : ℕ) (d : RowCell) → i < length cells → cell_at (absolute_cells cells) i ≡ absolute_cell (get_or cells i d)
absolute_at [] i d lt = absurd (omega arith)
absolute_at (c ∷ cs) zero d lt = refl
absolute_at (c ∷ cs) (suc i) d lt = absolute_at cs i d (omega arith)

-- what is known of a cell of theirs
pub record IsThere (cells now : List RowCell) (i : ℕ) (d : RowCell) : Type 0 where
  pub within : i < length cells
  pub cell : IsCell (get_or cells i d)
  pub light : (get_or cells i d).weight ≤ℤ pos (2 ^ 22)

pub there : (cells now : List RowCell) (i : ℕ) (d : RowCell) (f : RowCell → ConvexCell) → AreCells cells → cells ≡ now → i < length (map f now) → IsThere cells now i d
there cells now i d f h same lt =
    let count = length-map now f in
    let counts = ap length same in
    let within : i < length cells = omega arith in
    record { within = within; cell = h.each i d within; light = weight_at cells i d h within }

-- ---- products and distances
pub product_range : (w d : ℤ) → pos 1 ≤ℤ w → w ≤ℤ pos (2 ^ 22) → neg_ℤ (pos (2 ^ 35)) ≤ℤ d → d ≤ℤ pos (2 ^ 35) → (neg_ℤ (pos (2 ^ 57)) ≤ℤ (w *ℤ d)) × ((w *ℤ d) ≤ℤ pos (2 ^ 57))
product_range w d some light low high =
    let least = mul-le_by w (neg_ℤ (pos (2 ^ 35))) d (omega (arith, ints)) low in
    let most = mul-le_by w d (pos (2 ^ 35)) (omega (arith, ints)) high in
    (omega (arith, ints), omega (arith, ints))

pub square_fits : (w d : ℤ) → pos 1 ≤ℤ w → w ≤ℤ pos (2 ^ 22) → neg_ℤ (pos (2 ^ 35)) ≤ℤ d → d ≤ℤ pos (2 ^ 35) → FitsSigned w128 ((w *ℤ d) *ℤ d)
square_fits w d some light low high =
    let range = product_range w d some light low high in
    product_fits w128 (w *ℤ d) d (2 ^ 57) (2 ^ 35) range.0 range.1 low high (lit< tt)

pub turned_before : (w d : ℤ) → d <ℤ pos 0 → turned w d ≡ neg_ℤ w
unfolding turned
turned_before w (pos n) lt = absurd (omega (arith, ints))
turned_before w (negsuc n) lt = refl

pub turned_from : (w d : ℤ) → pos 0 ≤ℤ d → turned w d ≡ w
unfolding turned
turned_from w (pos n) le = refl
turned_from w (negsuc n) le = absurd (omega (arith, ints))

pub size_is : (w : ℤ) → pos 0 ≤ℤ w → pos (unsigned_abs w) ≡ w
size_is (pos n) le = refl
size_is (negsuc n) le = absurd (omega (arith, ints))

pub steepest_is : (w : ℤ) → pos 1 ≤ℤ w → unsigned_abs w * 2 ^ 35 ≡ above (w *ℤ pos (2 ^ 35))
steepest_is w some =
    let e = size_is w (omega (arith, ints)) in
    let f = most_is w some in
    omega (arith, ints)

pub heaviest_is : (w : ℤ) → pos 1 ≤ℤ w → unsigned_abs w ≡ above w
heaviest_is w some =
    let e = size_is w (omega (arith, ints)) in
    let f = weight_is w some in
    omega (arith, ints)

pub distance_range : (d : ℤ) → neg_ℤ (pos (2 ^ 34)) ≤ℤ d → d ≤ℤ pos (2 ^ 34) → (neg_ℤ (pos (2 ^ 35)) ≤ℤ pos (unsigned_abs d)) × (pos (unsigned_abs d) ≤ℤ pos (2 ^ 35))
distance_range (pos n) low high = (omega (arith, ints), omega (arith, ints))
distance_range (negsuc n) low high = (omega (arith, ints), omega (arith, ints))

-- a cell's weight and its distance from a position, as the code computes them
pub record IsApart (c : RowCell) (x weight distance : ℤ) : Type 0 where
  pub weight_is : weight ≡ c.weight
  pub distance_is : distance ≡ x -ℤ c.target
  pub some : pos 1 ≤ℤ weight
  pub light : weight ≤ℤ pos (2 ^ 22)
  pub low : neg_ℤ (pos (2 ^ 34)) <ℤ distance
  pub high : distance <ℤ pos (2 ^ 34)

pub apart : (c : RowCell) (x weight distance : ℤ) → IsCell c → c.weight ≤ℤ pos (2 ^ 22) → IsTold x → weight ≡ to_z w64 (of_z w64 c.weight) → distance ≡ to_z w64 (of_z w64 (to_z w64 (of_z w64 x) -ℤ to_z w64 (of_z w64 c.target))) → IsApart c x weight distance
apart c x weight distance h light told w d =
    let a : FitsSigned w64 c.weight = omega (arith, ints, h.weight_from) in
    let b : FitsSigned w64 x = omega (arith, ints, told.0, told.1) in
    let e : FitsSigned w64 c.target = omega (arith, ints, h.target_from, h.target_to) in
    let f : FitsSigned w64 (x -ℤ c.target) = omega (arith, ints, told.0, told.1, h.target_from, h.target_to) in
    let weight_is : weight ≡ c.weight = simp to_z-of_z at w in
    let distance_is : distance ≡ x -ℤ c.target = simp to_z-of_z at d in
    record {
      weight_is = weight_is;
      distance_is = distance_is;
      some = omega (arith, ints, h.weight_from);
      light = omega (arith, ints);
      low = omega (arith, ints, told.0, h.target_to);
      high = omega (arith, ints, told.1, h.target_from);
    }
