-- Weak duality of rows: feasible positions with duals cost no more than any feasible positions.
use Rattle.std.proofs.Common.{◌≡◌, ℕ, zero, suc, ◌<◌, ℤ, pos, negsuc, ◌+ℤ◌, ◌-ℤ◌, ◌*ℤ◌, ◌≤ℤ◌, List, [], ◌∷◌, arith, ap, ◌∙◌, refl}
use Rattle.std.proofs.lemmas.Int.{ints}
use Rattle.std.specs.List.{AllByRecursion}
use Rattle.fp_rows.specs.Rows.{FeasibleBy, total_by, IsBestBy, IsConvexOn, ShownBy, AreDualsBy}
use Rattle.fp_rows.specs.Products.{mul-le, sub-mul, mul-suc}

step-at : {Cell : Type 0} (low high : ℤ) (width : Cell → ℤ) (cost rise : Cell → ℤ → ℤ) (c : Cell) → IsConvexOn low high width cost rise c → (x y : ℤ) → y ≡ x +ℤ pos 1 → low ≤ℤ x → y ≤ℤ high → cost c y ≡ cost c x +ℤ rise c x
step-at low high width cost rise c h x y e from to = ap (cost c) e ∙ h.step x from (omega (arith, ints))

-- ---- one cell
pub rise-from : {Cell : Type 0} (low high : ℤ) (width : Cell → ℤ) (cost rise : Cell → ℤ → ℤ) (c : Cell) → IsConvexOn low high width cost rise c → (k : ℕ) (x y : ℤ) → y ≡ x +ℤ pos k → low ≤ℤ x → y ≤ℤ high → rise c x ≤ℤ rise c y
rise-from low high width cost rise c h zero x y e from to =
    let here : y ≡ x = omega (arith, ints) in
    let same : rise c y ≡ rise c x = ap (rise c) here in
    omega (arith, ints)
rise-from low high width cost rise c h (suc k) x y e from to =
    let m = x +ℤ pos k in
    let next : y ≡ m +ℤ pos 1 = omega (arith, ints) in
    let up_to = rise-from low high width cost rise c h k x m refl from (omega (arith, ints)) in
    let more = h.grows m (omega (arith, ints)) (omega (arith, ints)) in
    let same : rise c y ≡ rise c (m +ℤ pos 1) = ap (rise c) next in
    omega (arith, ints)

above : {Cell : Type 0} (low high : ℤ) (width : Cell → ℤ) (cost rise : Cell → ℤ → ℤ) (c : Cell) → IsConvexOn low high width cost rise c → (k : ℕ) (x y slope : ℤ) → y ≡ x +ℤ pos k → low ≤ℤ x → y ≤ℤ high → slope ≤ℤ rise c x → (cost c x +ℤ slope *ℤ pos k) ≤ℤ cost c y
above low high width cost rise c h zero x y slope e from to least =
    let here : y ≡ x = omega (arith, ints) in
    let same : cost c y ≡ cost c x = ap (cost c) here in
    omega (arith, ints)
above low high width cost rise c h (suc k) x y slope e from to least =
    let m = x +ℤ pos k in
    let next : y ≡ m +ℤ pos 1 = omega (arith, ints) in
    let up_to = above low high width cost rise c h k x m slope refl from (omega (arith, ints)) least in
    let last = step-at low high width cost rise c h m y next (omega (arith, ints)) to in
    let steeper = rise-from low high width cost rise c h k x m refl from (omega (arith, ints)) in
    let more = mul-suc slope k in
    omega (arith, ints)

below : {Cell : Type 0} (low high : ℤ) (width : Cell → ℤ) (cost rise : Cell → ℤ → ℤ) (c : Cell) → IsConvexOn low high width cost rise c → (k : ℕ) (x y slope : ℤ) → x ≡ y +ℤ pos k → low ≤ℤ y → x ≤ℤ high → rise c (x -ℤ pos 1) ≤ℤ slope → cost c x ≤ℤ (cost c y +ℤ slope *ℤ pos k)
below low high width cost rise c h zero x y slope e from to most =
    let here : x ≡ y = omega (arith, ints) in
    let same : cost c x ≡ cost c y = ap (cost c) here in
    omega (arith, ints)
below low high width cost rise c h (suc k) x y slope e from to most =
    let m = y +ℤ pos 1 in
    let next : x ≡ m +ℤ pos k = omega (arith, ints) in
    let up_to = below low high width cost rise c h k x m slope next (omega (arith, ints)) to most in
    let first = h.step y from (omega (arith, ints)) in
    let before : x -ℤ pos 1 ≡ y +ℤ pos k = omega (arith, ints) in
    let flatter = rise-from low high width cost rise c h k y (x -ℤ pos 1) before from (omega (arith, ints)) in
    let more = mul-suc slope k in
    omega (arith, ints)

-- a line through the cost at x, with a slope between the rises there, lies nowhere above the cost
line : {Cell : Type 0} (low high : ℤ) (width : Cell → ℤ) (cost rise : Cell → ℤ → ℤ) (c : Cell) → IsConvexOn low high width cost rise c → (d x z slope : ℤ) → z ≡ x +ℤ d → (low ≤ℤ x) × (x ≤ℤ high) → (low ≤ℤ z) × (z ≤ℤ high) → rise c (x -ℤ pos 1) ≤ℤ slope → slope ≤ℤ rise c x → (cost c x +ℤ slope *ℤ d) ≤ℤ cost c z
line low high width cost rise c h (pos k) x z slope e here there most least = above low high width cost rise c h k x z slope e here.0 there.1 least
line low high width cost rise c h (negsuc k) x z slope e here there most least =
    let back : x ≡ z +ℤ pos (suc k) = omega (arith, ints) in
    let on = below low high width cost rise c h (suc k) x z slope back there.0 here.1 most in
    omega (arith, ints)

-- feasible places lie between their ends
feasible_end : {Cell : Type 0} (low high : ℤ) (width : Cell → ℤ) (cost rise : Cell → ℤ → ℤ) (to : ℤ) (cells : List Cell) (xs : List ℤ) (from : ℤ) → AllByRecursion (IsConvexOn low high width cost rise) cells → FeasibleBy width from to cells xs → from ≤ℤ to
feasible_end low high width cost rise to [] [] from all h = h
feasible_end low high width cost rise to [] (x ∷ xs) from all h = absurd h
feasible_end low high width cost rise to (c ∷ cs) [] from all h = absurd h
feasible_end low high width cost rise to (c ∷ cs) (x ∷ xs) from all h =
    let rest = feasible_end low high width cost rise to cs xs (x +ℤ width c) all.1 h.1 in
    omega (arith, ints, h.0, all.0.wide)

-- ---- a row
touch : (before : ℕ) (from from2 x z : ℤ) → (0 < before → from ≡ x) → from2 ≤ℤ z → (pos before *ℤ (from2 -ℤ from)) ≤ℤ (pos before *ℤ (z -ℤ x))
touch zero from from2 x z h le = omega (arith, ints)
touch (suc n) from from2 x z h le =
    let same : from ≡ x = h (omega arith) in
    let shorter : (from2 -ℤ from) ≤ℤ (z -ℤ x) = omega (arith, ints) in
    mul-le (suc n) _ _ shorter

no_way : (n : ℕ) (x : ℤ) → pos n *ℤ (x -ℤ x) ≡ pos 0
no_way n x =
    let still : x -ℤ x ≡ pos 0 = omega (arith, ints) in
    let same : pos n *ℤ (x -ℤ x) ≡ pos n *ℤ pos 0 = ap (λ d. pos n *ℤ d) still in
    omega (arith, ints)

add_up : (before after : ℕ) (from from2 x z w here there rest rest2 : ℤ) → (here +ℤ (pos before -ℤ pos after) *ℤ (z -ℤ x)) ≤ℤ there → (rest +ℤ pos after *ℤ ((z +ℤ w) -ℤ (x +ℤ w))) ≤ℤ rest2 → (pos before *ℤ (from2 -ℤ from)) ≤ℤ (pos before *ℤ (z -ℤ x)) → ((here +ℤ rest) +ℤ pos before *ℤ (from2 -ℤ from)) ≤ℤ (there +ℤ rest2)
add_up before after from from2 x z w here there rest rest2 one others start =
    let split = sub-mul (pos before) (pos after) (z -ℤ x) in
    let shift : (z +ℤ w) -ℤ (x +ℤ w) ≡ z -ℤ x = omega (arith, ints) in
    let same : pos after *ℤ ((z +ℤ w) -ℤ (x +ℤ w)) ≡ pos after *ℤ (z -ℤ x) = ap (λ d. pos after *ℤ d) shift in
    omega (arith, ints)

pub weak_duality : {Cell : Type 0} (low high : ℤ) (width : Cell → ℤ) (cost rise : Cell → ℤ → ℤ) (to : ℤ) (cells : List Cell) (xs : List ℤ) (afters : List ℕ) (zs : List ℤ) (from from2 : ℤ) (before : ℕ) → AllByRecursion (IsConvexOn low high width cost rise) cells → low ≤ℤ from → low ≤ℤ from2 → to ≤ℤ high → FeasibleBy width from to cells xs → ShownBy width rise from to cells xs before afters → FeasibleBy width from2 to cells zs → (total_by cost cells xs +ℤ pos before *ℤ (from2 -ℤ from)) ≤ℤ total_by cost cells zs
weak_duality low high width cost rise to [] [] [] [] from from2 before all a b e feasible shown other =
    let start = touch before from from2 to to shown other in
    let none = no_way before to in
    omega (arith, ints)
weak_duality low high width cost rise to [] [] [] (z ∷ zs) from from2 before all a b e feasible shown other = absurd other
weak_duality low high width cost rise to [] [] (d ∷ ds) zs from from2 before all a b e feasible shown other = absurd shown
weak_duality low high width cost rise to [] (x ∷ xs) ds zs from from2 before all a b e feasible shown other = absurd feasible
weak_duality low high width cost rise to (c ∷ cs) [] ds zs from from2 before all a b e feasible shown other = absurd feasible
weak_duality low high width cost rise to (c ∷ cs) (x ∷ xs) [] zs from from2 before all a b e feasible shown other = absurd shown
weak_duality low high width cost rise to (c ∷ cs) (x ∷ xs) (d ∷ ds) [] from from2 before all a b e feasible shown other = absurd other
weak_duality low high width cost rise to (c ∷ cs) (x ∷ xs) (d ∷ ds) (z ∷ zs) from from2 before all a b e feasible shown other =
    let wide = all.0.wide in
    let ends = feasible_end low high width cost rise to cs xs (x +ℤ width c) all.1 feasible.1 in
    let ends2 = feasible_end low high width cost rise to cs zs (z +ℤ width c) all.1 other.1 in
    let late : low ≤ℤ x = omega (arith, ints, feasible.0) in
    let late2 : low ≤ℤ z = omega (arith, ints, other.0) in
    let on = line low high width cost rise c all.0 (z -ℤ x) x z (pos before -ℤ pos d) (omega (arith, ints)) (late, omega (arith, ints)) (late2, omega (arith, ints)) shown.1.0 shown.1.1 in
    let rest = weak_duality low high width cost rise to cs xs ds zs (x +ℤ width c) (z +ℤ width c) d all.1 (omega (arith, ints)) (omega (arith, ints)) e feasible.1 shown.2 other.1 in
    let start = touch before from from2 x z shown.0 other.0 in
    add_up before d from from2 x z (width c) (cost c x) (cost c z) (total_by cost cs xs) (total_by cost cs zs) on rest start

-- feasible positions that have duals are the best, where the costs are convex between the ends
pub duals_show_best : {Cell : Type 0} (low high : ℤ) (width : Cell → ℤ) (cost rise : Cell → ℤ → ℤ) (from to : ℤ) (cells : List Cell) (xs : List ℤ) (duals : List ℕ) → AllByRecursion (IsConvexOn low high width cost rise) cells → low ≤ℤ from → to ≤ℤ high → FeasibleBy width from to cells xs → AreDualsBy width rise from to cells xs duals → IsBestBy width cost from to cells xs
duals_show_best low high width cost rise from to cells xs [] all a e feasible shown = absurd shown
duals_show_best low high width cost rise from to [] xs (d ∷ ds) all a e feasible shown = (feasible, λ zs other. omega (arith, ints))
duals_show_best low high width cost rise from to (c ∷ cs) xs (d ∷ ds) all a e feasible shown =
    (feasible, λ zs other. at_one_start (total_by cost (c ∷ cs) xs) (total_by cost (c ∷ cs) zs) from d (weak_duality low high width cost rise to (c ∷ cs) xs ds zs from from d all a a e feasible shown other))
  where
    at_one_start : (a b from : ℤ) (d : ℕ) → (a +ℤ pos d *ℤ (from -ℤ from)) ≤ℤ b → a ≤ℤ b
    at_one_start a b from d h =
        let none = no_way d from in
        omega (arith, ints)
