-- A cell that is put in front of clusters, and is joined with those that it would overlap.
use Rattle.std.proofs.Common.{◌≡◌, ℕ, suc, ◌+◌, ◌^◌, ◌<◌, ◌≤◌, ◌-◌, ℤ, pos, negsuc, neg_ℤ, ◌+ℤ◌, ◌-ℤ◌, ◌*ℤ◌, ◌≤ℤ◌, ◌<ℤ◌, List, [], ◌∷◌, ◌++◌, length, take, drop, set, get_or, inl, inr, arith, ap, sym, ◌∙◌, subst, refl, append_assoc, length-append}
use Rattle.std.proofs.lemmas.Int.{ints}
use Rattle.std.proofs.lemmas.Bool.{cases_lt}
use Rattle.std.proofs.lemmas.List.{set_split, length-take-le, take_more, take-append-drop}
use Rattle.std.proofs.Math.Seq.{drop-length, take-length}
use Rattle.std.specs.List.{AllByRecursion}
use Rattle.fp_rows.specs.declared.RowCell.{RowCell}
use Rattle.fp_rows.specs.Squares.{IsCell, width_of, squared_cost, squared_rise, total_weight}
use Rattle.fp_rows.specs.SquaresLaws.{squares_are_convex, squares_sized}
use Rattle.fp_rows.specs.Duality.{rise-from}
use Rattle.fp_rows.specs.Products.{mul-add, add-mul, mul-neg, mul-assoc, mul_comm}
use Rattle.fp_rows.specs.Weights.{weight_low}
use Rattle.fp_rows.specs.Lists.{drop-at, drop-all, all_front, all_behind, drop_at}
use Rattle.fp_rows.specs.Runs.{total, rises, span, Grows}
use Rattle.fp_rows.specs.RunsLaws.{span_low, span-append}
use Rattle.fp_abacus.specs.declared.stack.Cluster.{Cluster}
use Rattle.fp_abacus.specs.Stacks.{slope, IsMoment, IsCluster, IsFront, IsUnder, AreClusters, AreClustersBehind, IsMade}
use Rattle.fp_abacus.proofs.Joins.{both_total, joined}

-- ---- squares
pub grows : (c : RowCell) → IsCell c → Grows squared_rise c
grows c h x y le = by_gap (y -ℤ x) refl
  where
    by_gap : (d : ℤ) → d ≡ y -ℤ x → squared_rise c x ≤ℤ squared_rise c y
    by_gap (pos k) e = rise-from x y width_of squared_cost squared_rise c (squares_are_convex x y c h) k x y (omega (arith, ints)) (omega (arith, ints)) (omega (arith, ints))
    by_gap (negsuc k) e = absurd (omega (arith, ints))

pub all_grow : (cells : List RowCell) → AllByRecursion IsCell cells → AllByRecursion (Grows squared_rise) cells
all_grow [] h = tt
all_grow (c ∷ cs) h = (grows c h.0, all_grow cs h.1)

weight-append : (run others : List RowCell) → total_weight (run ++ others) ≡ total_weight run +ℤ total_weight others
weight-append [] others = omega (arith, ints)
weight-append (c ∷ cs) others =
    let e = weight-append cs others in
    omega (arith, ints)

-- ---- one cell
one_rise : (w level offset target : ℤ) → w *ℤ (pos 2 *ℤ ((level +ℤ offset) -ℤ target) +ℤ pos 1) ≡ slope w (w *ℤ (target -ℤ offset)) level
one_rise w level offset target =
    let d = target -ℤ offset in
    let shift : pos 2 *ℤ ((level +ℤ offset) -ℤ target) +ℤ pos 1 ≡ (pos 2 *ℤ level +ℤ pos 1) +ℤ neg_ℤ (pos 2 *ℤ d) = omega (arith, ints) in
    let a : w *ℤ (pos 2 *ℤ ((level +ℤ offset) -ℤ target) +ℤ pos 1) ≡ w *ℤ ((pos 2 *ℤ level +ℤ pos 1) +ℤ neg_ℤ (pos 2 *ℤ d)) = ap (λ z. w *ℤ z) shift in
    let b = mul-add w (pos 2 *ℤ level +ℤ pos 1) (neg_ℤ (pos 2 *ℤ d)) in
    let e = mul-neg w (pos 2 *ℤ d) in
    let f : w *ℤ (pos 2 *ℤ d) ≡ pos 2 *ℤ (w *ℤ d) = sym (mul-assoc w (pos 2) d) ∙ ap (λ z. z *ℤ d) (mul_comm w (pos 2)) ∙ mul-assoc (pos 2) w d in
    omega (arith, ints)

pub cluster_of_one : (c : RowCell) (offset : ℤ) (k : Cluster) → IsMoment c.weight (c.weight *ℤ (c.target -ℤ offset)) → IsMade 1 c.weight (c.weight *ℤ (c.target -ℤ offset)) k → IsCluster offset (c ∷ []) k
unfolding squared_rise
cluster_of_one c offset k moment made =
    let w = c.weight in
    let m = w *ℤ (c.target -ℤ offset) in
    let here : (level : ℤ) → squared_rise c (level +ℤ offset) ≡ slope w m level = λ level. one_rise w level offset c.target in
    let count = made.count in
    let below = made.least.below in
    let reached = made.least.reached in
    let left = here (k.level -ℤ pos 1) in
    let right = here k.level in
    record {
      count = omega arith;
      some = omega arith;
      weight = omega (arith, ints, made.heavy);
      moment = rw (made.heavy, made.turning) moment;
      rising = λ level. (let e = here level in rw (made.heavy, made.turning) (omega (arith, ints)));
      best = record { firsts = (omega (arith, ints), tt); lasts = (omega (arith, ints), tt); below = omega (arith, ints); reached = omega (arith, ints) };
    }

-- ---- two clusters
slopes : (v x m n level : ℤ) → slope (v +ℤ x) (m +ℤ n) level ≡ slope v m level +ℤ slope x n level
slopes v x m n level =
    let a = add-mul v x (pos 2 *ℤ level +ℤ pos 1) in
    let b = mul-add (pos 2) m n in
    omega (arith, ints)

cluster_joined : (offset : ℤ) (run others : List RowCell) (a b j : Cluster) → AllByRecursion IsCell (run ++ others) → (total_weight (run ++ others)) ≤ℤ pos (2 ^ 22) → IsCluster offset run a → IsCluster (offset +ℤ span width_of run) others b → b.level <ℤ a.level → IsMade (a.cells + b.cells) (a.weight +ℤ b.weight) (a.moment +ℤ b.moment) j → IsCluster offset (run ++ others) j
cluster_joined offset run others a b j each light first second apart made =
    let weights = weight-append run others in
    let grow = all_grow (run ++ others) each in
    let rising : (level : ℤ) → total (rises width_of squared_rise (level +ℤ offset) (run ++ others)) ≡ slope (a.weight +ℤ b.weight) (a.moment +ℤ b.moment) level =
    λ level.
    let whole = both_total width_of squared_rise offset run others level in
    let left = first.rising level in
    let right = second.rising level in
    let sum = slopes a.weight b.weight a.moment b.moment level in
    omega (arith, ints) in
    let below = made.least.below in
    let reached = made.least.reached in
    let under = rising (j.level -ℤ pos 1) in
    let at = rising j.level in
    let m = first.moment in
    let n = second.moment in
    record {
      count = rw length-append (omega (arith, first.count, second.count, made.count));
      some = omega (arith, first.some, made.count);
      weight = omega (arith, ints, made.heavy, first.weight, second.weight);
      moment = rw (made.heavy, made.turning) (record {
        some = omega (arith, ints);
        light = omega (arith, ints, first.weight, second.weight);
        low = omega (arith, ints);
        high = omega (arith, ints);
      });
      rising = λ level. rw (made.heavy, made.turning) (rising level);
      best = joined width_of squared_rise offset run others a.level b.level j.level (all_front (Grows squared_rise) run others grow) (all_behind (Grows squared_rise) run others grow) first.best second.best apart (omega (arith, ints)) (omega (arith, ints));
    }

-- the clusters from one on, behind one that is being added
abbrev pub Behind : List Cluster → ℤ → List RowCell → Type 0
Behind ks offset cells = AreClusters offset cells ks

pub record CanJoin (cells : List RowCell) (a b : Cluster) : Type 0 where
  pub count : a.cells + b.cells ≤ length cells
  pub first : IsMoment a.weight a.moment
  pub second : IsMoment b.weight b.moment
  pub weight : (a.weight +ℤ b.weight) ≤ℤ pos (2 ^ 22)

pub can_join : (offset : ℤ) (cells : List RowCell) (a b : Cluster) (ks : List Cluster) → AllByRecursion IsCell cells → total_weight cells ≤ℤ pos (2 ^ 22) → IsFront offset cells a (Behind (b ∷ ks)) → CanJoin cells a b
can_join offset cells a b ks each light h =
    let run = h.run in
    let next = h.behind.0 in
    let run2 = next.run in
    let rest2 = next.rest in
    let cut : cells ≡ run ++ (run2 ++ rest2) = h.cut ∙ ap (λ r. run ++ r) next.cut in
    let each2 : AllByRecursion IsCell (run ++ (run2 ++ rest2)) = rw cut at each in
    let others = weight_low rest2 (all_behind IsCell run2 rest2 (all_behind IsCell run (run2 ++ rest2) each2)) in
    let light2 : total_weight (run ++ (run2 ++ rest2)) ≤ℤ pos (2 ^ 22) = rw cut at light in
    let w = weight-append run (run2 ++ rest2) in
    let w2 = weight-append run2 rest2 in
    record {
      count = rw cut (rw (length-append run (run2 ++ rest2), length-append run2 rest2) (omega (arith, h.front.count, next.front.count)));
      first = h.front.moment;
      second = next.front.moment;
      weight = omega (arith, ints, h.front.weight, next.front.weight);
    }

pub adding_next : (offset : ℤ) (cells : List RowCell) (a b j : Cluster) (ks : List Cluster) → AllByRecursion IsCell cells → total_weight cells ≤ℤ pos (2 ^ 22) → IsFront offset cells a (Behind (b ∷ ks)) → b.level <ℤ a.level → IsMade (a.cells + b.cells) (a.weight +ℤ b.weight) (a.moment +ℤ b.moment) j → IsFront offset cells j (Behind ks)
adding_next offset cells a b j ks each light h apart made =
    let run = h.run in
    let next = h.behind.0 in
    let run2 = next.run in
    let rest2 = next.rest in
    let cut : cells ≡ (run ++ run2) ++ rest2 = h.cut ∙ ap (λ r. run ++ r) next.cut ∙ sym (append_assoc run run2 rest2) in
    let each2 : AllByRecursion IsCell ((run ++ run2) ++ rest2) = rw cut at each in
    let others = weight_low rest2 (all_behind IsCell (run ++ run2) rest2 each2) in
    let light2 : total_weight ((run ++ run2) ++ rest2) ≤ℤ pos (2 ^ 22) = rw cut at light in
    let w = weight-append (run ++ run2) rest2 in
    let spans = span-append width_of run run2 in
    let offsets : (offset +ℤ span width_of run) +ℤ span width_of run2 ≡ offset +ℤ span width_of (run ++ run2) = omega (arith, ints) in
    record {
      run = run ++ run2;
      rest = rest2;
      cut = cut;
      front = cluster_joined offset run run2 a b j (all_front IsCell (run ++ run2) rest2 each2) (omega (arith, ints)) h.front next.front apart made;
      behind = rw offsets at next.behind;
    }

pub adding_one : (offset : ℤ) (cells : List RowCell) (c : RowCell) (cs : List RowCell) (k : Cluster) (ks : List Cluster) → cells ≡ c ∷ cs → IsMoment c.weight (c.weight *ℤ (c.target -ℤ offset)) → IsMade 1 c.weight (c.weight *ℤ (c.target -ℤ offset)) k → AreClustersBehind offset cells ks → IsFront offset cells k (Behind ks)
adding_one offset cells c cs k ks e moment made h =
    let behind : AreClusters (offset +ℤ c.width) cs ks = rw e at h in
    let offsets : offset +ℤ c.width ≡ offset +ℤ (c.width +ℤ pos 0) = omega (arith, ints) in
    record {
      run = c ∷ [];
      rest = cs;
      cut = e;
      front = cluster_of_one c offset k moment made;
      behind = rw offsets at behind;
    }

-- ---- the loop
pub record IsAdding (cells : List RowCell) (i : ℕ) (before : ℤ) (added : Cluster) (work : List Cluster) (next : ℕ) : Type 0 where
  pub low : i < next
  pub high : next ≤ length work
  pub front : IsFront before (drop i cells) added (Behind (drop next work))

pub added_last : (level : ℤ) (work : List Cluster) (next : ℕ) (d : Cluster) → next ≤ length work → (next < length work → level ≤ℤ (get_or work next d).level) → IsUnder level (drop next work)
added_last level work next d high under = elim (cases_lt next (length work)) as (λ _. IsUnder level (drop next work)) [
  | inl lt ↦ rw (drop-at work next d lt) (under lt)
  | inr ge ↦ rw (drop-all work work next refl ge high) tt
]

pub set_front : (work : List Cluster) (next : ℕ) (added : Cluster) → 0 < next → next ≤ length work → drop (next - 1) (set work (next - 1) added) ≡ added ∷ drop next work
set_front work next added some high =
    let lt : next - 1 < length work = omega arith in
    let split = set_split work (next - 1) added lt in
    let short = length-take-le (next - 1) work (omega arith) in
    let here : suc (next - 1) ≡ next = omega arith in
    rw split (rw here (drop_at (take (next - 1) work) (added ∷ drop next work) (next - 1) short))

-- the clusters of the cells from i on
pub record IsStacking (cells : List RowCell) (work : List Cluster) (i : ℕ) (before : ℤ) (first : ℕ) : Type 0 where
  pub sizes : length work ≡ length cells
  pub low : i ≤ first
  pub high : first ≤ length cells
  pub wide : before ≡ span width_of (take i cells)
  pub clusters : AreClusters before (drop i cells) (drop first work)

span-more : (cells : List RowCell) (i : ℕ) (d : RowCell) → i < length cells → span width_of (take (i + 1) cells) ≡ span width_of (take i cells) +ℤ (get_or cells i d).width
span-more cells i d lt =
    let cut = take_more cells i d lt in
    let e = span-append width_of (take i cells) (get_or cells i d ∷ []) in
    rw cut (omega (arith, ints, e))

pub stacking_start : (cells : List RowCell) (work : List Cluster) (n : ℕ) (width : ℤ) → n ≡ length cells → length work ≡ length cells → width ≡ span width_of cells → IsStacking cells work n width n
stacking_start cells work n width e sizes wide =
    let none : drop n cells ≡ [] = rw e (drop-length cells) in
    let none2 : drop n work ≡ [] = (let f : n ≡ length work = omega arith in rw f (drop-length work)) in
    record {
      sizes = sizes;
      low = omega arith;
      high = omega arith;
      wide = rw (e, take-length cells) wide;
      clusters = rw (none2, none) refl;
    }

-- before the cell at i is added
pub record IsReady (cells : List RowCell) (work : List Cluster) (i : ℕ) (before : ℤ) (first : ℕ) : Type 0 where
  pub from : pos 0 ≤ℤ before
  pub to : before ≤ℤ span width_of cells
  pub wide : before ≡ span width_of (take i cells)
  pub behind : AreClustersBehind before (drop i cells) (drop first work)

pub ready : (cells : List RowCell) (work : List Cluster) (i : ℕ) (before : ℤ) (first : ℕ) (d : RowCell) → AllByRecursion IsCell cells → i < length cells → IsStacking cells work (i + 1) before first → IsReady cells work i (before -ℤ (get_or cells i d).width) first
ready cells work i before first d each lt h =
    let cut = drop-at cells i d lt in
    let more = span-more cells i d lt in
    let wide = h.wide in
    let halves : AllByRecursion IsCell (take i cells ++ drop i cells) = rw (take-append-drop i cells) each in
    let low = span_low width_of (take i cells) (squares_sized (take i cells) (all_front IsCell (take i cells) (drop i cells) halves)) in
    let high = span_low width_of (drop i cells) (squares_sized (drop i cells) (all_behind IsCell (take i cells) (drop i cells) halves)) in
    let both : span width_of cells ≡ span width_of (take i cells) +ℤ span width_of (drop i cells) = rw (take-append-drop i cells) at (span-append width_of (take i cells) (drop i cells)) in
    let back : before ≡ (before -ℤ (get_or cells i d).width) +ℤ (get_or cells i d).width = omega (arith, ints) in
    record {
      from = omega (arith, ints);
      to = omega (arith, ints);
      wide = omega (arith, ints);
      behind = rw cut (rw back at h.clusters);
    }

pub ready_below : (cells : List RowCell) (work : List Cluster) (n : ℕ) (before : ℤ) (first : ℕ) (d : RowCell) → AllByRecursion IsCell cells → 0 < n → n ≤ length cells → IsStacking cells work n before first → IsReady cells work (n - 1) (before -ℤ (get_or cells (n - 1) d).width) first
ready_below cells work n before first d each some le h =
    let back : n ≡ (n - 1) + 1 = omega arith in
    ready cells work (n - 1) before first d each (omega arith) (let P : ℕ → Type 0 = λ m. IsStacking cells work m before first in subst P back h)
