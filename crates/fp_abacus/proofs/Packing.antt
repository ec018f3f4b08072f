-- The positions of clusters, written one run after the other.
use Rattle.std.proofs.Common.{◌≡◌, ℕ, ◌+◌, ◌<◌, ◌≤◌, ◌-◌, ℤ, pos, ◌+ℤ◌, ◌≤ℤ◌, List, [], ◌∷◌, ◌++◌, length, take, drop, get_or, arith, ap, sym, ◌∙◌, refl, append_assoc, length-append}
use Rattle.std.proofs.lemmas.Int.{ints}
use Rattle.std.proofs.lemmas.List.{length-drop, take_at, append-nil}
use Rattle.std.proofs.Math.Seq.{take-length}
use Rattle.std.specs.List.{AllByRecursion}
use Rattle.fp_rows.specs.declared.RowCell.{RowCell}
use Rattle.fp_rows.specs.Squares.{IsCell, width_of}
use Rattle.fp_rows.specs.Lists.{drop-at, drop-all, all_front, all_behind, drop_at, drop_run, take_here}
use Rattle.fp_rows.specs.Runs.{span, packed}
use Rattle.fp_rows.specs.SquaresLaws.{squares_sized}
use Rattle.fp_rows.specs.RunsLaws.{span_low, span-append}
use Rattle.fp_abacus.specs.declared.stack.Cluster.{Cluster}
use Rattle.fp_abacus.specs.Stacks.{AreClusters, clamped, places}
use Rattle.fp_abacus.proofs.Places.{is_clamped}

pub record IsPlacing (cells : List RowCell) (clusters : List Cluster) (lo top : ℤ) (xs : List ℤ) (k placed : ℕ) (before : ℤ) : Type 0 where
  pub each : AllByRecursion IsCell (drop placed cells)
  pub within : placed ≤ length cells
  pub low : pos 0 ≤ℤ before
  pub wide : before +ℤ span width_of (drop placed cells) ≡ span width_of cells
  pub stacked : AreClusters before (drop placed cells) (drop k clusters)
  pub same : take placed xs ++ places lo top before (drop placed cells) (drop k clusters) ≡ places lo top (pos 0) cells clusters

-- the cluster that is placed next
pub record IsNext (cells : List RowCell) (clusters : List Cluster) (lo top : ℤ) (xs : List ℤ) (k placed : ℕ) (before : ℤ) (count : ℕ) (at : ℤ) : Type 0 where
  pub run : List RowCell
  pub size : length run ≡ count
  pub slice : take (placed + count - placed) (drop placed cells) ≡ run
  pub each : AllByRecursion IsCell run
  pub from : pos 0 ≤ℤ (at +ℤ before)
  pub to : ((at +ℤ before) +ℤ span width_of run) ≤ℤ (top +ℤ span width_of cells)
  pub wide : pos 0 ≤ℤ span width_of run
  pub room : placed + count ≤ length cells
  pub step : (ys : List ℤ) → take (placed + count) ys ≡ take placed xs ++ packed width_of (at +ℤ before) run → IsPlacing cells clusters lo top ys (k + 1) (placed + count) (before +ℤ span width_of run)

pub next_cluster : (cells : List RowCell) (clusters : List Cluster) (lo top : ℤ) (xs : List ℤ) (k placed : ℕ) (before : ℤ) (d : Cluster) → pos 0 ≤ℤ lo → lo ≤ℤ top → k < length clusters → IsPlacing cells clusters lo top xs k placed before → IsNext cells clusters lo top xs k placed before (get_or clusters k d).cells (clamped lo top (get_or clusters k d).level)
next_cluster cells clusters lo top xs k placed before d start ordered lt h =
    let cluster = get_or clusters k d in
    let n = cluster.cells in
    let at = clamped lo top cluster.level in
    let ks = drop (k + 1) clusters in
    let cut = drop-at clusters k d lt in
    let stacked : AreClusters before (drop placed cells) (cluster ∷ ks) = rw cut at h.stacked in
    let run = stacked.0.run in
    let rest = stacked.0.rest in
    let count = stacked.0.front.count in
    let parts = stacked.0.cut in
    let each : AllByRecursion IsCell (run ++ rest) = rw parts at h.each in
    let each_run = all_front IsCell run rest each in
    let each_rest = all_behind IsCell run rest each in
    let between = is_clamped lo top cluster.level ordered in
    let narrow = span_low width_of run (squares_sized run each_run) in
    let others = span_low width_of rest (squares_sized rest each_rest) in
    let wide : before +ℤ span width_of (run ++ rest) ≡ span width_of cells = rw parts at h.wide in
    let spans = span-append width_of run rest in
    let lengths : length (drop placed cells) ≡ length run + length rest = ap length parts ∙ length-append run rest in
    let long = length-drop placed cells in
    let within = h.within in
    let further : drop (placed + n) cells ≡ rest = drop_run cells run rest placed n parts count in
    let same : take placed xs ++ (packed width_of (at +ℤ before) run ++ places lo top (before +ℤ span width_of run) rest ks) ≡ places lo top (pos 0) cells clusters = rw (cut, parts, take_at run rest n count, drop_at run rest n count) at h.same in
    record {
      run = run;
      size = count;
      slice = take_here cells run rest placed n parts count;
      each = each_run;
      from = omega (arith, ints, between.low, h.low);
      to = omega (arith, ints, between.high);
      wide = narrow;
      room = omega arith;
      step = λ ys e. record {
        each = rw further each_rest;
        within = omega arith;
        low = omega (arith, ints, h.low);
        wide = rw further (omega (arith, ints));
        stacked = rw further stacked.0.behind;
        same = rw (further, e) (append_assoc (take placed xs) (packed width_of (at +ℤ before) run) (places lo top (before +ℤ span width_of run) rest ks) ∙ same);
      };
    }

pub placing_end : (cells : List RowCell) (clusters : List Cluster) (lo top : ℤ) (xs : List ℤ) (k placed : ℕ) (before : ℤ) → length clusters ≤ k → k ≤ length clusters → length xs ≡ length cells → IsPlacing cells clusters lo top xs k placed before → xs ≡ places lo top (pos 0) cells clusters
placing_end cells clusters lo top xs k placed before l g sizes h =
    let cut : drop k clusters ≡ [] = drop-all clusters clusters k refl l g in
    let none : drop placed cells ≡ [] = rw cut at h.stacked in
    let same : take placed xs ++ [] ≡ places lo top (pos 0) cells clusters = rw cut at h.same in
    let long = length-drop placed cells in
    let zero_left = ap length none in
    let all : placed ≡ length xs = omega (arith, h.within) in
    let whole : take placed xs ≡ xs = rw all (take-length xs) in
    sym whole ∙ sym (append-nil (take placed xs)) ∙ same
