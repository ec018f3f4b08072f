-- The positions that clusters give are tight.
use Rattle.std.proofs.Common.{◌≡◌, ℕ, ℤ, pos, ◌+ℤ◌, ◌-ℤ◌, ◌≤ℤ◌, ◌<ℤ◌, List, [], ◌∷◌, ◌++◌, arith, refl}
use Rattle.std.proofs.lemmas.Int.{ints, clamps}
use Rattle.std.proofs.lemmas.List.{take_at}
use Rattle.std.specs.List.{AllByRecursion}
use Rattle.fp_rows.specs.declared.RowCell.{RowCell}
use Rattle.fp_rows.specs.Squares.{width_of, squared_rise}
use Rattle.fp_rows.specs.Runs.{rises, packed, Grows, span}
use Rattle.fp_rows.specs.LeastDuals.{need}
use Rattle.fp_rows.specs.TightLaws.{Tight, tight_end, tight_gap, tight_first, need_before_run, left_over, nothing_left, tight_run}
use Rattle.fp_rows.specs.Lists.{all_front, all_behind, drop_at}
use Rattle.fp_rows.specs.RunsLaws.{span-append}
use Rattle.fp_abacus.specs.declared.stack.Cluster.{Cluster}
use Rattle.fp_abacus.specs.Stacks.{IsUnder, AreClusters, clamped, places}
use Rattle.fp_abacus.proofs.Joins.{lower, higher}

-- ---- levels between the ends
pub record IsClamped (lo top level : ℤ) : Type 0 where
  pub low : lo ≤ℤ clamped lo top level
  pub high : clamped lo top level ≤ℤ top
  pub not_raised : lo <ℤ clamped lo top level → clamped lo top level ≤ℤ level
  pub not_lowered : clamped lo top level <ℤ top → level ≤ℤ clamped lo top level

pub is_clamped : (lo top level : ℤ) → lo ≤ℤ top → IsClamped lo top level
unfolding clamped
is_clamped lo top level le = record {
  low = omega (arith, ints, clamps);
  high = omega (arith, ints, clamps);
  not_raised = λ h. omega (arith, ints, clamps);
  not_lowered = λ h. omega (arith, ints, clamps);
}

pub clamped-le : (lo top a b : ℤ) → a ≤ℤ b → clamped lo top a ≤ℤ clamped lo top b
unfolding clamped
clamped-le lo top a b le = omega (arith, ints, clamps)

-- ---- runs, and all clusters
no_need : (lo top : ℤ) → lo ≤ℤ top → (ks : List Cluster) (offset from : ℤ) (cells : List RowCell) → AllByRecursion (Grows squared_rise) cells → AreClusters offset cells ks → lo <ℤ clamped lo top from → IsUnder from ks → need squared_rise cells (places lo top offset cells ks) ≡ 0
no_need lo top le [] offset from cells grows h inside under = rw h refl
no_need lo top le (k ∷ ks) offset from cells grows h inside under =
    let run = h.0.run in
    let rest = h.0.rest in
    let cut = h.0.cut in
    let at = clamped lo top k.level in
    let between = is_clamped lo top k.level le in
    let higher_up = clamped-le lo top from k.level under in
    let steep : AllByRecursion (Grows squared_rise) (run ++ rest) = rw cut at grows in
    let count = h.0.front.count in
    let others = no_need lo top le ks (offset +ℤ span width_of run) k.level rest (all_behind (Grows squared_rise) run rest steep) h.0.behind (omega (arith, ints)) h.1 in
    let firsts = lower width_of squared_rise run offset (at -ℤ pos 1) (k.level -ℤ pos 1) (all_front (Grows squared_rise) run rest steep) (omega (arith, ints, between.not_raised (omega (arith, ints)))) h.0.front.best.firsts in
    let none = need_before_run width_of squared_rise run rest (places lo top (offset +ℤ span width_of run) rest ks) (at +ℤ offset) ((at -ℤ pos 1) +ℤ offset) (pos 0) (omega (arith, ints)) (omega (arith, ints)) firsts others in
    rw (cut, take_at run rest k.cells count, drop_at run rest k.cells count) (omega (arith, ints, none))

next_under : (lo top level : ℤ) (ks : List Cluster) → IsUnder level ks → (k : Cluster) (others : List Cluster) → ks ≡ k ∷ others → clamped lo top level ≤ℤ clamped lo top k.level
next_under lo top level [] under k others e = absurd (cc)
next_under lo top level (j ∷ js) under k others e =
    let same : j ≡ k = cc in
    rw same at (clamped-le lo top level j.level under)

tight_from : (lo top : ℤ) → lo ≤ℤ top → (ks : List Cluster) (offset level from hi : ℤ) (cells : List RowCell) (spare : ℕ) → AllByRecursion (Grows squared_rise) cells → AreClusters offset cells ks → lo ≤ℤ level → level ≤ℤ top → ((k : Cluster) (others : List Cluster) → ks ≡ k ∷ others → level ≤ℤ clamped lo top k.level) → from ≡ level +ℤ offset → hi ≡ (top +ℤ offset) +ℤ span width_of cells → (level <ℤ top → spare ≡ 0) → Tight width_of squared_rise from hi spare cells (places lo top offset cells ks)
tight_from lo top le [] offset level from hi cells spare grows h low high under here end left =
    let whole : hi ≡ top +ℤ offset = (let e : span width_of cells ≡ pos 0 = rw h refl in omega (arith, ints)) in
    let t = tight_end (lo +ℤ offset) (top +ℤ offset) (level +ℤ offset) hi from spare (omega (arith, ints)) here whole (λ lt. left (omega (arith, ints))) in
    rw h t
tight_from lo top le (k ∷ ks) offset level from hi cells spare grows h low high under here end left =
    let run = h.0.run in
    let rest = h.0.rest in
    let cut = h.0.cut in
    let at = clamped lo top k.level in
    let between = is_clamped lo top k.level le in
    let rising = under k ks refl in
    let steep : AllByRecursion (Grows squared_rise) (run ++ rest) = rw cut at grows in
    let steep_run = all_front (Grows squared_rise) run rest steep in
    let count = h.0.front.count in
    let some = h.0.front.some in
    let xs = places lo top (offset +ℤ span width_of run) rest ks in
    let spans = span-append width_of run rest in
    let finish : hi ≡ (top +ℤ offset) +ℤ span width_of (run ++ rest) = rw cut at end in
    let spare2 = left_over spare (rises width_of squared_rise (at +ℤ offset) run) in
    let nothing : at <ℤ top → spare2 ≡ 0 =
    λ lt.
    let free = left (omega (arith, ints)) in
    let lasts = higher width_of squared_rise run offset k.level at steep_run (between.not_lowered lt) h.0.front.best.lasts in
    rw free (nothing_left (rises width_of squared_rise (at +ℤ offset) run) lasts) in
    let behind = tight_from lo top le ks (offset +ℤ span width_of run) at ((at +ℤ offset) +ℤ span width_of run) hi rest spare2 (all_behind (Grows squared_rise) run rest steep) h.0.behind between.low between.high (next_under lo top k.level ks h.1) (omega (arith, ints)) (omega (arith, ints)) nothing in
    let packed_run = tight_run width_of squared_rise run rest xs (at +ℤ offset) ((at +ℤ offset) +ℤ span width_of run) hi spare refl behind in
    let none : lo <ℤ at → need squared_rise (run ++ rest) (packed width_of (at +ℤ offset) run ++ xs) ≡ 0 =
    λ lt. (let whole = no_need lo top le (k ∷ ks) offset k.level cells grows h lt (omega (arith, ints)) in rw (cut, take_at run rest k.cells count, drop_at run rest k.cells count) at whole) in
    let touching = tight_gap lo top level at from offset spare (need squared_rise (run ++ rest) (packed width_of (at +ℤ offset) run ++ xs)) low between.high rising here left none in
    rw (cut, take_at run rest k.cells count, drop_at run rest k.cells count) (tight_first width_of squared_rise run rest xs from (at +ℤ offset) hi spare (omega arith) (omega (arith, ints)) touching packed_run)

pub clusters_are_tight : (lo top hi : ℤ) (ks : List Cluster) (cells : List RowCell) → lo ≤ℤ top → AllByRecursion (Grows squared_rise) cells → AreClusters (pos 0) cells ks → hi ≡ top +ℤ span width_of cells → Tight width_of squared_rise lo hi 0 cells (places lo top (pos 0) cells ks)
clusters_are_tight lo top hi ks cells le grows h end =
    tight_from lo top le ks (pos 0) lo lo hi cells 0 grows h (omega (arith, ints)) le (λ k others e. (is_clamped lo top k.level le).low) (omega (arith, ints)) (omega (arith, ints)) (λ lt. refl)
