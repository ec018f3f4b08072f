-- Two neighbouring runs, of which the first stands too far to the right, make one run.
use Rattle.std.proofs.Common.{◌≡◌, ◌⊎◌, inl, inr, ℤ, pos, ◌+ℤ◌, ◌-ℤ◌, ◌≤ℤ◌, ◌<ℤ◌, List, [], ◌∷◌, ◌++◌, arith, ap, ◌∙◌}
use Rattle.std.proofs.lemmas.Int.{ints, by_lt_z}
use Rattle.std.specs.List.{AllByRecursion}
use Rattle.fp_rows.specs.Runs.{total, FirstsAtMostZero, LastsAtLeastZero, rises, Grows, span}
use Rattle.fp_rows.specs.SumsLaws.{Below, total-append, total-below, firsts_below, lasts_above, firsts-append, lasts-append, lasts_total, firsts_total, firsts_from_lasts, lasts_from_firsts, same_below}
use Rattle.fp_rows.specs.RunsLaws.{rises-append}
use Rattle.fp_abacus.specs.Clusters.{IsRunAt}

pub rises_below : {Cell : Type 0} (width : Cell → ℤ) (rise : Cell → ℤ → ℤ) (run : List Cell) (x y : ℤ) → AllByRecursion (Grows rise) run → x ≤ℤ y → Below (rises width rise x run) (rises width rise y run)
rises_below width rise [] x y h le = tt
rises_below width rise (c ∷ cs) x y h le = (h.0 x y le, rises_below width rise cs (x +ℤ width c) (y +ℤ width c) h.1 (omega (arith, ints)))

joined_firsts : (rs ss : List ℤ) → FirstsAtMostZero (pos 0) rs → (total rs +ℤ total ss) ≤ℤ pos 0 → LastsAtLeastZero (pos 0) ss ⊎ FirstsAtMostZero (pos 0) ss → FirstsAtMostZero (pos 0) (rs ++ ss)
joined_firsts rs ss f whole (inl g) = firsts-append (pos 0) rs ss f (firsts_from_lasts (pos 0 +ℤ total rs) ss (omega (arith, ints)) g)
joined_firsts rs ss f whole (inr g) =
    let t = firsts_total (pos 0) rs (omega (arith, ints)) f in
    firsts-append (pos 0) rs ss f (firsts_below (pos 0 +ℤ total rs) (pos 0) ss ss t (same_below ss) g)

joined_lasts : (rs ss : List ℤ) → LastsAtLeastZero (pos 0) ss → pos 0 ≤ℤ (total rs +ℤ total ss) → FirstsAtMostZero (pos 0) rs ⊎ LastsAtLeastZero (pos 0) rs → LastsAtLeastZero (pos 0) (rs ++ ss)
joined_lasts rs ss g whole (inl f) = lasts-append (pos 0) rs ss (lasts_from_firsts (pos 0) (total ss +ℤ pos 0) rs (omega (arith, ints)) (omega (arith, ints)) f) g
joined_lasts rs ss g whole (inr f) =
    let t = lasts_total ss g in
    lasts-append (pos 0) rs ss (lasts_above (pos 0) (total ss +ℤ pos 0) rs rs (omega (arith, ints)) (same_below rs) f) g

record IsBetween {Cell : Type 0} (width : Cell → ℤ) (rise : Cell → ℤ → ℤ) (offset : ℤ) (run others : List Cell) (first second level : ℤ) : Type 0 where
  pub at_least : second ≤ℤ level
  pub at_most : level ≤ℤ first
  pub below : (total (rises width rise ((level -ℤ pos 1) +ℤ offset) run) +ℤ total (rises width rise ((level -ℤ pos 1) +ℤ (offset +ℤ span width run)) others)) <ℤ pos 0
  pub reached : pos 0 ≤ℤ (total (rises width rise (level +ℤ offset) run) +ℤ total (rises width rise (level +ℤ (offset +ℤ span width run)) others))

both : {Cell : Type 0} (width : Cell → ℤ) (rise : Cell → ℤ → ℤ) (offset : ℤ) (run others : List Cell) (level : ℤ) → rises width rise (level +ℤ offset) (run ++ others) ≡ rises width rise (level +ℤ offset) run ++ rises width rise (level +ℤ (offset +ℤ span width run)) others
both width rise offset run others level = rises-append width rise run others (level +ℤ offset) (level +ℤ (offset +ℤ span width run)) (omega (arith, ints))

pub both_total : {Cell : Type 0} (width : Cell → ℤ) (rise : Cell → ℤ → ℤ) (offset : ℤ) (run others : List Cell) (level : ℤ) → total (rises width rise (level +ℤ offset) (run ++ others)) ≡ total (rises width rise (level +ℤ offset) run) +ℤ total (rises width rise (level +ℤ (offset +ℤ span width run)) others)
both_total width rise offset run others level = ap total (both width rise offset run others level) ∙ total-append (rises width rise (level +ℤ offset) run) (rises width rise (level +ℤ (offset +ℤ span width run)) others)

steeper : {Cell : Type 0} (width : Cell → ℤ) (rise : Cell → ℤ → ℤ) (run : List Cell) (offset x y : ℤ) → AllByRecursion (Grows rise) run → x ≤ℤ y → Below (rises width rise (x +ℤ offset) run) (rises width rise (y +ℤ offset) run)
steeper width rise run offset x y grows le = rises_below width rise run (x +ℤ offset) (y +ℤ offset) grows (omega (arith, ints))

pub fewer : {Cell : Type 0} (width : Cell → ℤ) (rise : Cell → ℤ → ℤ) (run : List Cell) (offset x y : ℤ) → AllByRecursion (Grows rise) run → x ≤ℤ y → total (rises width rise (x +ℤ offset) run) ≤ℤ total (rises width rise (y +ℤ offset) run)
fewer width rise run offset x y grows le = total-below (rises width rise (x +ℤ offset) run) (rises width rise (y +ℤ offset) run) (steeper width rise run offset x y grows le)

pub lower : {Cell : Type 0} (width : Cell → ℤ) (rise : Cell → ℤ → ℤ) (run : List Cell) (offset x y : ℤ) → AllByRecursion (Grows rise) run → x ≤ℤ y → FirstsAtMostZero (pos 0) (rises width rise (y +ℤ offset) run) → FirstsAtMostZero (pos 0) (rises width rise (x +ℤ offset) run)
lower width rise run offset x y grows le = firsts_below (pos 0) (pos 0) (rises width rise (x +ℤ offset) run) (rises width rise (y +ℤ offset) run) (omega (arith, ints)) (steeper width rise run offset x y grows le)

pub higher : {Cell : Type 0} (width : Cell → ℤ) (rise : Cell → ℤ → ℤ) (run : List Cell) (offset x y : ℤ) → AllByRecursion (Grows rise) run → x ≤ℤ y → LastsAtLeastZero (pos 0) (rises width rise (x +ℤ offset) run) → LastsAtLeastZero (pos 0) (rises width rise (y +ℤ offset) run)
higher width rise run offset x y grows le = lasts_above (pos 0) (pos 0) (rises width rise (x +ℤ offset) run) (rises width rise (y +ℤ offset) run) (omega (arith, ints)) (steeper width rise run offset x y grows le)

between : {Cell : Type 0} (width : Cell → ℤ) (rise : Cell → ℤ → ℤ) (offset : ℤ) (run others : List Cell) (first second level : ℤ) → AllByRecursion (Grows rise) run → AllByRecursion (Grows rise) others → IsRunAt width rise offset run first → IsRunAt width rise (offset +ℤ span width run) others second → second <ℤ first → total (rises width rise ((level -ℤ pos 1) +ℤ offset) (run ++ others)) <ℤ pos 0 → pos 0 ≤ℤ total (rises width rise (level +ℤ offset) (run ++ others)) → IsBetween width rise offset run others first second level
between width rise offset run others first second level gr go a b apart below reached =
    let low = both_total width rise offset run others (level -ℤ pos 1) in
    let high = both_total width rise offset run others level in
    let offset2 = offset +ℤ span width run in
    record {
      at_least = by_lt_z level second
          (λ lt.
          let left = fewer width rise run offset level (first -ℤ pos 1) gr (omega (arith, ints)) in
          let right = fewer width rise others offset2 level (second -ℤ pos 1) go (omega (arith, ints)) in
          absurd (omega (arith, ints, a.below, b.below)))
          (λ le. le);
      at_most = by_lt_z first level
          (λ lt.
          let left = fewer width rise run offset first (level -ℤ pos 1) gr (omega (arith, ints)) in
          let right = fewer width rise others offset2 second (level -ℤ pos 1) go (omega (arith, ints)) in
          absurd (omega (arith, ints, a.reached, b.reached)))
          (λ le. le);
      below = omega (arith, ints);
      reached = omega (arith, ints);
    }

pub joined : {Cell : Type 0} (width : Cell → ℤ) (rise : Cell → ℤ → ℤ) (offset : ℤ) (run others : List Cell) (first second level : ℤ) → AllByRecursion (Grows rise) run → AllByRecursion (Grows rise) others → IsRunAt width rise offset run first → IsRunAt width rise (offset +ℤ span width run) others second → second <ℤ first → total (rises width rise ((level -ℤ pos 1) +ℤ offset) (run ++ others)) <ℤ pos 0 → pos 0 ≤ℤ total (rises width rise (level +ℤ offset) (run ++ others)) → IsRunAt width rise offset (run ++ others) level
joined width rise offset run others first second level gr go a b apart below reached =
    let h = between width rise offset run others first second level gr go a b apart below reached in
    let offset2 = offset +ℤ span width run in
    let rs = rises width rise ((level -ℤ pos 1) +ℤ offset) run in
    let ss = rises width rise ((level -ℤ pos 1) +ℤ offset2) others in
    let us = rises width rise (level +ℤ offset) run in
    let ts = rises width rise (level +ℤ offset2) others in
    let before : FirstsAtMostZero (pos 0) rs = lower width rise run offset (level -ℤ pos 1) (first -ℤ pos 1) gr (omega (arith, ints, h.at_most)) a.firsts in
    let behind : LastsAtLeastZero (pos 0) ts = higher width rise others offset2 second level go h.at_least b.lasts in
    let second_part : LastsAtLeastZero (pos 0) ss ⊎ FirstsAtMostZero (pos 0) ss = by_lt_z second level
    (λ lt. inl (higher width rise others offset2 second (level -ℤ pos 1) go (omega (arith, ints)) b.lasts))
    (λ le. inr (lower width rise others offset2 (level -ℤ pos 1) (second -ℤ pos 1) go (omega (arith, ints)) b.firsts)) in
    let first_part : FirstsAtMostZero (pos 0) us ⊎ LastsAtLeastZero (pos 0) us = by_lt_z level first
    (λ lt. inl (lower width rise run offset level (first -ℤ pos 1) gr (omega (arith, ints)) a.firsts))
    (λ le. inr (higher width rise run offset first level gr le a.lasts)) in
    record {
      firsts = rw (both width rise offset run others (level -ℤ pos 1)) (joined_firsts rs ss before (omega (arith, ints, h.below)) second_part);
      lasts = rw (both width rise offset run others level) (joined_lasts us ts behind h.reached first_part);
      below = below;
      reached = reached;
    }
