-- Sums of the first and of the last few of a list's numbers.
use Rattle.std.proofs.Common.{◌≡◌, ℤ, pos, ◌+ℤ◌, ◌≤ℤ◌, List, [], ◌∷◌, ◌++◌, arith}
use Rattle.std.proofs.lemmas.Int.{ints}
use Rattle.fp_rows.specs.Runs.{total, FirstsAtMostZero, LastsAtLeastZero}

-- each number is at most the other's
abbrev pub Below : List ℤ → List ℤ → Type 0
Below [] [] = Unit {0}
Below [] (s ∷ ss) = ⊥
Below (r ∷ rs) [] = ⊥
Below (r ∷ rs) (s ∷ ss) = (r ≤ℤ s) × Below rs ss

pub same_below : (rs : List ℤ) → Below rs rs
same_below [] = tt
same_below (r ∷ rs) = (omega (arith, ints), same_below rs)

pub total-append : (rs ss : List ℤ) → total (rs ++ ss) ≡ total rs +ℤ total ss
total-append [] ss = omega (arith, ints)
total-append (r ∷ rs) ss =
    let e = total-append rs ss in
    omega (arith, ints)

pub total-below : (rs ss : List ℤ) → Below rs ss → total rs ≤ℤ total ss
total-below [] [] h = omega (arith, ints)
total-below [] (s ∷ ss) h = absurd h
total-below (r ∷ rs) [] h = absurd h
total-below (r ∷ rs) (s ∷ ss) h =
    let e = total-below rs ss h.1 in
    omega (arith, ints, h.0)

pub firsts_below : (before before2 : ℤ) (rs ss : List ℤ) → before ≤ℤ before2 → Below rs ss → FirstsAtMostZero before2 ss → FirstsAtMostZero before rs
firsts_below before before2 [] [] le h f = tt
firsts_below before before2 [] (s ∷ ss) le h f = absurd h
firsts_below before before2 (r ∷ rs) [] le h f = absurd h
firsts_below before before2 (r ∷ rs) (s ∷ ss) le h f =
    (omega (arith, ints, h.0, f.0), firsts_below (before +ℤ r) (before2 +ℤ s) rs ss (omega (arith, ints, h.0)) h.1 f.1)

pub lasts_above : (after after2 : ℤ) (rs ss : List ℤ) → after ≤ℤ after2 → Below rs ss → LastsAtLeastZero after rs → LastsAtLeastZero after2 ss
lasts_above after after2 [] [] le h f = tt
lasts_above after after2 [] (s ∷ ss) le h f = absurd h
lasts_above after after2 (r ∷ rs) [] le h f = absurd h
lasts_above after after2 (r ∷ rs) (s ∷ ss) le h f =
    let e = total-below rs ss h.1 in
    (omega (arith, ints, h.0, f.0), lasts_above after after2 rs ss le h.1 f.1)

pub firsts-append : (before : ℤ) (rs ss : List ℤ) → FirstsAtMostZero before rs → FirstsAtMostZero (before +ℤ total rs) ss → FirstsAtMostZero before (rs ++ ss)
firsts-append before [] ss f g = firsts_below before (before +ℤ pos 0) ss ss (omega (arith, ints)) (same_below ss) g
firsts-append before (r ∷ rs) ss f g = (f.0, firsts-append (before +ℤ r) rs ss f.1 (firsts_below ((before +ℤ r) +ℤ total rs) (before +ℤ (r +ℤ total rs)) ss ss (omega (arith, ints)) (same_below ss) g))

pub lasts-append : (after : ℤ) (rs ss : List ℤ) → LastsAtLeastZero (total ss +ℤ after) rs → LastsAtLeastZero after ss → LastsAtLeastZero after (rs ++ ss)
lasts-append after [] ss f g = g
lasts-append after (r ∷ rs) ss f g =
    let e = total-append rs ss in
    (omega (arith, ints, f.0), lasts-append after rs ss f.1 g)

pub lasts_total : (rs : List ℤ) → LastsAtLeastZero (pos 0) rs → pos 0 ≤ℤ total rs
lasts_total [] f = omega (arith, ints)
lasts_total (r ∷ rs) f = omega (arith, ints, f.0)

pub firsts_total : (before : ℤ) (rs : List ℤ) → before ≤ℤ pos 0 → FirstsAtMostZero before rs → (before +ℤ total rs) ≤ℤ pos 0
firsts_total before [] le f = omega (arith, ints)
firsts_total before (r ∷ rs) le f =
    let e = firsts_total (before +ℤ r) rs f.0 f.1 in
    omega (arith, ints)

-- where the whole is at most 0 and the last few are at least 0, the first few are at most 0
pub firsts_from_lasts : (before : ℤ) (rs : List ℤ) → (before +ℤ total rs) ≤ℤ pos 0 → LastsAtLeastZero (pos 0) rs → FirstsAtMostZero before rs
firsts_from_lasts before [] le f = tt
firsts_from_lasts before (r ∷ rs) le f =
    let others = lasts_total rs f.1 in
    (omega (arith, ints), firsts_from_lasts (before +ℤ r) rs (omega (arith, ints)) f.1)

-- where the whole is at least 0 and the first few are at most 0, the last few are at least 0
pub lasts_from_firsts : (before after : ℤ) (rs : List ℤ) → before ≤ℤ pos 0 → pos 0 ≤ℤ ((before +ℤ total rs) +ℤ after) → FirstsAtMostZero before rs → LastsAtLeastZero after rs
lasts_from_firsts before after [] le whole f = tt
lasts_from_firsts before after (r ∷ rs) le whole f =
    (omega (arith, ints), lasts_from_firsts (before +ℤ r) after rs f.0 (omega (arith, ints)) f.1)
