-- Spans that are parted at a level.
use Rattle.std.proofs.Common.{◌≡◌, ℕ, zero, suc, ◌+◌, ◌-◌, ◌*◌, ◌<◌, ◌≤◌, ℤ, pos, ◌+ℤ◌, ◌-ℤ◌, ◌≤ℤ◌, ◌<ℤ◌, List, [], ◌∷◌, ◌++◌, length, take, drop, set, arith, ap, ◌∙◌, refl, append_assoc}
use Rattle.std.proofs.lemmas.Int.{ints}
use Rattle.std.proofs.lemmas.List.{length-append, length-set, take_at}
use Rattle.fp_rows.specs.Lists.{set_here}
use Rattle.fp_rows.specs.Runs.{FirstsAtMostZero, LastsAtLeastZero, rises, span}
use Rattle.fp_rows.specs.RunsLaws.{rises-append, span-append}
use Rattle.fp_rows.specs.LeastDuals.{above}
use Rattle.fp_rows.specs.TightLaws.{above-is}
use Rattle.fp_absrow.specs.ConvexCells.{ConvexCell, width_of, rise_of}
use Rattle.fp_absrow.specs.Spans.{IsCut, IsBlock, ArePending, front_of, back_of, parts_of}
use Rattle.fp_absrow.specs.declared.span.Span.{Span}

firsts_front : (before : ℤ) (rs ss : List ℤ) → FirstsAtMostZero before (rs ++ ss) → FirstsAtMostZero before rs
firsts_front before [] ss h = tt
firsts_front before (r ∷ rs) ss h = (h.0, firsts_front (before +ℤ r) rs ss h.1)

lasts_behind : (after : ℤ) (rs ss : List ℤ) → LastsAtLeastZero after (rs ++ ss) → LastsAtLeastZero after ss
lasts_behind after [] ss h = h
lasts_behind after (r ∷ rs) ss h = lasts_behind after rs ss h.1

block_front : (lo top offset low high level : ℤ) (front behind : List ConvexCell) → IsBlock lo top offset low high (front ++ behind) → LastsAtLeastZero (pos 0) (rises width_of rise_of (level +ℤ offset) front) → IsBlock lo top offset low level front
block_front lo top offset low high level front behind h lasts =
    let at = (low -ℤ pos 1) +ℤ offset in
    let parts = rises-append width_of rise_of front behind at (at +ℤ span width_of front) refl in
    record {
      firsts = λ lt. firsts_front (pos 0) (rises width_of rise_of at front) (rises width_of rise_of (at +ℤ span width_of front) behind) (rw parts at (h.firsts lt));
      lasts = λ lt. lasts;
    }

block_behind : (lo top offset low high level : ℤ) (front behind : List ConvexCell) → IsBlock lo top offset low high (front ++ behind) → FirstsAtMostZero (pos 0) (rises width_of rise_of ((level +ℤ offset) +ℤ span width_of front) behind) → IsBlock lo top (offset +ℤ span width_of front) (level +ℤ pos 1) high behind
block_behind lo top offset low high level front behind h firsts =
    let next = offset +ℤ span width_of front in
    let parts = rises-append width_of rise_of front behind (high +ℤ offset) (high +ℤ next) (omega (arith, ints)) in
    let here : ((level +ℤ pos 1) -ℤ pos 1) +ℤ next ≡ (level +ℤ offset) +ℤ span width_of front = omega (arith, ints) in
    record {
      firsts = λ lt. rw here firsts;
      lasts = λ lt. lasts_behind (pos 0) (rises width_of rise_of (high +ℤ offset) front) (rises width_of rise_of (high +ℤ next) behind) (rw parts at (h.lasts lt));
    }

-- levels from a lower one on
pending_lower : (lo top from lower offset : ℤ) (cells : List ConvexCell) (ss : List Span) → lower ≤ℤ from → ArePending lo top from offset cells ss → ArePending lo top lower offset cells ss
pending_lower lo top from lower offset cells [] le h = h
pending_lower lo top from lower offset cells (s ∷ ss) le h = record {
  run = h.run;
  rest = h.rest;
  parts = h.parts;
  count = h.count;
  some = h.some;
  rising = (let r = h.rising in omega (arith, ints));
  ordered = h.ordered;
  ends = h.ends;
  block = h.block;
  behind = h.behind;
}

pending_behind : (lo top from offset level : ℤ) (behind rest : List ConvexCell) (s : Span) (ss : List Span) (n : ℕ) → length behind ≡ n → from ≤ℤ level → level <ℤ s.high → s.high ≤ℤ top → IsBlock lo top offset (level +ℤ pos 1) s.high behind → ArePending lo top s.high (offset +ℤ span width_of behind) rest ss → ArePending lo top from offset (behind ++ rest) (back_of s level n ++ ss)
unfolding back_of
pending_behind lo top from offset level [] rest s ss zero count le lt ends block h =
    let none : offset +ℤ span width_of [] ≡ offset = omega (arith, ints) in
    pending_lower lo top s.high from offset rest ss (omega (arith, ints)) (rw none at h)
pending_behind lo top from offset level (c ∷ cs) rest s ss zero count le lt ends block h = absurd (omega arith)
pending_behind lo top from offset level [] rest s ss (suc n) count le lt ends block h = absurd (omega arith)
pending_behind lo top from offset level (c ∷ cs) rest s ss (suc n) count le lt ends block h = record {
  run = c ∷ cs;
  rest = rest;
  parts = refl;
  count = count;
  some = omega arith;
  rising = omega (arith, ints);
  ordered = omega (arith, ints);
  ends = ends;
  block = block;
  behind = h;
}

pending_front : (lo top from offset level : ℤ) (front others : List ConvexCell) (s : Span) (ss : List Span) (n : ℕ) → length front ≡ n → from ≤ℤ s.low → s.low ≤ℤ level → level ≤ℤ top → IsBlock lo top offset s.low level front → ((f : ℤ) → f ≤ℤ level → ArePending lo top f (offset +ℤ span width_of front) others ss) → ArePending lo top from offset (front ++ others) (front_of s level n ++ ss)
unfolding front_of
pending_front lo top from offset level [] others s ss zero count le low ends block h =
    let none : offset +ℤ span width_of [] ≡ offset = omega (arith, ints) in
    rw none at (h from (omega (arith, ints)))
pending_front lo top from offset level (c ∷ cs) others s ss zero count le low ends block h = absurd (omega arith)
pending_front lo top from offset level [] others s ss (suc n) count le low ends block h = absurd (omega arith)
pending_front lo top from offset level (c ∷ cs) others s ss (suc n) count le low ends block h = record {
  run = c ∷ cs;
  rest = others;
  parts = refl;
  count = count;
  some = omega arith;
  rising = le;
  ordered = low;
  ends = ends;
  block = block;
  behind = h level (omega (arith, ints));
}

pub pending_parted : (lo top from offset level : ℤ) (cells : List ConvexCell) (s : Span) (ss : List Span) (cut : ℕ) → ArePending lo top from offset cells (s ∷ ss) → s.low ≤ℤ level → level <ℤ s.high → IsCut (take s.cells cells) (level +ℤ offset) cut → ArePending lo top from offset cells (parts_of s cut level ss)
pending_parted lo top from offset level cells s ss cut h low high cutting =
    let parts = h.parts in
    let slice : take s.cells cells ≡ h.run = rw parts (take_at h.run h.rest s.cells h.count) in
    let k : IsCut h.run (level +ℤ offset) cut = rw slice at cutting in
    let block : IsBlock lo top offset s.low s.high (k.front ++ k.behind) = rw k.parts at h.block in
    let all = length-append k.front k.behind in
    let sum = span-append width_of k.front k.behind in
    let count : length k.behind ≡ s.cells - cut = (let a = h.count in let b = k.count in let e = ap length k.parts in omega arith) in
    let ends = h.ends in
    let there : offset +ℤ span width_of h.run ≡ (offset +ℤ span width_of k.front) +ℤ span width_of k.behind = (let e = ap (span width_of) k.parts in omega (arith, ints)) in
    let others : ArePending lo top s.high ((offset +ℤ span width_of k.front) +ℤ span width_of k.behind) h.rest ss = rw there at h.behind in
    let tail : (f : ℤ) → f ≤ℤ level → ArePending lo top f (offset +ℤ span width_of k.front) (k.behind ++ h.rest) (back_of s level (s.cells - cut) ++ ss) =
    λ f le. pending_behind lo top f (offset +ℤ span width_of k.front) level k.behind h.rest s ss (s.cells - cut) count le high ends (block_behind lo top offset s.low s.high level k.front k.behind block k.firsts) others in
    let whole = pending_front lo top from offset level k.front (k.behind ++ h.rest) s (back_of s level (s.cells - cut) ++ ss) cut k.count h.rising low (omega (arith, ints)) (block_front lo top offset s.low s.high level k.front k.behind block k.lasts) tail in
    let same : cells ≡ k.front ++ (k.behind ++ h.rest) = parts ∙ ap (λ r. r ++ h.rest) k.parts ∙ append_assoc k.front k.behind h.rest in
    rw same whole

-- spans are no more than their cells
pub pending_count : (lo top from offset : ℤ) (cells : List ConvexCell) (ss : List Span) → ArePending lo top from offset cells ss → length ss ≤ length cells
pending_count lo top from offset cells [] h = omega arith
pending_count lo top from offset cells (s ∷ ss) h =
    let others = pending_count lo top s.high (offset +ℤ span width_of h.run) h.rest ss h.behind in
    let e = ap length h.parts in
    let f = length-append h.run h.rest in
    let some = h.some in
    let count = h.count in
    omega arith

-- ---- what is left to do
abbrev left_of : Span → ℕ
left_of s = 2 * above (s.high -ℤ s.low) + 1

abbrev pub to_do : List Span → ℕ
to_do [] = 0
to_do (s ∷ ss) = left_of s + to_do ss

behind_less : (s : Span) (level : ℤ) (ss : List Span) (n : ℕ) → to_do (back_of s level n ++ ss) ≤ (2 * above (s.high -ℤ (level +ℤ pos 1)) + 1) + to_do ss
unfolding back_of
behind_less s level ss zero = omega arith
behind_less s level ss (suc n) =
    let sum : to_do (back_of s level (suc n) ++ ss) ≡ (2 * above (s.high -ℤ (level +ℤ pos 1)) + 1) + to_do ss = refl in
    omega arith

parts_less : (s : Span) (level : ℤ) (ss : List Span) (n m : ℕ) → s.low ≤ℤ level → level <ℤ s.high → to_do (front_of s level m ++ (back_of s level n ++ ss)) < to_do (s ∷ ss)
unfolding front_of
parts_less s level ss n zero low high =
    let e = above-is (s.high -ℤ s.low) in
    let f = above-is (s.high -ℤ (level +ℤ pos 1)) in
    let g = behind_less s level ss n in
    let all : to_do (s ∷ ss) ≡ (2 * above (s.high -ℤ s.low) + 1) + to_do ss = refl in
    let sum : to_do (front_of s level zero ++ (back_of s level n ++ ss)) ≡ to_do (back_of s level n ++ ss) = refl in
    omega (arith, ints)
parts_less s level ss n (suc m) low high =
    let e = above-is (s.high -ℤ s.low) in
    let f = above-is (s.high -ℤ (level +ℤ pos 1)) in
    let k = above-is (level -ℤ s.low) in
    let g = behind_less s level ss n in
    let all : to_do (s ∷ ss) ≡ (2 * above (s.high -ℤ s.low) + 1) + to_do ss = refl in
    let sum : to_do (front_of s level (suc m) ++ (back_of s level n ++ ss)) ≡ (2 * above (level -ℤ s.low) + 1) + to_do (back_of s level n ++ ss) = refl in
    omega (arith, ints)

pub less_to_do : (s : Span) (cut : ℕ) (level : ℤ) (ss : List Span) → s.low ≤ℤ level → level <ℤ s.high → to_do (parts_of s cut level ss) < to_do (s ∷ ss)
less_to_do s cut level ss low high = parts_less s level ss (s.cells - cut) cut low high

-- ---- parts in the stack
front_is : (s : Span) (level : ℤ) (n : ℕ) → 0 < n → front_of s level n ≡ record { cells = n; low = s.low; high = level } ∷ []
unfolding front_of
front_is s level zero some = absurd (omega arith)
front_is s level (suc n) some = refl

back_is : (s : Span) (level : ℤ) (n : ℕ) → 0 < n → back_of s level n ≡ record { cells = n; low = level +ℤ pos 1; high = s.high } ∷ []
unfolding back_of
back_is s level zero some = absurd (omega arith)
back_is s level (suc n) some = refl

front_none : (s : Span) (level : ℤ) (n : ℕ) → n ≡ 0 → front_of s level n ≡ []
unfolding front_of
front_none s level zero none = refl
front_none s level (suc n) none = absurd (omega arith)

back_none : (s : Span) (level : ℤ) (n : ℕ) → n ≡ 0 → back_of s level n ≡ []
unfolding back_of
back_none s level zero none = refl
back_none s level (suc n) none = absurd (omega arith)

pub front_alone : (work : List Span) (first cut : ℕ) (level : ℤ) (s : Span) → first < length work → cut ≡ s.cells → 0 < s.cells → drop first (set work first (record { cells = cut; low = s.low; high = level })) ≡ parts_of s cut level (drop (first + 1) work)
front_alone work first cut level s lt all some =
    let front = front_is s level cut (omega arith) in
    let back = back_none s level (s.cells - cut) (omega arith) in
    rw (front, back) (set_here work first (record { cells = cut; low = s.low; high = level }) lt)

pub back_alone : (work : List Span) (first cut : ℕ) (level : ℤ) (s : Span) → first < length work → cut ≡ 0 → 0 < s.cells → drop first (set work first (record { cells = s.cells - cut; low = level +ℤ pos 1; high = s.high })) ≡ parts_of s cut level (drop (first + 1) work)
back_alone work first cut level s lt none some =
    let front = front_none s level cut none in
    let back = back_is s level (s.cells - cut) (omega arith) in
    rw (front, back) (set_here work first (record { cells = s.cells - cut; low = level +ℤ pos 1; high = s.high }) lt)

pub both_parts : (work : List Span) (first cut : ℕ) (level : ℤ) (s : Span) → first < length work → 0 < first → 0 < cut → cut < s.cells → drop (first - 1) (set (set work first (record { cells = s.cells - cut; low = level +ℤ pos 1; high = s.high })) (first - 1) (record { cells = cut; low = s.low; high = level })) ≡ parts_of s cut level (drop (first + 1) work)
both_parts work first cut level s lt room some more =
    let front = front_is s level cut some in
    let back = back_is s level (s.cells - cut) (omega arith) in
    let behind : Span = record { cells = s.cells - cut; low = level +ℤ pos 1; high = s.high } in
    let before : Span = record { cells = cut; low = s.low; high = level } in
    let count : length (set work first behind) ≡ length work = length-set work first behind in
    let one = set_here (set work first behind) (first - 1) before (omega arith) in
    let next : (first - 1) + 1 ≡ first = omega arith in
    let two = set_here work first behind lt in
    rw (front, back) (one ∙ ap (λ k. before ∷ drop k (set work first behind)) next ∙ ap (λ r. before ∷ r) two)
