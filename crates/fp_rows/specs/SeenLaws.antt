-- Positions and duals that are looked at from the first cell to the last. Nothing here knows what kind of cell it is.
use Rattle.std.proofs.Common.{◌≡◌, ℕ, ◌+◌, ◌<◌, ◌≤◌, ℤ, pos, ◌+ℤ◌, ◌≤ℤ◌, ◌<ℤ◌, List, [], ◌∷◌, length, drop, get_or, arith, refl}
use Rattle.std.proofs.Math.Seq.{drop-length}
use Rattle.std.proofs.lemmas.Int.{ints}
use Rattle.fp_rows.specs.Rows.{FeasibleBy, ShownBy, FallsBy, AreDualsBy}
use Rattle.fp_rows.specs.Lists.{drop-at, drop-all}

-- the cells from i on are feasible from here exactly where all are feasible from the start
pub record IsFrom {Cell : Type 0} (width : Cell → ℤ) (cells : List Cell) (lo hi : ℤ) (xs : List ℤ) (i : ℕ) (from : ℤ) : Type 0 where
  pub on : FeasibleBy width from hi (drop i cells) (drop i xs) → FeasibleBy width lo hi cells xs
  pub back : FeasibleBy width lo hi cells xs → FeasibleBy width from hi (drop i cells) (drop i xs)

pub from_start : {Cell : Type 0} (width : Cell → ℤ) (cells : List Cell) (lo hi : ℤ) (xs : List ℤ) → IsFrom width cells lo hi xs 0 lo
from_start width cells lo hi xs = record { on = λ h. h; back = λ h. h }

pub too_early : {Cell : Type 0} (width : Cell → ℤ) (cells : List Cell) (lo hi : ℤ) (xs : List ℤ) (i : ℕ) (from : ℤ) (d : Cell) (e : ℤ) → i < length cells → length xs ≡ length cells → IsFrom width cells lo hi xs i from → get_or xs i e <ℤ from → FeasibleBy width lo hi cells xs → ⊥
too_early width cells lo hi xs i from d e lt same h early f =
    let cut = drop-at cells i d lt in
    let cut2 = drop-at xs i e (omega arith) in
    let there = rw (cut, cut2) at (h.back f) in
    absurd (omega (arith, ints, there.0))

pub from_next : {Cell : Type 0} (width : Cell → ℤ) (cells : List Cell) (lo hi : ℤ) (xs : List ℤ) (i : ℕ) (from : ℤ) (d : Cell) (e : ℤ) → i < length cells → length xs ≡ length cells → IsFrom width cells lo hi xs i from → from ≤ℤ get_or xs i e → IsFrom width cells lo hi xs (i + 1) (get_or xs i e +ℤ width (get_or cells i d))
from_next width cells lo hi xs i from d e lt same h late =
    let cut = drop-at cells i d lt in
    let cut2 = drop-at xs i e (omega arith) in
    let on = rw (cut, cut2) at h.on in
    let back = rw (cut, cut2) at h.back in
    record { on = λ f. on (late, f); back = λ f. (back f).1 }

pub from_end : {Cell : Type 0} (width : Cell → ℤ) (cells : List Cell) (lo hi : ℤ) (xs : List ℤ) (i : ℕ) (from : ℤ) → length cells ≤ i → i ≤ length cells → length xs ≡ length cells → IsFrom width cells lo hi xs i from → (from ≤ℤ hi → FeasibleBy width lo hi cells xs) × (FeasibleBy width lo hi cells xs → from ≤ℤ hi)
from_end width cells lo hi xs i from l g same h =
    let cut : drop i cells ≡ [] = drop-all cells cells i refl l g in
    let cut2 : drop i xs ≡ [] = drop-all xs cells i same l g in
    let on = rw (cut, cut2) at h.on in
    let back = rw (cut, cut2) at h.back in
    (on, back)

-- ---- duals
-- `ShownBy`, with the first dual in the list
abbrev pub AreShown : {Cell : Type 0} → (Cell → ℤ) → (Cell → ℤ → ℤ) → ℤ → ℤ → List Cell → List ℤ → List ℕ → Type 0
AreShown width rise from to cells xs [] = ⊥
AreShown width rise from to cells xs (dual ∷ duals) = ShownBy width rise from to cells xs dual duals

-- the duals from the one at i on show the cells from i on exactly where all are shown
pub record IsShownFrom {Cell : Type 0} (width : Cell → ℤ) (rise : Cell → ℤ → ℤ) (cells : List Cell) (lo hi : ℤ) (xs : List ℤ) (duals : List ℕ) (i : ℕ) (from : ℤ) : Type 0 where
  pub on : AreShown width rise from hi (drop i cells) (drop i xs) (drop i duals) → AreShown width rise lo hi cells xs duals
  pub back : AreShown width rise lo hi cells xs duals → AreShown width rise from hi (drop i cells) (drop i xs) (drop i duals)

-- what there is to see at i
pub record Sight {Cell : Type 0} (width : Cell → ℤ) (rise : Cell → ℤ → ℤ) (cells : List Cell) (hi : ℤ) (xs : List ℤ) (duals : List ℕ) (i : ℕ) (from : ℤ) (c : Cell) (x : ℤ) (before after : ℕ) (all : Type 0) : Type 0 where
  pub on : (0 < before → from ≡ x) → FallsBy rise c x before after → AreShown width rise (x +ℤ width c) hi (drop (i + 1) cells) (drop (i + 1) xs) (drop (i + 1) duals) → all
  pub touching : all → 0 < before → from ≡ x
  pub falling : all → FallsBy rise c x before after
  pub back : all → AreShown width rise (x +ℤ width c) hi (drop (i + 1) cells) (drop (i + 1) xs) (drop (i + 1) duals)

pub sight : {Cell : Type 0} (width : Cell → ℤ) (rise : Cell → ℤ → ℤ) (cells : List Cell) (lo hi : ℤ) (xs : List ℤ) (duals : List ℕ) (i : ℕ) (from : ℤ) (d : Cell) → i < length cells → length xs ≡ length cells → length duals ≡ length cells + 1 → IsShownFrom width rise cells lo hi xs duals i from → Sight width rise cells hi xs duals i from (get_or cells i d) (get_or xs i (pos 0)) (get_or duals i 0) (get_or duals (i + 1) 0) (AreShown width rise lo hi cells xs duals)
sight width rise cells lo hi xs duals i from d lt same more h =
    let cut = drop-at cells i d lt in
    let cut2 = drop-at xs i (pos 0) (omega arith) in
    let cut3 = drop-at duals i 0 (omega arith) in
    let cut4 = drop-at duals (i + 1) 0 (omega arith) in
    let on = rw (cut, cut2, cut3, cut4) at h.on in
    let back = rw (cut, cut2, cut3, cut4) at h.back in
    record {
      on = rw cut4 (λ a b rest. on (a, b, rest));
      touching = λ all. (back all).0;
      falling = λ all. (back all).1;
      back = rw cut4 (λ all. (back all).2);
    }

pub shown_next : {Cell : Type 0} (width : Cell → ℤ) (rise : Cell → ℤ → ℤ) (cells : List Cell) (lo hi : ℤ) (xs : List ℤ) (duals : List ℕ) (i : ℕ) (from : ℤ) (d : Cell) → i < length cells → length xs ≡ length cells → length duals ≡ length cells + 1 → IsShownFrom width rise cells lo hi xs duals i from → (0 < get_or duals i 0 → from ≡ get_or xs i (pos 0)) → FallsBy rise (get_or cells i d) (get_or xs i (pos 0)) (get_or duals i 0) (get_or duals (i + 1) 0) → IsShownFrom width rise cells lo hi xs duals (i + 1) (get_or xs i (pos 0) +ℤ width (get_or cells i d))
shown_next width rise cells lo hi xs duals i from d lt same more h touching falling =
    let s = sight width rise cells lo hi xs duals i from d lt same more h in
    record { on = s.on touching falling; back = s.back }

pub shown_end : {Cell : Type 0} (width : Cell → ℤ) (rise : Cell → ℤ → ℤ) (cells : List Cell) (lo hi : ℤ) (xs : List ℤ) (duals : List ℕ) (i : ℕ) (from : ℤ) → length cells ≤ i → i ≤ length cells → length xs ≡ length cells → length duals ≡ length cells + 1 → IsShownFrom width rise cells lo hi xs duals i from → ((0 < get_or duals (length cells) 0 → from ≡ hi) → AreShown width rise lo hi cells xs duals) × (AreShown width rise lo hi cells xs duals → 0 < get_or duals (length cells) 0 → from ≡ hi)
shown_end width rise cells lo hi xs duals i from l g same more h =
    let here : i ≡ length cells = omega arith in
    let cut : drop (length cells) cells ≡ [] = drop-all cells cells (length cells) refl (omega arith) (omega arith) in
    let cut2 : drop (length cells) xs ≡ [] = drop-all xs cells (length cells) same (omega arith) (omega arith) in
    let cut3 = drop-at duals (length cells) 0 (omega arith) in
    let cut4 : drop (length cells + 1) duals ≡ [] = (let all : length cells + 1 ≡ length duals = omega arith in rw all (drop-length duals)) in
    let on = rw (here, cut, cut2, cut3, cut4) at h.on in
    let back = rw (here, cut, cut2, cut3, cut4) at h.back in
    (on, back)

-- of a row with cells, `AreShown` is `AreDualsBy`; of one without, the one dual is 0
pub shown_are_duals : {Cell : Type 0} (width : Cell → ℤ) (rise : Cell → ℤ → ℤ) (cells : List Cell) (lo hi : ℤ) (xs : List ℤ) (duals : List ℕ) → 0 < length cells → (AreShown width rise lo hi cells xs duals → AreDualsBy width rise lo hi cells xs duals) × (AreDualsBy width rise lo hi cells xs duals → AreShown width rise lo hi cells xs duals)
shown_are_duals width rise [] lo hi xs duals some = absurd (omega arith)
shown_are_duals width rise (c ∷ cs) lo hi xs [] some = (λ h. h, λ h. h)
shown_are_duals width rise (c ∷ cs) lo hi xs (d ∷ ds) some = (λ h. h, λ h. h)

pub one_dual : {Cell : Type 0} (width : Cell → ℤ) (rise : Cell → ℤ → ℤ) (cells : List Cell) (lo hi : ℤ) (xs : List ℤ) (duals : List ℕ) → length cells ≡ 0 → length xs ≡ length cells → length duals ≡ length cells + 1 → (get_or duals 0 0 ≡ 0 → AreDualsBy width rise lo hi cells xs duals) × (AreDualsBy width rise lo hi cells xs duals → get_or duals 0 0 ≡ 0)
one_dual width rise [] lo hi [] (d ∷ []) none same more = (λ h. (refl, h, refl), λ h. h.1)
one_dual width rise [] lo hi [] [] none same more = absurd (omega arith)
one_dual width rise [] lo hi [] (d ∷ e ∷ ds) none same more = absurd (omega arith)
one_dual width rise [] lo hi (x ∷ xs) duals none same more = absurd (omega arith)
one_dual width rise (c ∷ cs) lo hi xs duals none same more = absurd (omega arith)
