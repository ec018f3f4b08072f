-- What the lines of a file tell of each number.
use Rattle.std.proofs.Common.{◌≡◌, ℕ, zero, suc, ◌+◌, ◌<◌, ◌≤◌, ◌==◌, Bool, true, false, if◌then◌else◌, List, [], ◌∷◌, length, drop, drop-cons, replicate, get_or, set, length-set, Some, refl, sym, ap, subst, ◌∙◌, arith}
use Rattle.std.specs.List.{count_by}
use Rattle.std.specs.Option.{option_map}
use Rattle.std.proofs.lemmas.List.{get_or_default, set_past, get_or-set_same, get_or-set_other, get_or-replicate, length-replicate}
use Rattle.std.proofs.lemmas.Bool.{eqb-true, eqb-false}
use Rattle.fp_base.specs.declared.ids.Point.{Point}
use Rattle.fp_place.specs.declared.seen.Seen.{Seen}
use Rattle.fp_place.specs.declared.seen.Seen.TheVariants.{Never, Once, Often}
use Rattle.fp_place.specs.DrawnLaws.{count_yes, count_no, find_yes, find_no}
use Rattle.fp_place.specs.Seen.{seen_again, noted, all_noted, Tells}

-- the loop over the lines
pub noted_start : {A : Type 0} (number : A → ℕ) (at : A → Point) (seen none : List Seen) (lines : List A) → seen ≡ none
    → all_noted number at seen (drop 0 lines) ≡ all_noted number at none lines
noted_start number at seen none lines e = ap (λ s. all_noted number at s lines) e

pub noted_more : {A : Type 0} (number : A → ℕ) (at : A → Point) (seen after : List Seen) (lines : List A) (i : ℕ) (d : A) (here : Point) → i < length lines
    → here ≡ at (get_or lines i d) → after ≡ noted seen (number (get_or lines i d)) here → all_noted number at after (drop (i + 1) lines) ≡ all_noted number at seen (drop i lines)
unfolding all_noted
noted_more number at seen after lines i d here below is e =
    ap (λ s. all_noted number at s (drop (i + 1) lines)) (e ∙ ap (noted seen (number (get_or lines i d))) is)
    ∙ ap (λ j. all_noted number at (noted seen (number (get_or lines i d)) (at (get_or lines i d))) (drop j lines)) (let next : i + 1 ≡ suc i = omega arith in next)
    ∙ ap (all_noted number at seen) (sym (drop-cons lines i d below))

pub noted_end : {A : Type 0} (number : A → ℕ) (at : A → Point) (seen : List Seen) (lines : List A) (i : ℕ) → length lines ≤ i
    → all_noted number at seen (drop i lines) ≡ seen
unfolding all_noted
noted_end number at seen lines i past = ap (all_noted number at seen) (drop_past lines i past)
  where
    drop_past : {A : Type 0} (lines : List A) (i : ℕ) → length lines ≤ i → drop i lines ≡ []
    drop_past [] zero past = refl
    drop_past [] (suc i) past = refl
    drop_past (x ∷ xs) zero past = absurd (omega (arith, past))
    drop_past (x ∷ xs) (suc i) past = drop_past xs i (omega (arith, past))

-- one slot alone
abbrev pub slot_after : {A : Type 0} → (A → Bool) → (A → Point) → Seen → List A → Seen
slot_after test at slot [] = slot
slot_after test at slot (line ∷ lines) = slot_after test at (if test line then seen_again slot (at line) else slot) lines

noted_at : (seen : List Seen) (number k : ℕ) (at : Point) → k < length seen
    → get_or (noted seen number at) k Never ≡ (if number == k then seen_again (get_or seen k Never) at else get_or seen k Never)
unfolding noted
noted_at seen number k at below = by (number == k) refl
  where
    by : (b : Bool) → (number == k) ≡ b → get_or (set seen number (seen_again (get_or seen number Never) at)) k Never ≡ (if b then seen_again (get_or seen k Never) at else get_or seen k Never)
    by true e =
        let same : number ≡ k = eqb-true number k e in
        ap (λ n. get_or (set seen n (seen_again (get_or seen n Never) at)) k Never) same ∙ get_or-set_same seen k (seen_again (get_or seen k Never) at) Never below
    by false e = get_or-set_other seen number k (seen_again (get_or seen number Never) at) Never (λ same. eqb-false number k e (sym same))

length-noted : (seen : List Seen) (number : ℕ) (at : Point) → length (noted seen number at) ≡ length seen
unfolding noted
length-noted seen number at = length-set seen number (seen_again (get_or seen number Never) at)

noted_slot : {A : Type 0} (number : A → ℕ) (at : A → Point) (lines : List A) (seen : List Seen) (k : ℕ) → k < length seen
    → get_or (all_noted number at seen lines) k Never ≡ slot_after (λ line. number line == k) at (get_or seen k Never) lines
unfolding all_noted
noted_slot number at [] seen k below = refl
noted_slot number at (line ∷ lines) seen k below =
    noted_slot number at lines (noted seen (number line) (at line)) k (omega (arith, below, length-noted seen (number line) (at line)))
    ∙ ap (λ slot. slot_after (λ line. number line == k) at slot lines) (noted_at seen (number line) k (at line) below)

-- several lines stay several
still_often : (b : Bool) → (if b then Often else Often) ≡ Often
still_often true = refl
still_often false = refl

often_stays : {A : Type 0} (test : A → Bool) (at : A → Point) (lines : List A) → slot_after test at Often lines ≡ Often
often_stays test at [] = refl
often_stays test at (line ∷ lines) = ap (λ slot. slot_after test at slot lines) (still_often (test line)) ∙ often_stays test at lines

-- after one line
abbrev pub TellsMore : {A : Type 0} → (A → Bool) → Point → List A → Seen → Type 0
TellsMore test place lines Never = ⊥
TellsMore test place lines (Once other) = (count_by test lines ≡ 0) × (other ≡ place)
TellsMore test place lines Often = 1 ≤ count_by test lines

more_later : {A : Type 0} (test : A → Bool) (place : Point) (line : A) (lines : List A) (slot : Seen) → test line ≡ false → TellsMore test place lines slot → TellsMore test place (line ∷ lines) slot
more_later test place line lines Never fails told = told
more_later test place line lines (Once other) fails told = (count_no test line lines fails ∙ told.0, told.1)
more_later test place line lines Often fails told = omega (arith, told, count_no test line lines fails)

more_told : {A : Type 0} (test : A → Bool) (at : A → Point) (place : Point) (lines : List A) → TellsMore test place lines (slot_after test at (Once place) lines)
more_told test at place [] = (refl, refl)
more_told test at place (line ∷ lines) = by (test line) refl (more_told test at place lines)
  where
    by : (b : Bool) → test line ≡ b → TellsMore test place lines (slot_after test at (Once place) lines)
        → TellsMore test place (line ∷ lines) (slot_after test at (if b then Often else Once place) lines)
    by true e rest = subst (TellsMore test place (line ∷ lines)) (sym (often_stays test at lines)) (omega (arith, count_yes test line lines e))
    by false e rest = more_later test place line lines (slot_after test at (Once place) lines) e rest

-- from none
told_first : {A : Type 0} (test : A → Bool) (at : A → Point) (line : A) (lines : List A) (slot : Seen) → test line ≡ true → TellsMore test (at line) lines slot → Tells test at (line ∷ lines) slot
told_first test at line lines Never passes told = absurd told
told_first test at line lines (Once other) passes told =
    (omega (arith, count_yes test line lines passes, told.0), ap (option_map at) (find_yes test line lines passes) ∙ ap Some (sym told.1))
told_first test at line lines Often passes told = omega (arith, told, count_yes test line lines passes)

told_later : {A : Type 0} (test : A → Bool) (at : A → Point) (line : A) (lines : List A) (slot : Seen) → test line ≡ false → Tells test at lines slot → Tells test at (line ∷ lines) slot
told_later test at line lines Never fails told = (count_no test line lines fails ∙ told.0, find_no test line lines fails ∙ told.1)
told_later test at line lines (Once other) fails told = (count_no test line lines fails ∙ told.0, ap (option_map at) (find_no test line lines fails) ∙ told.1)
told_later test at line lines Often fails told = omega (arith, told, count_no test line lines fails)

slot_told : {A : Type 0} (test : A → Bool) (at : A → Point) (lines : List A) → Tells test at lines (slot_after test at Never lines)
slot_told test at [] = (refl, refl)
slot_told test at (line ∷ lines) = by (test line) refl (slot_told test at lines)
  where
    by : (b : Bool) → test line ≡ b → Tells test at lines (slot_after test at Never lines)
        → Tells test at (line ∷ lines) (slot_after test at (if b then Once (at line) else Never) lines)
    by true e rest = told_first test at line lines (slot_after test at (Once (at line)) lines) e (more_told test at (at line) lines)
    by false e rest = told_later test at line lines (slot_after test at Never lines) e rest

-- each slot tells of its number
pub tells_all : {A : Type 0} (number : A → ℕ) (at : A → Point) (lines : List A) (seen : List Seen) (n k : ℕ) → seen ≡ all_noted number at (replicate n Never) lines → k < n
    → Tells (λ line. number line == k) at lines (get_or seen k Never)
tells_all number at lines seen n k are below =
    let slot_is : get_or seen k Never ≡ slot_after (λ line. number line == k) at Never lines =
    ap (λ s. get_or s k Never) are
    ∙ noted_slot number at lines (replicate n Never) k (omega (arith, below, length-replicate n Never))
    ∙ ap (λ slot. slot_after (λ line. number line == k) at slot lines) (get_or-replicate n k Never Never below) in
    subst (Tells (λ line. number line == k) at lines) (sym slot_is) (slot_told (λ line. number line == k) at lines)

pub length-all_noted : {A : Type 0} (number : A → ℕ) (at : A → Point) (lines : List A) (seen : List Seen) → length (all_noted number at seen lines) ≡ length seen
unfolding all_noted
length-all_noted number at [] seen = refl
length-all_noted number at (line ∷ lines) seen = length-all_noted number at lines (noted seen (number line) (at line)) ∙ length-noted seen (number line) (at line)

pub seen_many : {A : Type 0} (number : A → ℕ) (at : A → Point) (lines : List A) (seen : List Seen) (n : ℕ) → seen ≡ all_noted number at (replicate n Never) lines → length seen ≡ n
seen_many number at lines seen n are = ap length are ∙ length-all_noted number at lines (replicate n Never) ∙ length-replicate n Never

-- a line is noted in place, and one past the end nowhere
pub noted_here : (seen : List Seen) (number : ℕ) (at : Point) (slot again : Seen) → number < length seen → slot ≡ get_or seen number slot → again ≡ seen_again slot at
    → set seen number again ≡ noted seen number at
unfolding noted
noted_here seen number at slot again below is e =
    ap (set seen number) (e ∙ ap (λ s. seen_again s at) (is ∙ get_or_default seen number slot Never below))

pub noted_past : (seen : List Seen) (number : ℕ) (at : Point) → length seen ≤ number → seen ≡ noted seen number at
unfolding noted
noted_past seen number at past = sym (set_past seen number (seen_again (get_or seen number Never) at) past)

pub tells_read : {A : Type 0} (number : A → ℕ) (at : A → Point) (lines : List A) (seen : List Seen) (n k : ℕ) (slot : Seen) → seen ≡ all_noted number at (replicate n Never) lines → k < n
    → slot ≡ get_or seen k slot → Tells (λ line. number line == k) at lines slot
tells_read number at lines seen n k slot are below is =
    subst (Tells (λ line. number line == k) at lines) (sym (is ∙ get_or_default seen k slot Never (omega (arith, below, seen_many number at lines seen n are))))
    (tells_all number at lines seen n k are below)
