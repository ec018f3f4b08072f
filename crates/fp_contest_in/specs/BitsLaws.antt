-- Which of the nine sections and the cost were read, as a list of bits.
use Rattle.std.proofs.Common.{◌≡◌, ℕ, zero, suc, ◌+◌, ◌<◌, ◌≤◌, Bool, true, false, cond, eqb, List, [], ◌∷◌, ◌++◌, length, refl, sym, ap, ◌∙◌, arith, inl, inr}
use Rattle.std.specs.Prelude.{is_some}
use Rattle.std.proofs.lemmas.Bool.{ne_eqb, eq-eqb, cases_eq, and_parts, and_from}
use Rattle.fp_base.specs.declared.ids.Die.TheVariants.{Top, Bottom}
use Rattle.fp_contest_in.specs.declared.section.Section.{Section}
use Rattle.fp_contest_in.specs.declared.section.Section.TheVariants.{DieSize, MaxUtil, Rows, Tech, TerminalSize, TerminalSpacing, TerminalCost}
use Rattle.fp_contest_in.specs.declared.section.DieFound.{DieFound}
use Rattle.fp_contest_in.specs.declared.section.Found.{Found}
use Rattle.fp_contest_in.specs.Grammar.{section_number, is_in, is_needed}
use Rattle.fp_contest_in.specs.Statements.{bits, has_section, has_nine_die, has_nine, count_true, found_count}

abbrev pub bit_at : List Bool → ℕ → Bool
bit_at [] k = false
bit_at (b ∷ bs) zero = b
bit_at (b ∷ bs) (suc k) = bit_at bs k

-- with one bit set
abbrev pub with_bit : List Bool → ℕ → List Bool
with_bit [] k = []
with_bit (b ∷ bs) zero = true ∷ bs
with_bit (b ∷ bs) (suc k) = b ∷ with_bit bs k

eqb-suc : (a b : ℕ) → eqb (suc a) (suc b) ≡ eqb a b
eqb-suc a b = elim (cases_eq a b) [
  | inl same ↦ eq-eqb (suc a) (suc b) (ap suc same) ∙ sym (eq-eqb a b same)
  | inr other ↦ ne_eqb (suc a) (suc b) (λ e. other (omega (arith, e))) ∙ sym (ne_eqb a b other)
]

pub bit_at-with_bit : (bs : List Bool) (k j : ℕ) → k < length bs → bit_at (with_bit bs k) j ≡ cond (eqb k j) true (bit_at bs j)
bit_at-with_bit [] k j lt = absurd (omega arith)
bit_at-with_bit (b ∷ bs) zero zero lt = refl
bit_at-with_bit (b ∷ bs) zero (suc j) lt = rw (ne_eqb 0 (suc j) (λ e. absurd (omega (arith, e)))) refl
bit_at-with_bit (b ∷ bs) (suc k) zero lt = rw (ne_eqb (suc k) 0 (λ e. absurd (omega (arith, e)))) refl
bit_at-with_bit (b ∷ bs) (suc k) (suc j) lt = rw (eqb-suc k j) (bit_at-with_bit bs k j (omega arith))

pub count_true-with_bit : (bs : List Bool) (k : ℕ) → k < length bs → bit_at bs k ≡ false → count_true (with_bit bs k) ≡ count_true bs + 1
unfolding count_true
count_true-with_bit [] k lt e = absurd (omega arith)
count_true-with_bit (true ∷ bs) zero lt e = absurd cc
count_true-with_bit (false ∷ bs) zero lt e = omega arith
count_true-with_bit (b ∷ bs) (suc k) lt e = omega (arith, count_true-with_bit bs k (omega arith) e)

pub count_true-length : (bs : List Bool) → count_true bs ≤ length bs
unfolding count_true
count_true-length [] = omega arith
count_true-length (true ∷ bs) = omega (arith, count_true-length bs)
count_true-length (false ∷ bs) = omega (arith, count_true-length bs)

pub all_set : (bs : List Bool) (k : ℕ) → count_true bs ≡ length bs → k < length bs → bit_at bs k ≡ true
unfolding count_true
all_set [] k e lt = absurd (omega arith)
all_set (true ∷ bs) zero e lt = refl
all_set (false ∷ bs) k e lt = absurd (omega (arith, count_true-length bs))
all_set (true ∷ bs) (suc k) e lt = all_set bs k (omega arith) (omega arith)

-- a section was read where its bit is set
pub has_bit : (found : Found) (section : Section) → has_section found section ≡ bit_at (bits found) (section_number section)
has_bit found DieSize = refl
has_bit found (MaxUtil Top) = refl
has_bit found (MaxUtil Bottom) = refl
has_bit found (Rows Top) = refl
has_bit found (Rows Bottom) = refl
has_bit found (Tech Top) = refl
has_bit found (Tech Bottom) = refl
has_bit found TerminalSize = refl
has_bit found TerminalSpacing = refl
has_bit found TerminalCost = refl

pub number_small : (found : Found) (section : Section) → section_number section < length (bits found)
number_small found DieSize = omega arith
number_small found (MaxUtil Top) = omega arith
number_small found (MaxUtil Bottom) = omega arith
number_small found (Rows Top) = omega arith
number_small found (Rows Bottom) = omega arith
number_small found (Tech Top) = omega arith
number_small found (Tech Bottom) = omega arith
number_small found TerminalSize = omega arith
number_small found TerminalSpacing = omega arith
number_small found TerminalCost = omega arith

-- ---- the nine

-- the nine were read: each section that every input has
abbrev pub HasNeeded : Found → Type 0
HasNeeded found = (section : Section) → is_needed section ≡ true → has_section found section ≡ true

-- the three sections of a die were read
record DieRead (die : DieFound) : Type 0 where
  percent : is_some die.percent ≡ true
  rows : is_some die.rows ≡ true
  tech : is_some die.tech ≡ true

die_read : (die : DieFound) → has_nine_die die ≡ true → DieRead die
die_read die e =
    let a = and_parts (is_some die.percent) _ e in
    let b = and_parts (is_some die.rows) _ a.1 in
    record { percent = a.0; rows = b.0; tech = b.1 }

pub nine_has : (found : Found) → has_nine found ≡ true → HasNeeded found
nine_has found e section needed =
    let a = and_parts (is_some found.frame) _ e in
    let b = and_parts (has_nine_die found.top) _ a.1 in
    let c = and_parts (has_nine_die found.bottom) _ b.1 in
    let d = and_parts (is_some found.size) _ c.1 in
    by section needed a.0 (die_read found.top b.0) (die_read found.bottom c.0) d.0 d.1
  where
    by : (s : Section) → is_needed s ≡ true → is_some found.frame ≡ true → DieRead found.top → DieRead found.bottom → is_some found.size ≡ true → is_some found.spacing ≡ true → has_section found s ≡ true
    by DieSize n frame top bottom size spacing = frame
    by (MaxUtil Top) n frame top bottom size spacing = top.percent
    by (MaxUtil Bottom) n frame top bottom size spacing = bottom.percent
    by (Rows Top) n frame top bottom size spacing = top.rows
    by (Rows Bottom) n frame top bottom size spacing = bottom.rows
    by (Tech Top) n frame top bottom size spacing = top.tech
    by (Tech Bottom) n frame top bottom size spacing = bottom.tech
    by TerminalSize n frame top bottom size spacing = size
    by TerminalSpacing n frame top bottom size spacing = spacing
    by TerminalCost n frame top bottom size spacing = absurd cc

pub all_nine : (found : Found) → HasNeeded found → has_nine found ≡ true
all_nine found all =
    let top : has_nine_die found.top ≡ true = and_from _ _ (all (MaxUtil Top) refl) (and_from _ _ (all (Rows Top) refl) (all (Tech Top) refl)) in
    let bottom : has_nine_die found.bottom ≡ true = and_from _ _ (all (MaxUtil Bottom) refl) (and_from _ _ (all (Rows Bottom) refl) (all (Tech Bottom) refl)) in
    and_from _ _ (all DieSize refl) (and_from _ _ top (and_from _ _ bottom (and_from _ _ (all TerminalSize refl) (all TerminalSpacing refl))))

-- ten sections, each another, are all
pub enough_nine : (found : Found) → 10 ≤ found_count found → has_nine found ≡ true
enough_nine found enough =
    let count : found_count found ≡ length (bits found) = omega (arith, count_true-length (bits found)) in
    all_nine found (λ section needed. has_bit found section ∙ all_set (bits found) (section_number section) count (number_small found section))

-- once the nine were read, what was not read is the cost
pub last_is_cost : (found : Found) (section : Section) → has_nine found ≡ true → has_section found section ≡ false → section ≡ TerminalCost
last_is_cost found section nine fresh = by (is_needed section) refl
  where
    cost : (s : Section) → is_needed s ≡ false → s ≡ TerminalCost
    cost DieSize e = absurd cc
    cost (MaxUtil die) e = absurd cc
    cost (Rows die) e = absurd cc
    cost (Tech die) e = absurd cc
    cost TerminalSize e = absurd cc
    cost TerminalSpacing e = absurd cc
    cost TerminalCost e = refl

    by : (b : Bool) → is_needed section ≡ b → section ≡ TerminalCost
    by true is = let there : has_section found section ≡ true = nine_has found nine section is in absurd cc
    by false is = cost section is

-- one more section at the end
pub is_in-push : (t s : Section) (before : List Section) → is_in t (before ++ s ∷ []) ≡ cond (eqb (section_number s) (section_number t)) true (is_in t before)
is_in-push t s [] = refl
is_in-push t s (first ∷ others) = ap (cond (eqb (section_number first) (section_number t)) true) (is_in-push t s others) ∙ swapped (eqb (section_number first) (section_number t)) (eqb (section_number s) (section_number t)) (is_in t others)
  where
    swapped : (a b c : Bool) → cond a true (cond b true c) ≡ cond b true (cond a true c)
    swapped true true c = refl
    swapped true false c = refl
    swapped false true c = refl
    swapped false false c = refl

-- a section that is not among others and one more is not the one, and not among the others
pub is_in-front : (t s : Section) (before : List Section) → is_in t (before ++ s ∷ []) ≡ false → (eqb (section_number s) (section_number t) ≡ false) × (is_in t before ≡ false)
is_in-front t s before e = by (eqb (section_number s) (section_number t)) (is_in t before) (sym (is_in-push t s before) ∙ e)
  where
    by : (a b : Bool) → cond a true b ≡ false → (a ≡ false) × (b ≡ false)
    by true b e = absurd cc
    by false b e = (refl, e)
