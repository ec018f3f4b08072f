-- The words of what is printed.
use Rattle.std.proofs.Common.{◌≡◌, ℕ, zero, suc, ◌<◌, slice_get, Some, ◌+◌, ◌^◌, ◌≤◌, true, List, [], ◌∷◌, ◌++◌, length, map, flat_map, refl, sym, ap, subst, ◌∙◌, append_assoc, arith}
use Rattle.fp_text.specs.Words.{Word, words_from}
use Rattle.fp_text.specs.WordsLaws.{Breaks, words-blank, words-solid}
use Rattle.fp_text.specs.Numbers.{is_name, Spells}
use Rattle.fp_text.specs.NumbersLaws.{IsSolid, is_solid, solid-tested, name-solid, decimal-solid, decimal-spells}
use Rattle.fp_text.specs.Items.{Each}
use Rattle.fp_tech.specs.Book.{name_at}
use Rattle.fp_contest_in.specs.Grammar.{Ranged, Keyword, Named, Numbers}
use Rattle.fp_contest_in.specs.PrintedText.{spaced, line, numbers}
use Rattle.fp_contest_in.specs.Printable.{EachIs}

-- wherever the piece stands, its words say this
pub record Says (stands : List Word → List Word → Type 0) (piece : List ℕ) : Type 0 where
  pub said : (more : List ℕ) (at : ℕ) → (to : ℕ) × stands (words_from at (piece ++ more)) (words_from to more)

-- one piece after the other
pub then_says : {first second both : List Word → List Word → Type 0} {a b : List ℕ} → Says first a → Says second b
    → ((u v w : List Word) → first u v → second v w → both u w) → Says both (a ++ b)
then_says {both = both} {a = a} {b = b} one two join = record {
  said = λ more at.
      let front = one.said (b ++ more) at in
      let back = two.said more front.0 in
      (back.0, subst (λ text. both (words_from at text) (words_from back.0 more)) (sym (append_assoc a b more)) (join _ _ _ front.1 back.1));
}

pub says_so : {old new : List Word → List Word → Type 0} {a : List ℕ} → Says old a → ((u v : List Word) → old u v → new u v) → Says new a
says_so one change = record { said = λ more at. let is = one.said more at in (is.0, change _ _ is.1) }

-- items one after the other
pub each_says : {A : Type 0} (is : List A → A → Type 0) (stands : List A → A → List Word → List Word → Type 0) (lines : A → List ℕ)
    → ((before : List A) (x : A) → is before x → Says (stands before x) (lines x))
    → (before xs : List A) → EachIs is before xs → Says (Each stands before xs) (flat_map lines xs)
each_says is stands lines one before [] each = record { said = λ more at. (at, refl) }
each_says is stands lines one before (x ∷ xs) each =
    then_says (one before x each.0) (each_says is stands lines one (before ++ x ∷ []) xs each.1) (λ u v w first others. (v, first, others))

-- what stands in words passes, item by item
pub each_is : {A : Type 0} (is : List A → A → Type 0) (stands : List A → A → List Word → List Word → Type 0)
    → ((before : List A) (x : A) (words rest : List Word) → stands before x words rest → is before x)
    → (before xs : List A) (words rest : List Word) → Each stands before xs words rest → EachIs is before xs
each_is is stands one before [] words rest each = tt
each_is is stands one before (x ∷ xs) words rest each = (one before x words each.0 each.1, each_is is stands one (before ++ x ∷ []) xs each.0 rest each.2)

-- an item at a place, and its name there
pub named_at : {A : Type 0} (name_of : A → List ℕ) (xs : List A) (i : ℕ) → i < length xs → (x : A) × (slice_get xs i ≡ Some x) × (name_at (map name_of xs) i ≡ name_of x)
named_at name_of [] i below = absurd (omega arith)
named_at name_of (x ∷ xs) zero below = (x, refl, refl)
named_at name_of (x ∷ xs) (suc i) below = named_at name_of xs i (omega arith)

-- names of items, of which each is a name
pub names_are : {A : Type 0} (is : List A → A → Type 0) (name_of : A → List ℕ) → ((before : List A) (x : A) → is before x → is_name (name_of x) ≡ true)
    → (before xs : List A) → EachIs is before xs → (i : ℕ) → i < length xs → is_name (name_at (map name_of xs) i) ≡ true
names_are is name_of one before [] each i below = absurd (omega arith)
names_are is name_of one before (x ∷ xs) each zero below = one before x each.0
names_are is name_of one before (x ∷ xs) each (suc i) below = names_are is name_of one (before ++ x ∷ []) xs each.1 i (omega arith)

-- ---- a line

-- these texts are words, one after the other
abbrev pub Spelled : List (List ℕ) → List Word → List Word → Type 0
Spelled [] words rest = words ≡ rest
Spelled (text ∷ texts) words rest = (word : Word) × (mid : List Word) × (words ≡ word ∷ mid) × (word.text ≡ text) × Spelled texts mid rest

abbrev pub AreSolid : List (List ℕ) → Type 0
AreSolid [] = Unit {0}
AreSolid (text ∷ texts) = IsSolid text × AreSolid texts

breaks_behind : (texts : List (List ℕ)) (more : List ℕ) → Breaks (flat_map spaced texts ++ 10 ∷ more)
breaks_behind [] more = refl
breaks_behind (text ∷ texts) more = refl

spaced_words : (texts : List (List ℕ)) (more : List ℕ) (at : ℕ) → AreSolid texts → (to : ℕ) × Spelled texts (words_from at (flat_map spaced texts ++ 10 ∷ more)) (words_from to more)
spaced_words [] more at solid = (at + 1, words-blank 10 more at refl)
spaced_words (text ∷ texts) more at solid =
    let rest = flat_map spaced texts ++ 10 ∷ more in
    let one : words_from at (flat_map spaced (text ∷ texts) ++ 10 ∷ more) ≡ record { at = at + 1; text = text } ∷ words_from (at + 1 + length text) rest =
    words-blank 32 ((text ++ flat_map spaced texts) ++ 10 ∷ more) at refl
    ∙ ap (words_from (at + 1)) (append_assoc text (flat_map spaced texts) (10 ∷ more))
    ∙ words-solid text rest (at + 1) solid.0.some solid.0.no_blank (breaks_behind texts more) in
    let next = spaced_words texts more (at + 1 + length text) solid.1 in
    (next.0, (record { at = at + 1; text = text }, words_from (at + 1 + length text) rest, one, refl, next.1))

pub line_says : (first : List ℕ) (others : List (List ℕ)) → IsSolid first → AreSolid others → Says (Spelled (first ∷ others)) (line first others)
line_says first others solid all = record {
  said = λ more at.
      let rest = flat_map spaced others ++ 10 ∷ more in
      let apart : line first others ++ more ≡ first ++ rest = append_assoc (first ++ flat_map spaced others) (10 ∷ []) more ∙ append_assoc first (flat_map spaced others) (10 ∷ more) in
      let one = ap (words_from at) apart ∙ words-solid first rest at solid.some solid.no_blank (breaks_behind others more) in
      let next = spaced_words others more (at + length first) all in
      (next.0, (record { at = at; text = first }, words_from (at + length first) rest, one, refl, next.1));
}

-- ---- numbers

-- numbers in their ranges
abbrev pub Fit : List Ranged → Type 0
Fit [] = Unit {0}
Fit (r ∷ rs) = (r.least ≤ r.value) × (r.value ≤ r.most) × (r.most ≤ 2 ^ 30) × Fit rs

abbrev pub values : List Ranged → List ℕ
values rs = map (λ r. r.value) rs

pub numbers_solid : (rs : List Ranged) → Fit rs → AreSolid (numbers (values rs))
numbers_solid [] fit = tt
numbers_solid (r ∷ rs) fit =
    let most : r.value ≤ r.most = fit.1 in
    let small : r.most ≤ 2 ^ 30 = fit.2 in
    (decimal-solid r.value (omega arith), numbers_solid rs fit.3)

pub numbers_stand : (rs : List Ranged) (words rest : List Word) → Fit rs → Spelled (numbers (values rs)) words rest → Numbers rs words rest
numbers_stand [] words rest fit spelled = spelled
numbers_stand (r ∷ rs) words rest fit spelled =
    let most : r.value ≤ r.most = fit.1 in
    let small : r.most ≤ 2 ^ 30 = fit.2 in
    let spells = decimal-spells r.least r.most r.value fit.0 fit.1 (omega arith) in
    (spelled.0, spelled.1, spelled.2, subst (λ text. Spells r.least r.most text r.value) (sym spelled.3) spells, numbers_stand rs spelled.1 rest fit.3 spelled.4)

-- a line of a keyword and numbers, and one of a keyword, a name and numbers
abbrev pub IsNumbersLine : List ℕ → List Ranged → List Word → List Word → Type 0
IsNumbersLine keyword rs words rest = (mid : List Word) × Keyword keyword words mid × Numbers rs mid rest

pub numbers_line_says : (keyword : List ℕ) (rs : List Ranged) → is_solid keyword ≡ true → Fit rs → Says (IsNumbersLine keyword rs) (line keyword (numbers (values rs)))
numbers_line_says keyword rs solid fit =
    says_so (line_says keyword (numbers (values rs)) (solid-tested keyword solid) (numbers_solid rs fit))
    (λ u v s. (s.1, (s.0, s.2, s.3), numbers_stand rs s.1 v fit s.4))

pub record IsNamedLine (keyword name : List ℕ) (rs : List Ranged) (words rest : List Word) : Type 0 where
  pub after_keyword : List Word
  pub after_name : List Word
  pub word : Keyword keyword words after_keyword
  pub named : Named name after_keyword after_name
  pub all : Numbers rs after_name rest

pub named_line_says : (keyword name : List ℕ) (rs : List Ranged) → is_solid keyword ≡ true → is_name name ≡ true → Fit rs → Says (IsNamedLine keyword name rs) (line keyword (name ∷ numbers (values rs)))
named_line_says keyword name rs solid is fit =
    says_so (line_says keyword (name ∷ numbers (values rs)) (solid-tested keyword solid) (name-solid name is, numbers_solid rs fit))
    (λ u v s. record {
      after_keyword = s.1;
      after_name = s.4.1;
      word = (s.0, s.2, s.3);
      named = (s.4.0, s.4.2, s.4.3, is);
      all = numbers_stand rs s.4.1 v fit s.4.4;
    })
