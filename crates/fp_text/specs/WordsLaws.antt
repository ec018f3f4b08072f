-- How the words of a text follow from its parts, and that they are its tokens.
use Rattle.std.specs.Prelude.{◌≡◌, ℕ, suc, ◌+◌, ◌-◌, ◌<◌, ◌≤◌, Bool, true, false, List, [], ◌∷◌, ◌++◌, length, slice_index, slice_range}
use Rattle.std.proofs.Common.{refl, sym, ap, subst, ◌∙◌, get_or, take, drop, arith, eqb, inl, inr, zero}
use Rattle.std.proofs.lemmas.Bool.{cases_Bool, cases_eq, cases_lt, ne_eqb, eq-eqb, both_ways}
use Rattle.std.proofs.lemmas.List.{length-drop, get_or-drop, get_or-take, length-take-le, drop-drop, drop_all}
use Rattle.std.proofs.lemmas.List.Folds.{drop_split}
use Rattle.std.proofs.Math.Seq.{drop-nil}
use Rattle.fp_text.specs.Words.{is_blank, Word, begun_by, words_from, words_of, IsEdge, IsToken, Rise, LiesIn, AreTokens}

-- each byte is a blank, or each is none
abbrev pub AllAre : Bool → List ℕ → Type 0
AllAre blank bytes = (i : ℕ) → i < length bytes → is_blank (slice_index bytes i) ≡ blank

-- no word goes on over this front: there is no more, or a blank is next
abbrev pub Breaks : List ℕ → Type 0
Breaks [] = Unit {0}
Breaks (byte ∷ bytes) = is_blank byte ≡ true

-- a blank in front adds no word
pub words-blank : (byte : ℕ) (bytes : List ℕ) (at : ℕ) → is_blank byte ≡ true
    → words_from at (byte ∷ bytes) ≡ words_from (at + 1) bytes
unfolding words_from
words-blank byte bytes at blank = rw blank refl

-- another byte begins a word
pub words-begun : (byte : ℕ) (bytes : List ℕ) (at : ℕ) → is_blank byte ≡ false
    → words_from at (byte ∷ bytes) ≡ begun_by at byte (words_from (at + 1) bytes)
unfolding words_from
words-begun byte bytes at blank = rw blank refl

-- blanks in front of a text add no word
pub words-blanks : (blanks bytes : List ℕ) (at : ℕ) → AllAre true blanks
    → words_from at (blanks ++ bytes) ≡ words_from (at + length blanks) bytes
words-blanks [] bytes at all = ap (λ n. words_from n bytes) (omega arith)
words-blanks (b ∷ bs) bytes at all =
    words-blank b (bs ++ bytes) at (all 0 (omega arith))
    ∙ words-blanks bs bytes (at + 1) (λ i lt. all (suc i) (omega arith))
    ∙ ap (λ n. words_from n bytes) (omega arith)

-- the first word, if any, begins here or later
abbrev FirstFrom : ℕ → List Word → Type 0
FirstFrom at [] = Unit {0}
FirstFrom at (word ∷ words) = at ≤ word.at

first_earlier : (m n : ℕ) (words : List Word) → m ≤ n → FirstFrom n words → FirstFrom m words
first_earlier m n [] le h = tt
first_earlier m n (word ∷ words) le h = omega arith

begun-first : (at byte : ℕ) (words : List Word) → FirstFrom at (begun_by at byte words)
unfolding begun_by
begun-first at byte [] = omega arith
begun-first at byte (word ∷ words) =
    elim
    (cases_Bool (eqb word.at (at + 1))) [
      | inl e ↦ rw e (omega arith)
      | inr e ↦
          rw e (omega arith)
    ]

words-first : (bytes : List ℕ) (at : ℕ) → FirstFrom at (words_from at bytes)
unfolding words_from
words-first [] at = tt
words-first (byte ∷ bytes) at =
    elim (cases_Bool (is_blank byte)) [
      | inl e ↦
          rw e
          (first_earlier at (at + 1) (words_from (at + 1) bytes) (omega arith)
          (words-first bytes (at + 1)))
      | inr e ↦ rw e (begun-first at byte (words_from (at + 1) bytes))
    ]

-- behind a word a blank is next, so what follows begins later
breaks-first : (bytes : List ℕ) (at : ℕ) → Breaks bytes → FirstFrom (at + 1) (words_from at bytes)
unfolding words_from
breaks-first [] at breaks = tt
breaks-first (byte ∷ bytes) at breaks = rw breaks (words-first bytes (at + 1))

-- a byte begins a word of its own where none begins right behind it
pub begun-alone : (at byte : ℕ) (words : List Word) → FirstFrom (at + 1 + 1) words
    → begun_by at byte words ≡ record { at = at; text = byte ∷ [] } ∷ words
unfolding begun_by
begun-alone at byte [] later = refl
begun-alone at byte (word ∷ words) later =
    let e : eqb word.at (at + 1) ≡ false = ne_eqb word.at (at + 1) (λ same. omega arith) in
    rw e refl

pub begun-longer : (at byte : ℕ) (word : Word) (words : List Word) → word.at ≡ at + 1
    → begun_by at byte (word ∷ words) ≡ record { at = at; text = byte ∷ word.text } ∷ words
unfolding begun_by
begun-longer at byte word words same =
    let e : eqb word.at (at + 1) ≡ true = eq-eqb word.at (at + 1) same in
    rw e refl

-- bytes that are no blanks are one word, where none goes on behind them
pub words-word : (byte : ℕ) (text bytes : List ℕ) (at : ℕ) → AllAre false (byte ∷ text)
    → Breaks bytes
    → words_from at (byte ∷ text ++ bytes) ≡ record { at = at; text = byte ∷ text } ∷ words_from
    (at + suc (length text)) bytes
words-word byte [] bytes at all breaks =
    words-begun byte bytes at (all 0 (omega arith))
    ∙ begun-alone at byte (words_from (at + 1) bytes) (breaks-first bytes (at + 1) breaks)
    ∙ ap (λ n. record { at = at; text = byte ∷ [] } ∷ words_from n bytes) (omega arith)
words-word byte (b ∷ text) bytes at all breaks =
    let rest = words-word b text bytes (at + 1) (λ i lt. all (suc i) (omega arith)) breaks in
    words-begun byte (b ∷ text ++ bytes) at (all 0 (omega arith))
    ∙ ap (begun_by at byte) rest
    ∙ begun-longer at byte (record { at = at + 1; text = b ∷ text })
    (words_from (at + 1 + suc (length text)) bytes) refl
    ∙ ap (λ n. record { at = at; text = byte ∷ b ∷ text } ∷ words_from n bytes) (omega arith)

pub words-solid : (text bytes : List ℕ) (at : ℕ) → 0 < length text → AllAre false text
    → Breaks bytes
    → words_from at (text ++ bytes) ≡ record { at = at; text = text } ∷ words_from
    (at + length text) bytes
words-solid [] bytes at some all breaks = absurd (omega arith)
words-solid (byte ∷ text) bytes at some all breaks = words-word byte text bytes at all breaks

-- a word with a blank behind it
pub words-one : (text bytes : List ℕ) (blank at : ℕ) → 0 < length text → AllAre false text
    → is_blank blank ≡ true
    → words_from at (text ++ blank ∷ bytes) ≡ record { at = at; text = text } ∷ words_from
    (at + length text + 1) bytes
words-one text bytes blank at some all is =
    words-solid text (blank ∷ bytes) at some all is
    ∙ ap (λ (ws : List Word). record { at = at; text = text } ∷ ws)
    (words-blank blank bytes (at + length text) is)

-- a part of the bytes
slice_length : (bytes : List ℕ) (from to : ℕ) → from ≤ to → to ≤ length bytes
    → length (slice_range bytes from to) ≡ to - from
slice_length bytes from to le within =
    length-take-le (to - from) (drop from bytes) (omega (arith, length-drop from bytes))

all-slice : (blank : Bool) (bytes : List ℕ) (from to : ℕ) → from ≤ to → to ≤ length bytes
    → ((k : ℕ) → from ≤ k → k < to → is_blank (slice_index bytes k) ≡ blank)
    → AllAre blank (slice_range bytes from to)
all-slice blank bytes from to le within all i lt =
    let long : length (slice_range bytes from to) ≡ to - from =
    slice_length bytes from to le within in
    ap is_blank
    (get_or-take (to - from) (drop from bytes) i 0 (omega arith) ∙ get_or-drop from bytes i 0)
    ∙ all (from + i) (omega arith) (omega arith)

breaks-rest : (rest bytes : List ℕ) (at : ℕ) → drop at bytes ≡ rest
    → (at < length bytes → is_blank (slice_index bytes at) ≡ true) → Breaks rest
breaks-rest [] bytes at stands behind = tt
breaks-rest (byte ∷ rest) bytes at stands behind =
    ap is_blank
    (ap (λ (l : List ℕ). get_or l 0 0) (sym stands) ∙ get_or-drop at bytes 0 0
    ∙ ap (λ n. get_or bytes n 0) (omega arith))
    ∙ behind (omega (arith, length-drop at bytes, ap length stands))

-- the words from a place on are those from a later one, where blanks alone stand between
pub words-skipped : (bytes : List ℕ) (from to : ℕ) → from ≤ to → to ≤ length bytes
    → ((k : ℕ) → from ≤ k → k < to → is_blank (slice_index bytes k) ≡ true)
    → words_from from (drop from bytes) ≡ words_from to (drop to bytes)
words-skipped bytes from to le within all =
    let long : length (slice_range bytes from to) ≡ to - from =
    slice_length bytes from to le within in
    ap (words_from from) (drop_split bytes from to le)
    ∙ words-blanks (slice_range bytes from to) (drop to bytes) from
    (all-slice true bytes from to le within all)
    ∙ ap (λ n. words_from n (drop to bytes)) (omega arith)

-- the words from a place on begin with the word that stands there
pub words-found : (bytes : List ℕ) (start end : ℕ) → start < end → end ≤ length bytes
    → ((k : ℕ) → start ≤ k → k < end → is_blank (slice_index bytes k) ≡ false)
    → (end < length bytes → is_blank (slice_index bytes end) ≡ true)
    → words_from start
    (drop start bytes) ≡ record {
      at = start;
      text = slice_range bytes start end;
    } ∷ words_from end (drop end bytes)
words-found bytes start end lt within all behind =
    let le : start ≤ end = omega arith in
    let long : length (slice_range bytes start end) ≡ end - start =
    slice_length bytes start end le within in
    ap (words_from start) (drop_split bytes start end le)
    ∙ words-solid (slice_range bytes start end) (drop end bytes) start (omega arith)
    (all-slice false bytes start end le within all)
    (breaks-rest (drop end bytes) bytes end refl behind)
    ∙ ap
    (λ n. record { at = start; text = slice_range bytes start end } ∷ words_from n
    (drop end bytes)) (omega arith)

-- no words are left behind the last blank
pub words-none : (bytes : List ℕ) (at : ℕ) → length bytes ≤ at → words_from at (drop at bytes) ≡ []
unfolding words_from
words-none bytes at le = ap (words_from at) (drop_all at bytes le)

-- The words cut the bytes from a place on: blanks, a word, blanks, a word, and blanks at the end.
record Chunk (from : ℕ) (bytes : List ℕ) (word : Word) : Type 0 where
  begins : from ≤ word.at
  blanks : (i : ℕ) → from ≤ i → i < word.at → is_blank (slice_index bytes i) ≡ true
  not_empty : 0 < length word.text
  within : word.at + length word.text ≤ length bytes
  stands : word.text ≡ take (length word.text) (drop word.at bytes)
  no_blank : (i : ℕ) → i < length word.text → is_blank (slice_index word.text i) ≡ false
  behind : word.at + length word.text < length bytes
      → is_blank (slice_index bytes (word.at + length word.text)) ≡ true

abbrev Cut : ℕ → List ℕ → List Word → Type 0
Cut from bytes [] = (i : ℕ) → from ≤ i → i < length bytes → is_blank (slice_index bytes i) ≡ true
Cut from bytes (word ∷ words) = Chunk from bytes word × Cut (word.at + length word.text) bytes words

-- one more blank in front
longer : (from to : ℕ) (bytes : List ℕ) → is_blank (slice_index bytes from) ≡ true
    → ((i : ℕ) → from + 1 ≤ i → i < to → is_blank (slice_index bytes i) ≡ true)
    → (i : ℕ) → from ≤ i → i < to → is_blank (slice_index bytes i) ≡ true
longer from to bytes blank all i le lt =
    elim
    (cases_eq i from) [
      | inl e ↦ ap (λ n. is_blank (slice_index bytes n)) e ∙ blank
      | inr ne ↦
          all i (omega arith) lt
    ]

cut-blank : (from : ℕ) (bytes : List ℕ) (words : List Word)
    → is_blank (slice_index bytes from) ≡ true → Cut (from + 1) bytes words → Cut from bytes words
cut-blank from bytes [] blank cut = longer from (length bytes) bytes blank cut
cut-blank from bytes (word ∷ words) blank cut = (
  record {
    begins = let le : from + 1 ≤ word.at = cut.0.begins in omega arith;
    blanks = longer from word.at bytes blank cut.0.blanks;
    not_empty = cut.0.not_empty;
    within = cut.0.within;
    stands = cut.0.stands;
    no_blank = cut.0.no_blank;
    behind = cut.0.behind;
  },
  cut.1,
)

-- what a cut rest of the bytes says of them
byte_at : (from byte : ℕ) (rest bytes : List ℕ) → drop from bytes ≡ byte ∷ rest
    → slice_index bytes from ≡ byte
byte_at from byte rest bytes stands = ap (λ n. get_or bytes n 0) (omega arith)
    ∙ sym (get_or-drop from bytes 0 0) ∙ ap (λ (l : List ℕ). get_or l 0 0) stands

rest_at : (from byte : ℕ) (rest bytes : List ℕ) → drop from bytes ≡ byte ∷ rest
    → drop (from + 1) bytes ≡ rest
rest_at from byte rest bytes stands = sym (drop-drop 1 from bytes) ∙ ap (drop 1) stands

before_end : (from byte : ℕ) (rest bytes : List ℕ) → drop from bytes ≡ byte ∷ rest
    → from < length bytes
before_end from byte rest bytes stands = omega (arith, length-drop from bytes, ap length stands)

no_blank-begun : (byte : ℕ) (text : List ℕ) → is_blank byte ≡ false → AllAre false text
    → AllAre false (byte ∷ text)
no_blank-begun byte text blank all zero lt = blank
no_blank-begun byte text blank all (suc i) lt = all i (omega arith)

-- a word of one byte
chunk-one : (from byte : ℕ) (rest bytes : List ℕ) → drop from bytes ≡ byte ∷ rest
    → is_blank byte ≡ false
    → (from + 1 < length bytes → is_blank (slice_index bytes (from + 1)) ≡ true)
    → Chunk from bytes (record { at = from; text = byte ∷ [] })
chunk-one from byte rest bytes stands blank behind = record {
  begins = omega arith;
  blanks = λ i le lt. absurd (omega arith);
  not_empty = omega arith;
  within = let lt : from < length bytes = before_end from byte rest bytes stands in omega arith;
  stands = rw stands refl;
  no_blank = no_blank-begun byte [] blank (λ i lt. absurd (omega arith));
  behind = behind;
}

-- one more byte of a word in front
cut-begun : (from byte : ℕ) (rest bytes : List ℕ) (words : List Word)
    → drop from bytes ≡ byte ∷ rest → is_blank byte ≡ false → Cut (from + 1) bytes words
    → Cut from bytes (begun_by from byte words)
cut-begun from byte rest bytes [] stands blank cut =
    rw (begun-alone from byte [] tt)
    (chunk-one from byte rest bytes stands blank (λ lt. cut (from + 1) (omega arith) lt), cut)
cut-begun from byte rest bytes (word ∷ words) stands blank cut =
    let le : from + 1 ≤ word.at = cut.0.begins in
    elim (cases_eq word.at (from + 1)) [
      | inl same ↦
          let text : byte ∷ word.text ≡ take (suc (length word.text)) (drop from bytes) =
          ap (λ (l : List ℕ). byte ∷ l)
          (cut.0.stands
          ∙ ap (take (length word.text))
          (ap (λ n. drop n bytes) same ∙ rest_at from byte rest bytes stands))
          ∙ ap (take (suc (length word.text))) (sym stands) in
          let end : word.at + length word.text ≡ from + suc (length word.text) = omega arith in
          rw (begun-longer from byte word words same) (
            record {
              begins = omega arith;
              blanks = λ i le lt. absurd (omega arith);
              not_empty = omega arith;
              within = let h : word.at + length word.text ≤ length bytes = cut.0.within in
                  omega arith;
              stands = text;
              no_blank = no_blank-begun byte word.text blank cut.0.no_blank;
              behind =
                  subst
                  (λ n. n < length bytes → is_blank (slice_index bytes n) ≡ true) end cut.0.behind;
            },
            subst (λ n. Cut n bytes words) end cut.1,
          )
      | inr other ↦
          let later : from + 1 + 1 ≤ word.at = omega arith in
          rw (begun-alone from byte (word ∷ words) later) (
            chunk-one from byte rest bytes stands blank
                (λ lt. cut.0.blanks (from + 1) (omega arith) (omega arith)),
            cut,
          )
    ]

words-cut : (rest bytes : List ℕ) (from : ℕ) → drop from bytes ≡ rest
    → Cut from bytes (words_from from rest)
unfolding words_from
words-cut [] bytes from stands =
    λ i le lt. absurd (omega (arith, length-drop from bytes, ap length stands))
words-cut (byte ∷ rest) bytes from stands =
    let next = words-cut rest bytes (from + 1) (rest_at from byte rest bytes stands) in
    elim (cases_Bool (is_blank byte)) [
      | inl blank ↦
          subst (Cut from bytes) (sym (words-blank byte rest from blank))
          (cut-blank from bytes (words_from (from + 1) rest)
          (ap is_blank (byte_at from byte rest bytes stands) ∙ blank) next)
      | inr none ↦
          subst (Cut from bytes) (sym (words-begun byte rest from none))
          (cut-begun from byte rest bytes (words_from (from + 1) rest) stands none next)
    ]

-- a byte of a word is the byte at its place
chunk-byte : (from : ℕ) (bytes : List ℕ) (word : Word) (i : ℕ) → Chunk from bytes word
    → i < length word.text → is_blank (slice_index bytes (word.at + i)) ≡ false
chunk-byte from bytes word i chunk lt =
    ap is_blank
    (sym (get_or-drop word.at bytes i 0)
    ∙ sym (get_or-take (length word.text) (drop word.at bytes) i 0 lt)
    ∙ ap (λ (l : List ℕ). get_or l i 0) (sym chunk.stands)) ∙ chunk.no_blank i lt

chunk-first : (from : ℕ) (bytes : List ℕ) (word : Word) → Chunk from bytes word
    → is_blank (slice_index bytes word.at) ≡ false
chunk-first from bytes word chunk = ap (λ n. is_blank (slice_index bytes n)) (omega arith)
    ∙ chunk-byte from bytes word 0 chunk chunk.not_empty

chunk-later : (from : ℕ) (bytes : List ℕ) (word : Word) → Chunk from bytes word → IsEdge bytes from
    → 0 < from → from < word.at
chunk-later from bytes word chunk edge above =
    let le : from ≤ word.at = chunk.begins in
    let within : word.at + length word.text ≤ length bytes = chunk.within in
    let some : 0 < length word.text = chunk.not_empty in
    elim (cases_eq word.at from) [
      | inl same ↦
          absurd
          (both_ways _ (chunk-first from bytes word chunk)
          (ap (λ n. is_blank (slice_index bytes n)) same ∙ edge above (omega arith)))
      | inr other ↦ omega arith
    ]

chunk-token : (from : ℕ) (bytes : List ℕ) (word : Word) → Chunk from bytes word → IsEdge bytes from
    → IsToken bytes word
chunk-token from bytes word chunk edge = record {
  not_empty = chunk.not_empty;
  within = chunk.within;
  stands = chunk.stands;
  no_blank = chunk.no_blank;
  before = λ above.
      let le : from ≤ word.at = chunk.begins in
      let lt : from < word.at =
      elim
      (cases_eq from 0) [
        | inl e ↦ omega arith
        | inr ne ↦
            chunk-later from bytes word chunk edge (omega arith)
      ] in
      chunk.blanks (word.at - 1) (omega arith) (omega arith);
  behind = chunk.behind;
}

cut-each : (words : List Word) (from : ℕ) (bytes : List ℕ) → Cut from bytes words
    → IsEdge bytes from → (k : ℕ) (word : Word) → drop k words ≡ word ∷ drop (k + 1) words
    → IsToken bytes word
cut-each [] from bytes cut edge k word stands =
    let none = drop-nil {A = Word} k in absurd cc
cut-each (first ∷ words) from bytes cut edge zero word stands =
    let same : first ≡ word = cc in
    subst (IsToken bytes) same (chunk-token from bytes first cut.0 edge)
cut-each (first ∷ words) from bytes cut edge (suc k) word stands =
    cut-each words (first.at + length first.text) bytes cut.1 (λ above lt. cut.0.behind lt) k word
    (let e : suc k + 1 ≡ suc (k + 1) = omega arith in stands
    ∙ ap (λ n. word ∷ drop n (first ∷ words)) e)

cut-rise : (words : List Word) (from : ℕ) (bytes : List ℕ) → Cut from bytes words → Rise words
cut-rise [] from bytes cut = tt
cut-rise (word ∷ []) from bytes cut = tt
cut-rise (word ∷ next ∷ words) from bytes cut =
    let some : 0 < length word.text = cut.0.not_empty in (
      chunk-later (word.at + length word.text) bytes next cut.1.0 (λ above lt. cut.0.behind lt)
          (omega arith),
      cut-rise (next ∷ words) (word.at + length word.text) bytes cut.1,
    )

cut-cover : (words : List Word) (from : ℕ) (bytes : List ℕ) → Cut from bytes words → (place : ℕ)
    → from ≤ place → place < length bytes → is_blank (slice_index bytes place) ≡ false
    → LiesIn words place
cut-cover [] from bytes cut place le lt none = absurd (both_ways _ none (cut place le lt))
cut-cover (word ∷ words) from bytes cut place le lt none =
    elim (cases_lt place word.at) [
      | inl before ↦ absurd (both_ways _ none (cut.0.blanks place le before))
      | inr from_it ↦ elim (cases_lt place (word.at + length word.text)) [
        | inl inside ↦ (0, word, omega arith, refl, from_it, inside)
        | inr behind ↦
            let found =
            cut-cover words (word.at + length word.text) bytes cut.1 place behind lt none in (
              suc found.0,
              found.1,
              omega (arith, found.2),
              (let e : suc (found.0 + 1) ≡ suc found.0 + 1 = omega arith in found.3
                  ∙ ap (λ n. found.1 ∷ drop n (word ∷ words)) e),
              found.4,
              found.5,
            )
      ]
    ]

-- the words of a whole text are its tokens
pub words_of-tokens : (bytes : List ℕ) → AreTokens bytes (words_of bytes)
words_of-tokens bytes =
    let cut = words-cut bytes bytes 0 refl in
    record {
      each = cut-each (words_of bytes) 0 bytes cut (λ above lt. absurd (omega arith));
      rise = cut-rise (words_of bytes) 0 bytes cut;
      cover = λ place lt none. cut-cover (words_of bytes) 0 bytes cut place (omega arith) lt none;
    }

-- the first word from a place between words on is a token of the text
pub words_from-token : (bytes : List ℕ) (place : ℕ) (word : Word) (words : List Word)
    → IsEdge bytes place → words_from place (drop place bytes) ≡ word ∷ words → IsToken bytes word
words_from-token bytes place word words edge stands =
    let cut = words-cut (drop place bytes) bytes place refl in
    let first : drop 0 (words_from place (drop place bytes)) ≡ word ∷ drop (0 + 1)
    (words_from place (drop place bytes)) = rw stands refl in
    cut-each (words_from place (drop place bytes)) place bytes cut edge 0 word first
