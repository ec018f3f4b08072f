-- What two scans, to the next byte that is no blank and on to the next blank, say of the words that
-- are left.
use Rattle.std.proofs.Common.{◌≡◌, ℕ, ◌<◌, ◌≤◌, Bool, true, false, List, [], ◌∷◌, length, drop, sym, ap, subst, ◌∙◌, arith, inl, inr}
use Rattle.std.specs.Prelude.{◌≢◌, slice_index, slice_range}
use Rattle.std.proofs.lemmas.Bool.{cases_lt, true_from_ne_false}
use Rattle.fp_text.specs.Words.{is_blank, words_from, IsEdge, IsToken}
use Rattle.fp_text.specs.Reading.{Left}
use Rattle.fp_text.specs.WordsLaws.{words-none, words-skipped, words-found, words_from-token}

-- the place to which one scan came
pub record Ran (bytes : List ℕ) (from to : ℕ) (blank : Bool) : Type 0 where
  pub behind : from ≤ to
  pub within : to ≤ length bytes
  pub run : (k : ℕ) → from ≤ k → k < to → is_blank (slice_index bytes k) ≡ blank
  pub stops : to < length bytes → is_blank (slice_index bytes to) ≢ blank

pub edge-ran : (bytes : List ℕ) (start end : ℕ) → Ran bytes start end false → IsEdge bytes end
edge-ran bytes start end word above lt = true_from_ne_false _ (word.stops lt)

-- both scans ended at once, so nothing is left
at_end : (bytes : List ℕ) (from start end : ℕ) → Ran bytes from start true
    → Ran bytes start end false → start ≡ end → length bytes ≤ start
at_end bytes from start end blanks word same =
    elim (cases_lt start (length bytes)) [
      | inl lt ↦
          absurd
          (blanks.stops lt
          (ap (λ n. is_blank (slice_index bytes n)) same
          ∙ true_from_ne_false _ (word.stops (omega arith))))
      | inr le ↦ le
    ]

pub none_left : (bytes : List ℕ) (from start end : ℕ) (old : Left) → Ran bytes from start true
    → Ran bytes start end false → start ≡ end
    → record { bytes = bytes; words = words_from from (drop from bytes) } ≡ old → (old.words ≡ [])
    × (words_from end (drop end bytes) ≡ [])
none_left bytes from start end old blanks word same view =
    let le : length bytes ≤ start = at_end bytes from start end blanks word same in
    let within : start ≤ length bytes = blanks.within in (
      ap (λ (l : Left). l.words) (sym view)
          ∙ words-skipped bytes from start blanks.behind within blanks.run
          ∙ words-none bytes start le,
      words-none bytes end (omega arith),
    )

pub one_left : (bytes : List ℕ) (from start end : ℕ) (old : Left) → Ran bytes from start true
    → Ran bytes start end false → start ≢ end
    → record { bytes = bytes; words = words_from from (drop from bytes) } ≡ old
    → (old.words ≡ record { at = start; text = slice_range old.bytes start end } ∷ words_from end
    (drop end bytes)) × (start < end) × (end ≤ length old.bytes)
one_left bytes from start end old blanks word other view =
    let bytes_is : bytes ≡ old.bytes = ap (λ (l : Left). l.bytes) view in
    let le : start ≤ end = word.behind in
    let lt : start < end = omega arith in (
      ap (λ (l : Left). l.words) (sym view)
          ∙ words-skipped bytes from start blanks.behind blanks.within blanks.run
          ∙ words-found bytes start end lt word.within word.run
          (λ h. true_from_ne_false _ (word.stops h))
          ∙ ap
          (λ (b : List ℕ). record {
            at = start;
            text = slice_range b start end;
          } ∷ words_from end (drop end bytes)) bytes_is,
      lt,
      let within : end ≤ length bytes = word.within in rw (← bytes_is) within,
    )

pub token_left : (bytes : List ℕ) (from start end : ℕ) (old : Left) → IsEdge bytes from
    → Ran bytes from start true → Ran bytes start end false → start ≢ end
    → record { bytes = bytes; words = words_from from (drop from bytes) } ≡ old
    → IsToken old.bytes (record { at = start; text = slice_range old.bytes start end })
token_left bytes from start end old edge blanks word other view =
    let one = one_left bytes from start end old blanks word other view in
    let bytes_is : bytes ≡ old.bytes = ap (λ (l : Left). l.bytes) view in
    subst
    (λ (b : List ℕ). IsToken b
    (record { at = start; text = slice_range old.bytes start end })) bytes_is
    (words_from-token bytes from _ _ edge (ap (λ (l : Left). l.words) view ∙ one.0))
