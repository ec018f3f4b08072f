-- The tokens of a text: its maximal runs of bytes that are no blanks.
use Rattle.std.specs.Prelude.{◌≡◌, ℕ, ◌+◌, ◌-◌, ◌<◌, ◌≤◌, Bool, true, false, ◌||◌, ◌==◌, if◌then◌else◌, List, [], ◌∷◌, length, take, drop, slice_index}

-- a space, a tab, a carriage return or a line feed
abbrev pub is_blank : ℕ → Bool
is_blank byte = (byte == 32) || (byte == 9) || (byte == 13) || (byte == 10)

-- a token: where it begins in its source, and its bytes
pub record Word : Type 0 where
  pub at : ℕ
  pub text : List ℕ

-- a byte that is no blank begins the word that begins right behind it, or stands alone
unfoldable pub begun_by : ℕ → ℕ → List Word → List Word
begun_by at byte [] = record { at = at; text = byte ∷ [] } ∷ []
begun_by at byte (word ∷ words) =
    if word.at == at + 1 then record { at = at; text = byte ∷ word.text } ∷ words
    else record { at = at; text = byte ∷ [] } ∷ word ∷ words

-- the words of bytes that begin at a place of their source
unfoldable pub words_from : ℕ → List ℕ → List Word
words_from at [] = []
words_from at (byte ∷ bytes) =
    if is_blank byte then words_from (at + 1) bytes else begun_by at byte
    (words_from (at + 1) bytes)

-- the tokens of a whole text
abbrev pub words_of : List ℕ → List Word
words_of bytes = words_from 0 bytes

-- no word goes on over this place: it is the text's beginning or its end, or a blank stands there
abbrev pub IsEdge : List ℕ → ℕ → Type 0
IsEdge bytes place = 0 < place → place < length bytes → is_blank (slice_index bytes place) ≡ true

-- The law of tokens. A token is not empty, its bytes stand at its place, none of them is a blank,
-- and the bytes just outside are blanks or the text's ends.
pub record IsToken (bytes : List ℕ) (word : Word) : Type 0 where
  pub not_empty : 0 < length word.text
  pub within : word.at + length word.text ≤ length bytes
  pub stands : word.text ≡ take (length word.text) (drop word.at bytes)
  pub no_blank : (i : ℕ) → i < length word.text → is_blank (slice_index word.text i) ≡ false
  pub before : 0 < word.at → is_blank (slice_index bytes (word.at - 1)) ≡ true
  pub behind : word.at + length word.text < length bytes
      → is_blank (slice_index bytes (word.at + length word.text)) ≡ true

-- each token ends before the next begins
abbrev pub Rise : List Word → Type 0
Rise [] = Unit {0}
Rise (word ∷ []) = Unit {0}
Rise (word ∷ next ∷ words) = (word.at + length word.text < next.at) × Rise (next ∷ words)

-- a place of the text lies in one of the words
abbrev pub LiesIn : List Word → ℕ → Type 0
LiesIn words place = (k : ℕ) × (word : Word) × (k < length words)
    × (drop k words ≡ word ∷ drop (k + 1) words) × (word.at ≤ place)
    × (place < word.at + length word.text)

-- the words are the tokens of the text: each is one, they rise, and every byte that is no blank
-- lies in one
pub record AreTokens (bytes : List ℕ) (words : List Word) : Type 0 where
  pub each : (k : ℕ) (word : Word) → drop k words ≡ word ∷ drop (k + 1) words → IsToken bytes word
  pub rise : Rise words
  pub cover : (place : ℕ) → place < length bytes → is_blank (slice_index bytes place) ≡ false
      → LiesIn words place
