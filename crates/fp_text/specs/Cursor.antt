-- Tokens as the program has them: places in their source.
use Rattle.std.specs.Prelude.{◌≡◌, ℕ, ◌<◌, ◌≤◌, List, [], ◌∷◌, length, slice_range, Option, Some, None}
use Rattle.fp_text.specs.Words.{Word}
use Rattle.fp_text.specs.Reading.{Left}
use Rattle.fp_text.specs.declared.cursor.Token.{Token}
use Rattle.fp_text.specs.declared.cursor.Word.{Word as WordRead}

-- the word that stands at a token's place
abbrev pub word_at : List ℕ → Token → Word
word_at bytes token = record { at = token.start; text = slice_range bytes token.start token.end }

-- a word as it was read
abbrev pub word_of : WordRead → Word
word_of word = record { at = word.at; text = word.text.now }

-- the next token: none exactly where no words are left, else the place of the first of them, which
-- is not empty and lies in the source
abbrev pub Advances : Left → Option Token → Left → Type 0
Advances old None new = (old.words ≡ []) × (new.words ≡ [])
Advances old (Some token) new = (old.words ≡ word_at old.bytes token ∷ new.words)
    × (token.start < token.end) × (token.end ≤ length old.bytes)
