-- Reading a grammar from left to right, token by token: a value and the tokens that are left, or
-- the first fault.
use Rattle.std.specs.Prelude.{◌≡◌, ℕ, zero, suc, ◌^◌, Bool, false, nat_lt, nat_le, ◌&&◌, if◌then◌else◌, List, [], ◌∷◌, ◌++◌, length, Result, Ok, Err}
use Rattle.std.specs.Str.{bytes_eq}
use Rattle.fp_text.specs.Words.{Word, words_of}
use Rattle.fp_text.specs.Numbers.{is_digits, value_of, is_name}
use Rattle.fp_text.specs.declared.fault.Kind.{Kind}
use Rattle.fp_text.specs.declared.fault.Kind.TheVariants.{Ended, Word as WrongWord, Number, Name, Range, Trailing}
use Rattle.fp_text.specs.declared.fault.TextFault.{TextFault}
use Rattle.fp_text.specs.declared.fault.TextFault.TheVariants.{Wrong, Memory}

-- where the first fault is, and of which kind
pub record Fault : Type 0 where
  pub at : ℕ
  pub kind : Kind

-- a text, and the tokens of it that are not read yet
pub record Left : Type 0 where
  pub bytes : List ℕ
  pub words : List Word

-- a whole text, of which nothing is read yet
abbrev pub whole : List ℕ → Left
whole bytes = record { bytes = bytes; words = words_of bytes }

-- what reading gives: a value and what is left, or the first fault
abbrev pub Read : Type 0 → Type 0
Read A = Result (A × Left) Fault

infixl 10 ◌>>=◌
abbrev pub ◌>>=◌ : {A B : Type 0} → Result A Fault → (A → Result B Fault) → Result B Fault
(Ok x) >>= f = f x
(Err e) >>= f = Err e

abbrev pub fault : {A : Type 0} → ℕ → Kind → Result A Fault
fault at kind = Err (record { at = at; kind = kind })

-- the next token; `Ended` at the text's length where there is none
unfoldable pub word_next : Left → Read Word
word_next l = from l.words where
  from : List Word → Read Word
  from [] = fault (length l.bytes) Ended
  from (word ∷ words) = Ok (word, record { bytes = l.bytes; words = words })

-- this very keyword; its place
unfoldable pub keyword_next : List ℕ → Left → Read ℕ
keyword_next keyword l = do
  word ← word_next l
  if bytes_eq word.0.text keyword then Ok (word.0.at, word.1) else fault word.0.at WrongWord

-- the next token is this keyword
abbrev pub begins : List ℕ → Left → Bool
begins keyword l = is_first l.words where
  is_first : List Word → Bool
  is_first [] = false
  is_first (word ∷ words) = bytes_eq word.text keyword

-- a name
unfoldable pub name_next : Left → Read Word
name_next l = do
  word ← word_next l
  if is_name word.0.text then Ok word else fault word.0.at Name

-- a number: `Number` where the token is none or above 2^30, `Range` below the least, and a kind of
-- the caller's above the greatest
unfoldable pub number_next : ℕ → ℕ → Kind → Left → Read ℕ
number_next least most above l = do
  word ← word_next l
  if is_digits word.0.text && nat_le (value_of word.0.text) (2 ^ 30)
      then (if nat_lt (value_of word.0.text) least then fault word.0.at Range
      else (if nat_lt most (value_of word.0.text) then fault word.0.at above
      else Ok (value_of word.0.text, word.1)))
      else fault word.0.at Number

-- nothing is left; else `Trailing` at the next token
unfoldable pub end_next : Left → Result Left Fault
end_next l = at_end l.words where
  at_end : List Word → Result Left Fault
  at_end [] = Ok l
  at_end (word ∷ words) = fault word.at Trailing

-- so many items, each read after those before it, which it is told
unfoldable pub many_next : {A : Type 0} → (List A → Left → Read A) → ℕ → List A → Left
    → Read (List A)
many_next item zero before l = Ok (before, l)
many_next item (suc n) before l = do
  first ← item before l
  many_next item n (before ++ first.0 ∷ []) first.1

-- What a function of the program returned, seen by `view`, with the tokens that it left, is what
-- reading gives, unless memory ran out. After a fault nothing is said of the tokens.
abbrev pub GivesFault : {Y : Type 0} → TextFault → Result Y Fault → Type 0
GivesFault Memory read = Unit {0}
GivesFault (Wrong at kind) read = read ≡ fault at kind

abbrev pub Gives : {X Y : Type 0} → (X → Y) → Result X TextFault → Left → Read Y → Type 0
Gives view (Ok x) left read = read ≡ Ok (view x, left)
Gives view (Err e) left read = GivesFault e read

-- the same for a reader that answers no value
abbrev pub Ends : {X : Type 0} → Result X TextFault → Left → Result Left Fault → Type 0
Ends (Ok x) left read = read ≡ Ok left
Ends (Err e) left read = GivesFault e read
