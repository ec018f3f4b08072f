-- Things that are made one after the other: how many there are, what holds of each, and that their names are names and new.
use Rattle.std.proofs.Common.{◌≡◌, ◌≢◌, ℕ, zero, suc, ◌+◌, ◌<◌, ◌≤◌, ◌^◌, true, false, List, [], ◌∷◌, ◌++◌, length, map, decimal, Option, Some, None, refl, sym, ap, subst, ◌∙◌, append_assoc, arith, inl, inr}
use Rattle.std.specs.Prelude.{All, ◌&&◌, is_some, option_map, nat_le, nat_lt}
use Rattle.std.specs.List.{range_with_len, list_all}
use Rattle.std.specs.Str.{bytes_eq}
use Rattle.std.proofs.lemmas.Bool.{cases_Bool, and_parts, and_from, le-leb, lt-ltb, leb-true}
use Rattle.std.proofs.lemmas.Fmt.{decimal_injective, length-decimal-le}
use Rattle.std.proofs.lemmas.List.{append-nil, length-append, map-append}
use Rattle.std.proofs.lemmas.List.Elements.{All-push}
use Rattle.std.proofs.lemmas.List.FromFn.{map-range_with_len_more}
use Rattle.std.proofs.lemmas.Slice.Eq.{bytes_eq-Decides}
use Rattle.fp_text.specs.Numbers.{is_digit, is_name_byte, is_name}
use Rattle.fp_text.specs.NumbersLaws.{decimal-digits}
use Rattle.fp_tech.specs.Book.{place_of, is_among}
use Rattle.fp_contest_in.specs.Printable.{EachIs}
use Rattle.rand_pcg.specs.Lcg.{Lcg}
use Rattle.fp_gen.specs.MakeText.{made_first, numbered}

-- ---- each of the things

-- as many are made as are asked for
pub made_count : {A : Type 0} (make : ℕ → Lcg → A × Lcg) (n : ℕ) (words : Lcg) → length (made_first make n words).0 ≡ n
unfolding made_first
made_count make zero words = refl
made_count make (suc n) words =
    omega (arith, made_count make n words, length-append (made_first make n words).0 ((make n (made_first make n words).1).0 ∷ []))

-- what holds of each thing, whatever its words are, holds of all that are made
pub made_all : {A : Type 0} (P : A → Type 0) (make : ℕ → Lcg → A × Lcg) (n : ℕ) (words : Lcg) → ((k : ℕ) (left : Lcg) → k < n → P (make k left).0)
    → All P (made_first make n words).0
unfolding made_first
made_all P make zero words each = λ k d below. absurd (omega (arith, below))
made_all P make (suc n) words each =
    All-push P (made_first make n words).0 (make n (made_first make n words).1).0
    (made_all P make n words (λ k left below. each k left (omega (arith, below))))
    (each n (made_first make n words).1 (omega arith))

each_push : {A : Type 0} (is : List A → A → Type 0) (before xs : List A) (x : A) → EachIs is before xs → is (before ++ xs) x → EachIs is before (xs ++ x ∷ [])
each_push is before [] x each one = (subst (λ list. is list x) (append-nil before) one, tt)
each_push is before (y ∷ ys) x each one =
    (each.0, each_push is (before ++ y ∷ []) ys x each.1 (subst (λ list. is list x) (sym (append_assoc before (y ∷ []) ys)) one))

-- each of the things that are made passes behind those before it
pub each_made : {A : Type 0} (is : List A → A → Type 0) (make : ℕ → Lcg → A × Lcg) (n : ℕ) (words : Lcg)
    → ((k : ℕ) → k < n → is (made_first make k words).0 (make k (made_first make k words).1).0) → EachIs is [] (made_first make n words).0
unfolding made_first
each_made is make zero words each = tt
each_made is make (suc n) words each =
    each_push is [] (made_first make n words).0 (make n (made_first make n words).1).0 (each_made is make n words (λ k below. each k (omega (arith, below)))) (each n (omega arith))

-- ---- names

-- things that are named by their numbers have the names of the numbers from 0
pub names_made : {A : Type 0} (name : A → List ℕ) (letter : List ℕ) (make : ℕ → Lcg → A × Lcg) → ((k : ℕ) (left : Lcg) → name (make k left).0 ≡ numbered letter k)
    → (n : ℕ) (words : Lcg) → map name (made_first make n words).0 ≡ map (numbered letter) (range_with_len 0 n)
unfolding made_first
names_made name letter make each zero words = refl
names_made {A} name letter make each (suc n) words =
    let next : n + 1 ≡ suc n = omega arith in
    map-append name (made_first make n words).0 ((make n (made_first make n words).1).0 ∷ [])
    ∙ ap (λ (list : List (List ℕ)). list ++ name (make n (made_first make n words).1).0 ∷ []) (names_made name letter make each n words)
    ∙ ap (λ (last : List ℕ). map (numbered letter) (range_with_len 0 n) ++ last ∷ []) (each n (made_first make n words).1)
    ∙ sym (map-range_with_len_more (numbered letter) 0 n n (omega arith))
    ∙ ap (λ (count : ℕ). map (numbered letter) (range_with_len 0 count)) next

digits_same : (byte : ℕ) (a b : List ℕ) → byte ∷ a ≡ byte ∷ b → a ≡ b
digits_same byte a b e = cc

-- two numbers of one letter have two names
differ : (byte j k : ℕ) → j < 2 ^ 64 → k < 2 ^ 64 → j ≢ k → bytes_eq (numbered (byte ∷ []) j) (numbered (byte ∷ []) k) ≡ false
differ byte j k small below other = elim (cases_Bool (bytes_eq (numbered (byte ∷ []) j) (numbered (byte ∷ []) k))) [
  | inl same ↦ absurd (other (decimal_injective j k small below (digits_same byte (decimal j) (decimal k) ((bytes_eq-Decides (numbered (byte ∷ []) j) (numbered (byte ∷ []) k)).0 same))))
  | inr not ↦ not
]

some_same : {A B : Type 0} (change : A → B) (o : Option A) → is_some (option_map change o) ≡ is_some o
some_same change None = refl
some_same change (Some a) = refl

among_next : (name first : List ℕ) (others : List (List ℕ)) → bytes_eq first name ≡ false → is_among name (first ∷ others) ≡ is_among name others
unfolding place_of
among_next name first others other = rw other (some_same (λ (k : ℕ). k + 1) (place_of name others))

among_none : (name : List ℕ) → is_among name [] ≡ false
unfolding place_of
among_none name = refl

-- the name of a number is none of those of numbers below it
not_below : (byte k from n : ℕ) → from + n ≤ k → k < 2 ^ 64 → is_among (numbered (byte ∷ []) k) (map (numbered (byte ∷ [])) (range_with_len from n)) ≡ false
not_below byte k from zero below small = among_none (numbered (byte ∷ []) k)
not_below byte k from (suc n) below small =
    among_next (numbered (byte ∷ []) k) (numbered (byte ∷ []) from) (map (numbered (byte ∷ [])) (range_with_len (from + 1) n))
    (differ byte from k (omega (arith, below, small)) small (λ same. absurd (omega (arith, same, below))))
    ∙ not_below byte k (from + 1) n (omega (arith, below)) small

-- the name of the next thing is new
pub new_name : {A : Type 0} (name : A → List ℕ) (byte : ℕ) (make : ℕ → Lcg → A × Lcg) → ((k : ℕ) (left : Lcg) → name (make k left).0 ≡ numbered (byte ∷ []) k)
    → (n : ℕ) (words : Lcg) → n < 2 ^ 64 → is_among (numbered (byte ∷ []) n) (map name (made_first make n words).0) ≡ false
new_name name byte make each n words small =
    ap (λ (names : List (List ℕ)). is_among (numbered (byte ∷ []) n) names) (names_made name (byte ∷ []) make each n words) ∙ not_below byte n 0 n (omega arith) small

-- ---- names are names

digit_named : (byte : ℕ) → is_digit byte ≡ true → is_name_byte byte ≡ true
digit_named byte is =
    let parts = and_parts (nat_le 48 byte) (nat_le byte 57) is in
    and_from (nat_le 33 byte) (nat_le byte 126) (le-leb 33 byte (omega (arith, leb-true 48 byte parts.0))) (le-leb byte 126 (omega (arith, leb-true byte 57 parts.1)))

digits_named : (bytes : List ℕ) → list_all is_digit bytes ≡ true → list_all is_name_byte bytes ≡ true
digits_named [] is = refl
digits_named (byte ∷ bytes) is =
    let parts = and_parts (is_digit byte) (list_all is_digit bytes) is in
    and_from (is_name_byte byte) (list_all is_name_byte bytes) (digit_named byte parts.0) (digits_named bytes parts.1)

-- a letter and a number are a name
pub numbered_name : (byte n : ℕ) → is_name_byte byte ≡ true → n < 10 ^ 7 → is_name (numbered (byte ∷ []) n) ≡ true
numbered_name byte n letter small =
    let digits = (and_parts (nat_lt 0 (length (decimal n))) (list_all is_digit (decimal n)) (decimal-digits n (omega (arith, small)))).1 in
    let short : length (decimal n) ≤ 7 = length-decimal-le 7 n (omega arith) small (omega (arith, small)) in
    and_from (nat_lt 0 (suc (length (decimal n)))) (nat_le (suc (length (decimal n))) 255 && list_all is_name_byte (byte ∷ decimal n)) (lt-ltb 0 (suc (length (decimal n))) (omega arith))
    (and_from (nat_le (suc (length (decimal n))) 255) (list_all is_name_byte (byte ∷ decimal n)) (le-leb (suc (length (decimal n))) 255 (omega (arith, short)))
    (and_from (is_name_byte byte) (list_all is_name_byte (decimal n)) letter (digits_named (decimal n) digits)))
