-- Numbers and names as they are written: what is read of them, and that they are words.
use Rattle.std.specs.Prelude.{◌≡◌, ℕ, suc, ◌+◌, ◌-◌, ◌*◌, ◌/◌, ◌%◌, ◌^◌, ◌<◌, ◌≤◌, Bool, true, false, List, [], ◌∷◌, ◌++◌, not, nat_lt, ◌&&◌, length, decimal, nat_le, Result, Ok, ℤ, pos, negsuc, nat_abs}
use Rattle.std.specs.List.{list_all}
use Rattle.std.specs.Fmt.{signed_decimal}
use Rattle.std.proofs.Common.{refl, ap, ◌∙◌, arith, zero, eqb}
use Rattle.std.proofs.lemmas.Bool.{and_parts, and_from, not-true, leb-true, le-leb, lt-ltb, ltb-true, ne_eqb, or_from}
use Rattle.std.proofs.lemmas.List.{length-append}
use Rattle.std.proofs.lemmas.List.Folds.{list_all-append}
use Rattle.std.proofs.lemmas.Fmt.{decimal_by_steps}
use Rattle.fp_text.specs.Words.{is_blank}
use Rattle.fp_text.specs.WordsLaws.{AllAre}
use Rattle.fp_text.specs.Numbers.{is_digit, is_digits, value_from, value_of, is_name_byte, is_name, number_of, above_zero, below_zero, signed_of, Spells}
use Rattle.fp_text.specs.declared.numbers.NumberFault.{NumberFault}

-- a byte above the space is no blank
pub no_blank-above : (byte : ℕ) → 33 ≤ byte → is_blank byte ≡ false
no_blank-above byte above =
    or_from _ _
    (or_from _ _
    (or_from _ _ (ne_eqb byte 32 (λ e. omega arith)) (ne_eqb byte 9 (λ e. omega arith)))
    (ne_eqb byte 13 (λ e. omega arith))) (ne_eqb byte 10 (λ e. omega arith))

-- bytes that pass a test which no blank passes
all-no_blank : (test : ℕ → Bool) → ((byte : ℕ) → test byte ≡ true → is_blank byte ≡ false)
    → (bytes : List ℕ) → list_all test bytes ≡ true → AllAre false bytes
all-no_blank test one [] all i lt = absurd (omega arith)
all-no_blank test one (byte ∷ bytes) all zero lt =
    one byte (and_parts (test byte) (list_all test bytes) all).0
all-no_blank test one (byte ∷ bytes) all (suc i) lt =
    all-no_blank test one bytes (and_parts (test byte) (list_all test bytes) all).1 i (omega arith)

-- a text that is one word wherever blanks or the ends surround it
pub record IsSolid (text : List ℕ) : Type 0 where
  pub some : 0 < length text
  pub no_blank : AllAre false text

-- the same as a test, for a text that is written out, as a keyword is
abbrev pub is_solid : List ℕ → Bool
is_solid text = nat_lt 0 (length text) && list_all (λ byte. not (is_blank byte)) text

pub solid-tested : (text : List ℕ) → is_solid text ≡ true → IsSolid text
solid-tested text tested =
    let parts = and_parts _ (list_all (λ byte. not (is_blank byte)) text) tested in
    record {
      some = ltb-true 0 (length text) parts.0;
      no_blank =
          all-no_blank (λ byte. not (is_blank byte))
          (λ byte h. not-true (is_blank byte) h) text parts.1;
    }

-- digits, and names, are words
pub digits-solid : (text : List ℕ) → is_digits text ≡ true → IsSolid text
digits-solid text digits =
    let parts = and_parts _ (list_all is_digit text) digits in
    record {
      some = ltb-true 0 (length text) parts.0;
      no_blank =
          all-no_blank is_digit
          (λ byte digit. no_blank-above byte
          (let le : 48 ≤ byte = leb-true 48 byte (and_parts _ _ digit).0 in
          omega arith)) text parts.1;
    }

pub name-solid : (text : List ℕ) → is_name text ≡ true → IsSolid text
name-solid text name =
    let parts = and_parts _ _ name in
    let more = and_parts _ (list_all is_name_byte text) parts.1 in
    record {
      some = ltb-true 0 (length text) parts.0;
      no_blank =
          all-no_blank is_name_byte
          (λ byte printed. no_blank-above byte
          (leb-true 33 byte (and_parts _ _ printed).0)) text more.1;
    }

-- one more digit at the end
value-push : (digits : List ℕ) (n digit : ℕ)
    → value_from n (digits ++ digit ∷ []) ≡ 10 * value_from n digits + (digit - 48)
unfolding value_from
value-push [] n digit = refl
value-push (first ∷ digits) n digit = value-push digits (10 * n + (first - 48)) digit

-- these digits spell the number
record Writes (n : ℕ) (text : List ℕ) : Type 0 where
  some : 0 < length text
  digits : list_all is_digit text ≡ true
  value : value_of text ≡ n

digit_is : (n : ℕ) → n < 10 → list_all is_digit ((48 + n) ∷ []) ≡ true
digit_is n lt =
    and_from _ _
    (and_from _ _ (le-leb 48 (48 + n) (omega arith)) (le-leb (48 + n) 57 (omega arith))) refl

writes-one : (n : ℕ) → n < 10 → Writes n ((48 + n) ∷ [])
unfolding value_from
writes-one n lt = record { some = omega arith; digits = digit_is n lt; value = omega arith }

writes-more : (n : ℕ) (text : List ℕ) → 10 ≤ n → Writes (n / 10) text
    → Writes n (text ++ ((48 + n % 10) ∷ []))
writes-more n text le so_far = record {
  some = omega (arith, length-append text ((48 + n % 10) ∷ []));
  digits = list_all-append is_digit text ((48 + n % 10) ∷ [])
      ∙ and_from _ _ so_far.digits (digit_is (n % 10) (omega arith));
  value = let before : value_of text ≡ n / 10 = so_far.value in value-push text 0 (48 + n % 10)
      ∙ (omega arith);
}

writes : (n : ℕ) → n < 2 ^ 64 → Writes n (decimal n)
writes n lt = decimal_by_steps Writes writes-one writes-more n lt

-- plain decimal is digits, and stands for its number
pub decimal-digits : (n : ℕ) → n < 2 ^ 64 → is_digits (decimal n) ≡ true
decimal-digits n lt = let w = writes n lt in
    and_from _ _ (lt-ltb 0 (length (decimal n)) w.some) w.digits

pub decimal-value : (n : ℕ) → n < 2 ^ 64 → value_of (decimal n) ≡ n
decimal-value n lt = (writes n lt).value

pub decimal-spells : (least most n : ℕ) → least ≤ n → n ≤ most → n < 2 ^ 64
    → Spells least most (decimal n) n
decimal-spells least most n at_least at_most lt =
    record {
      digits = decimal-digits n lt;
      value = decimal-value n lt;
      at_least = at_least;
      at_most = at_most;
    }

pub decimal-solid : (n : ℕ) → n < 2 ^ 64 → IsSolid (decimal n)
decimal-solid n lt = digits-solid (decimal n) (decimal-digits n lt)

abbrev read : ℕ → Result ℕ NumberFault
read n = Ok n

-- what is written in plain decimal is read again
pub number-decimal : (most n : ℕ) → n ≤ most → n < 2 ^ 64 → number_of most (decimal n) ≡ Ok n
number-decimal most n small lt =
    let digits : is_digits (decimal n) ≡ true = decimal-digits n lt in
    let value : value_of (decimal n) ≡ n = decimal-value n lt in
    let fits : nat_le (value_of (decimal n)) most ≡ true =
    le-leb (value_of (decimal n)) most (omega arith) in
    rw (digits, fits) (ap (λ v. read v) value)

-- digits have no sign in front
signed_of-digits : (most : ℕ) (text : List ℕ) → is_digits text ≡ true
    → signed_of most text ≡ above_zero (number_of most text)
signed_of-digits most [] digits = absurd cc
signed_of-digits most (byte ∷ text) digits =
    let parts = and_parts _ (list_all is_digit (byte ∷ text)) digits in
    let low : 48 ≤ byte =
    leb-true 48 byte
    (and_parts _ _ (and_parts (is_digit byte) (list_all is_digit text) parts.1).0).0 in
    let other : eqb byte 45 ≡ false = ne_eqb byte 45 (λ e. omega arith) in
    rw other refl

-- a signed number in plain decimal is read again
pub signed-decimal : (most : ℕ) (z : ℤ) → nat_abs z ≤ most → nat_abs z < 2 ^ 64
    → signed_of most (signed_decimal z) ≡ Ok z
signed-decimal most (pos n) small lt =
    signed_of-digits most (decimal n) (decimal-digits n lt)
    ∙ ap above_zero (number-decimal most n small lt)
signed-decimal most (negsuc n) small lt = ap below_zero (number-decimal most (suc n) small lt)
