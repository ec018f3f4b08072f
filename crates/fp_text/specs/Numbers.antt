-- Numbers and names as tokens.
use Rattle.std.specs.Prelude.{◌≡◌, ℕ, ◌+◌, ◌-◌, ◌*◌, ◌≤◌, Bool, true, ◌&&◌, nat_le, nat_lt, ◌==◌, if◌then◌else◌, List, [], ◌∷◌, length, Result, Ok, Err, ℤ, pos, neg_ℤ}
use Rattle.std.specs.List.{list_all}
use Rattle.fp_text.specs.declared.numbers.NumberFault.{NumberFault}
use Rattle.fp_text.specs.declared.numbers.NumberFault.TheVariants.{NotDigits, TooLarge}

-- a byte from `0` to `9`
abbrev pub is_digit : ℕ → Bool
is_digit byte = nat_le 48 byte && nat_le byte 57

-- one or more digits
abbrev pub is_digits : List ℕ → Bool
is_digits token = nat_lt 0 (length token) && list_all is_digit token

-- the number that digits stand for; leading zeros change nothing
unfoldable pub value_from : ℕ → List ℕ → ℕ
value_from n [] = n
value_from n (byte ∷ bytes) = value_from (10 * n + (byte - 48)) bytes

abbrev pub value_of : List ℕ → ℕ
value_of token = value_from 0 token

-- a value that is at most `most`
abbrev pub at_most : ℕ → ℕ → Result ℕ NumberFault
at_most most value = if nat_le value most then Ok value else Err TooLarge

-- the number that a token stands for, at most `most`
abbrev pub number_of : ℕ → List ℕ → Result ℕ NumberFault
number_of most token = if is_digits token then at_most most (value_of token) else Err NotDigits

-- with a sign
abbrev pub above_zero : Result ℕ NumberFault → Result ℤ NumberFault
above_zero (Ok n) = Ok (pos n)
above_zero (Err e) = Err e

abbrev pub below_zero : Result ℕ NumberFault → Result ℤ NumberFault
below_zero (Ok n) = Ok (neg_ℤ (pos n))
below_zero (Err e) = Err e

-- the signed number that a token stands for: one `-` or none in front of a number of at most `most`
abbrev pub signed_of : ℕ → List ℕ → Result ℤ NumberFault
signed_of most [] = Err NotDigits
signed_of most (byte ∷ digits) =
    if byte == 45 then below_zero (number_of most digits) else above_zero
    (number_of most (byte ∷ digits))

-- a byte of a name: printed, and no blank
abbrev pub is_name_byte : ℕ → Bool
is_name_byte byte = nat_le 33 byte && nat_le byte 126

-- a name is 1 to 255 such bytes
abbrev pub is_name : List ℕ → Bool
is_name token =
    nat_lt 0 (length token) && (nat_le (length token) 255 && list_all is_name_byte token)

-- the token stands for this number, which lies in the range; every number is at most 2^30
pub record Spells (low high : ℕ) (token : List ℕ) (n : ℕ) : Type 0 where
  pub digits : is_digits token ≡ true
  pub value : value_of token ≡ n
  pub at_least : low ≤ n
  pub at_most : n ≤ high
