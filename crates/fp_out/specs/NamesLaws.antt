-- The place of a name that is written in a file, among names that are distinct.
use Rattle.std.proofs.Common.{◌≡◌, ℕ, Bool, true, false, cond, List, Some, None, refl}
use Rattle.std.specs.Prelude.{slice_get}
use Rattle.std.specs.List.{IsDistinct}
use Rattle.std.specs.Str.{bytes_eq}
use Rattle.fp_tech.specs.Book.{place_of}
use Rattle.fp_tech.specs.PlacesLaws.{place_is, place_again}
use Rattle.fp_text.specs.Numbers.{is_name}
use Rattle.fp_out.specs.OutReading.{number_of}

pub number_ok : (names : List (List ℕ)) (name : List ℕ) (k : ℕ) → number_of names name ≡ Some k → (is_name name ≡ true) × (slice_get names k ≡ Some name)
number_ok names name k e = by (is_name name) e
  where
    by : (b : Bool) → cond b (place_of name names) None ≡ Some k → (b ≡ true) × (slice_get names k ≡ Some name)
    by true e = (refl, place_is name names k e)
    by false e = absurd cc

pub number_again : (names : List (List ℕ)) (name : List ℕ) (k : ℕ) → IsDistinct bytes_eq names → is_name name ≡ true → slice_get names k ≡ Some name → number_of names name ≡ Some k
number_again names name k apart named at = rw named (place_again name names k apart at)
