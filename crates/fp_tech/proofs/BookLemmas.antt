-- A kept book and its value.
use Rattle.std.proofs.Common.{◌≡◌, ◌==◌, ℕ, zero, suc, ◌<◌, ◌≤◌, ◌^◌, Bool, true, false, List, [], ◌∷◌, length, map, Some, is_some, IsTrue, get_or, refl, sym, ap, subst, arith}
use Rattle.std.specs.Prelude.{slice_get, find, unwrap_or}
use Rattle.std.specs.Option.{option_map}
use Rattle.std.proofs.lemmas.List.Sums.{sum_by-le}
use Rattle.std.proofs.lemmas.List.Elements.{All-nil}
use Rattle.std.specs.List.{IsDistinct}
use Rattle.std.specs.Str.{bytes_eq}
use Rattle.fp_tech.specs.Book.{Lib, Tech, Book, tech_names, libs_of, lib_in, pins_in, has, IsTech, IsBook}
use Rattle.fp_tech.specs.KeptBook.{techs_of, book_of, IsKeptBook}

pub length-techs_of : (names : List (List ℕ)) (libraries : List (List Lib)) → length names ≡ length libraries → length (techs_of names libraries) ≡ length libraries
length-techs_of [] [] h = refl
length-techs_of [] (l ∷ ls) h = cc
length-techs_of (n ∷ ns) [] h = refl
length-techs_of (n ∷ ns) (l ∷ ls) h = ap suc (length-techs_of ns ls (omega arith))

pub names-techs_of : (names : List (List ℕ)) (libraries : List (List Lib)) → length names ≡ length libraries → map (λ tech. tech.name) (techs_of names libraries) ≡ names
names-techs_of [] ls h = refl
names-techs_of (n ∷ ns) [] h = absurd (omega (arith, h))
names-techs_of (n ∷ ns) (l ∷ ls) h = ap (λ rest. n ∷ rest) (names-techs_of ns ls (omega arith))

pub libs-techs_of : (names : List (List ℕ)) (libraries : List (List Lib)) (t : ℕ) (d : List Lib) → length names ≡ length libraries → t < length libraries
    → get_or libraries t d ≡ unwrap_or (option_map (λ tech. tech.libs) (slice_get (techs_of names libraries) t)) []
libs-techs_of [] [] t d h below = absurd (omega arith)
libs-techs_of [] (l ∷ ls) t d h below = absurd (omega (arith, h))
libs-techs_of (n ∷ ns) [] t d h below = absurd (omega arith)
libs-techs_of (n ∷ ns) (l ∷ ls) zero d h below = refl
libs-techs_of (n ∷ ns) (l ∷ ls) (suc t) d h below = libs-techs_of ns ls t d (omega arith) (omega arith)

-- there are at most 2^16 names
pub names_few : (book : Book) → IsBook book → length book.names ≤ 2 ^ 16
names_few book is =
    omega (arith, is.names_used, is.few_techs, sum_by-le (λ tech. length tech.libs) 4096 book.techs (λ k d below. (is.techs k d below).few_libs))

-- what the kept lists are of their value
pub record IsSeen (names techs : List (List ℕ)) (libraries : List (List Lib)) (book : Book) : Type 0 where
  pub names_are : names ≡ book.names
  pub few_names : length names ≤ 2 ^ 16
  pub techs_are : techs ≡ tech_names book
  pub as_many : length techs ≡ length libraries
  pub many : length libraries ≡ length book.techs
  pub few : length libraries ≤ 16
  pub at : (t : ℕ) (d : List Lib) → t < length libraries → get_or libraries t d ≡ libs_of book t
  pub is_book : IsBook book

pub seen : (names techs : List (List ℕ)) (libraries : List (List Lib)) (book : Book) → IsKeptBook names techs libraries → book_of names techs libraries ≡ book
    → IsSeen names techs libraries book
unfolding libs_of
seen names techs libraries book kept view = subst (IsSeen names techs libraries) view (record {
  names_are = refl;
  few_names = names_few (book_of names techs libraries) kept.is_book;
  techs_are = sym (names-techs_of techs libraries kept.as_many);
  as_many = kept.as_many;
  many = sym (length-techs_of techs libraries kept.as_many);
  few = omega (arith, kept.is_book.few_techs, length-techs_of techs libraries kept.as_many);
  at = λ t d below. libs-techs_of techs libraries t d kept.as_many below;
  is_book = kept.is_book;
})

in_range : (id : ℕ) (techs : List Tech) (t : ℕ) → IsTrue (is_some (find (λ (lib : Lib). lib.id == id) (unwrap_or (option_map (λ tech. tech.libs) (slice_get techs t)) [])))
    → t < length techs
in_range id [] t some = absurd (let no : false ≡ true = some in cc)
in_range id (x ∷ xs) zero some = omega arith
in_range id (x ∷ xs) (suc t) some = let behind : t < length xs = in_range id xs t some in omega arith

pub distinct-nil : {K : Type 0} (eq : K → K → Bool) → IsDistinct eq []
unfolding IsDistinct
distinct-nil eq = tt

-- a technology that has a library cell is there
pub has_in_range : (book : Book) (tech id : ℕ) → IsTrue (has book tech id) → tech < length book.techs
unfolding libs_of lib_in
has_in_range book tech id there = in_range id book.techs tech there

-- the empty lists are kept
pub nothing_kept : (names techs : List (List ℕ)) (libraries : List (List Lib)) → names ≡ [] → techs ≡ [] → libraries ≡ [] → IsKeptBook names techs libraries
nothing_kept names techs libraries no_names no_techs no_libraries =
    subst (λ n. IsKeptBook n techs libraries) (sym no_names)
    (subst (λ t. IsKeptBook [] t libraries) (sym no_techs) (subst (λ l. IsKeptBook [] [] l) (sym no_libraries) nothing))
  where
    nothing : IsKeptBook [] [] []
    nothing = record {
      as_many = refl;
      is_book = record {
        few_techs = omega arith;
        techs_apart = distinct-nil bytes_eq;
        names_apart = distinct-nil bytes_eq;
        names_used = omega arith;
        techs = All-nil (IsTech 0);
      };
    }

-- the pins of a technology's library cell are those of the cell that is found
pub pins_are : (book : Book) (t id : ℕ) (l : Lib) → lib_in book t id ≡ Some l → pins_in book t id ≡ l.pins
pins_are book t id l found = ap (λ o. unwrap_or (option_map (λ (lib : Lib). lib.pins) o) []) found
