-- Laws of the names of a technology's library cells.
use Rattle.std.specs.Prelude.{◌≡◌, ◌≢◌, ◌==◌, ℕ, ◌+◌, ◌<◌, Bool, true, false, cond, ◌||◌, List, [], ◌∷◌, ◌++◌, length, map, Option, Some, None, is_some, option_map, option_and_then, unwrap_or, nat_eq, find, All, if◌then◌else◌}
use Rattle.std.proofs.Common.{zero, suc, refl, sym, ap, subst, ◌∙◌, arith}
use Rattle.std.specs.Str.{bytes_eq}
use Rattle.std.specs.List.{IsDistinct, AllByRecursion}
use Rattle.std.specs.Cmp.Lexicographic.{same_text}
use Rattle.std.proofs.lemmas.Cmp.{nat_list_eq_equiv}
use Rattle.std.proofs.lemmas.List.{map-append}
use Rattle.std.proofs.lemmas.List.Elements.{All-head, All-tail}
use Rattle.std.proofs.lemmas.Map.Keys.{IsDistinct-head, IsDistinct-tail}
use Rattle.std.proofs.lemmas.Bool.Decides.{nat_tests}
use Rattle.fp_tech.specs.Book.{Pin, Lib, Book, place_of, is_among, name_at, lib_names, libs_of, lib_in, has_name, id_for, with_name, with_tech, with_lib, with_pin, more_pins, IsLib, IsBook}
use Rattle.fp_tech.specs.BookLaws.{libs_within, libs_at, libs_of-with_tech_new, libs_of-with_tech_old, libs_of-with_lib, libs_of-with_lib_other, libs_of-with_pin, libs_of-with_pin_other, slice_get-last, slice_get-front}

-- a place that was found is this one
is_place : Option ℕ → ℕ → Bool
is_place None k = false
is_place (Some p) k = nat_eq k p

not_first : (q : ℕ) → nat_eq 0 (q + 1) ≡ false
not_first q = grind (arith, nat_tests)

not_zero : (k : ℕ) → nat_eq (suc k) 0 ≡ false
not_zero k = grind (arith, nat_tests)

one_later : (k q : ℕ) → nat_eq (suc k) (q + 1) ≡ nat_eq k q
one_later k q = grind (arith, nat_tests)

head_apart : (x : List ℕ) (xs : List (List ℕ)) → AllByRecursion (λ y. bytes_eq x y ≡ false) xs → (k : ℕ) → k < length xs → bytes_eq x (name_at xs k) ≡ false
head_apart x [] all k below = absurd (omega arith)
head_apart x (y ∷ ys) all zero below = all.0
head_apart x (y ∷ ys) all (suc k) below = head_apart x ys all.1 k (omega arith)

at_first : (b : Bool) (rest : Option ℕ) → b ≡ is_place (if b then Some 0 else option_map (λ k. k + 1) rest) 0
unfolding is_place
at_first true rest = refl
at_first false None = refl
at_first false (Some q) = sym (not_first q)

at_later : (b : Bool) (k : ℕ) (rest : Option ℕ) → is_place (if b then Some 0 else option_map (λ k. k + 1) rest) (suc k) ≡ cond b false (is_place rest k)
unfolding is_place
at_later true k rest = not_zero k
at_later false k None = refl
at_later false k (Some q) = one_later k q

-- of distinct names the one that is equal to a name is the one at its place
is_named : (names : List (List ℕ)) (name : List ℕ) → IsDistinct bytes_eq names → (k : ℕ) → k < length names → bytes_eq (name_at names k) name ≡ is_place (place_of name names) k
unfolding place_of
is_named [] name apart k below = absurd (omega arith)
is_named (x ∷ xs) name apart zero below = at_first (bytes_eq x name) (place_of name xs)
is_named (x ∷ xs) name apart (suc k) below =
    later (bytes_eq x name) refl (is_named xs name (IsDistinct-tail bytes_eq x xs apart) k (omega arith))
    ∙ sym (at_later (bytes_eq x name) k (place_of name xs))
  where
    within : k < length xs
    within = omega arith

    later : (b : Bool) → bytes_eq x name ≡ b → bytes_eq (name_at xs k) name ≡ is_place (place_of name xs) k → bytes_eq (name_at xs k) name ≡ cond b false (is_place (place_of name xs) k)
    later true e here =
        nat_list_eq_equiv.symm (name_at xs k) name ∙ sym (nat_list_eq_equiv.congr x name (name_at xs k) e)
        ∙ head_apart x xs (IsDistinct-head bytes_eq x xs apart) k within
    later false e here = here

found_or : (b : Bool) (x : Lib) (rest : Option Lib) → is_some (cond b (Some x) rest) ≡ (b || is_some rest)
found_or true x rest = refl
found_or false x rest = refl

found_by : (x : Lib) (xs : List Lib) (o : Option ℕ) → is_some (option_and_then (λ p. find (λ lib. lib.id == p) (x ∷ xs)) o) ≡ (is_place o x.id || is_some (option_and_then (λ p. find (λ lib. lib.id == p) xs) o))
unfolding is_place
found_by x xs None = refl
found_by x xs (Some p) = found_or (nat_eq x.id p) x (find (λ lib. lib.id == p) xs)

place_or : (b : Bool) (rest : Option ℕ) → (b || is_some rest) ≡ is_some (if b then Some 0 else option_map (λ k. k + 1) rest)
place_or true rest = refl
place_or false None = refl
place_or false (Some k) = refl

nothing_there : (o : Option ℕ) → is_some (option_and_then (λ p. find (λ (lib : Lib). lib.id == p) []) o) ≡ false
nothing_there None = refl
nothing_there (Some p) = refl

among : (names : List (List ℕ)) (name : List ℕ) → IsDistinct bytes_eq names → (libs : List Lib) → All (IsLib (length names)) libs
    → is_some (option_and_then (λ p. find (λ lib. lib.id == p) libs) (place_of name names)) ≡ is_some (place_of name (map (λ lib. name_at names lib.id) libs))
unfolding place_of
among names name apart [] all = nothing_there (place_of name names)
among names name apart (x ∷ xs) all =
    found_by x xs (place_of name names)
    ∙ ap (λ b. b || is_some (option_and_then (λ p. find (λ (lib : Lib). lib.id == p) xs) (place_of name names)))
    (sym (is_named names name apart x.id (All-head (IsLib (length names)) x xs all).named))
    ∙ ap (λ b. bytes_eq (name_at names x.id) name || b) (among names name apart xs (All-tail (IsLib (length names)) x xs all))
    ∙ place_or (bytes_eq (name_at names x.id) name) (place_of name (map (λ (lib : Lib). name_at names lib.id) xs))

libs_named : (book : Book) (t : ℕ) → IsBook book → t < length book.techs → All (IsLib (length book.names)) (libs_of book t)
libs_named book t is below =
    let tech = libs_within book t is below in subst (All (IsLib (length book.names))) (sym (libs_at book t tech.0 tech.1)) tech.2.libs

-- a technology has a name exactly where it is among the names of its library cells
pub has_name-lib_names : (book : Book) (t : ℕ) (name : List ℕ) → IsBook book → t < length book.techs → has_name book t name ≡ is_among name (lib_names book t)
unfolding lib_in
has_name-lib_names book t name is below = among book.names name is.names_apart (libs_of book t) (libs_named book t is below)

place_at : (b : Bool) (x name : List ℕ) (xs : List (List ℕ)) (p : ℕ) (o : Option ℕ) → bytes_eq x name ≡ b → (if b then Some 0 else option_map (λ k. k + 1) o) ≡ Some p
    → ((q : ℕ) → o ≡ Some q → name_at xs q ≡ name) → name_at (x ∷ xs) p ≡ name
place_at true x name xs p o e found rest = let first : 0 ≡ p = cc in ap (name_at (x ∷ xs)) (sym first) ∙ same_text x name (sym e)
place_at false x name xs p None e found rest = absurd (let no : None ≡ Some p = found in cc)
place_at false x name xs p (Some q) e found rest =
    let next : q + 1 ≡ p = cc in let later : p ≡ suc q = omega arith in ap (name_at (x ∷ xs)) later ∙ rest q refl

-- the name at a name's place is that name
pub name_at-place : (names : List (List ℕ)) (name : List ℕ) (p : ℕ) → place_of name names ≡ Some p → name_at names p ≡ name
unfolding place_of
name_at-place [] name p found = absurd (let no : None ≡ Some p = found in cc)
name_at-place (x ∷ xs) name p found = place_at (bytes_eq x name) x name xs p (place_of name xs) refl found (λ q at. name_at-place xs name q at)

name_at-old : (b : Bool) (names : List (List ℕ)) (name : List ℕ) (k : ℕ) → k < length names → name_at (if b then names else names ++ name ∷ []) k ≡ name_at names k
name_at-old true names name k below = refl
name_at-old false names name k below = ap (λ o. unwrap_or o []) (slice_get-front names name k below)

-- the new name stands at its number
pub name_at-with_name : (names : List (List ℕ)) (name : List ℕ) → name_at (with_name names name) (unwrap_or (place_of name names) (length names)) ≡ name
name_at-with_name names name = by (place_of name names) refl
  where
    by : (o : Option ℕ) → place_of name names ≡ o → name_at (if is_some o then names else names ++ name ∷ []) (unwrap_or o (length names)) ≡ name
    by None e = ap (λ o. unwrap_or o []) (slice_get-last names name)
    by (Some p) e = name_at-place names name p e

same_names : (names more : List (List ℕ)) (libs : List Lib) → All (IsLib (length names)) libs → ((k : ℕ) → k < length names → name_at more k ≡ name_at names k)
    → map (λ lib. name_at more lib.id) libs ≡ map (λ lib. name_at names lib.id) libs
same_names names more [] all same = refl
same_names names more (x ∷ xs) all same =
    ap (λ n. n ∷ map (λ (lib : Lib). name_at more lib.id) xs) (same x.id (All-head (IsLib (length names)) x xs all).named)
    ∙ ap (λ rest. name_at names x.id ∷ rest) (same_names names more xs (All-tail (IsLib (length names)) x xs all) same)

-- after a technology is added
pub lib_names-with_tech_new : (book : Book) (name : List ℕ) → lib_names (with_tech book name) (length book.techs) ≡ []
lib_names-with_tech_new book name = ap (map (λ (lib : Lib). name_at book.names lib.id)) (libs_of-with_tech_new book name)

pub lib_names-with_tech_old : (book : Book) (name : List ℕ) (t : ℕ) → t < length book.techs → lib_names (with_tech book name) t ≡ lib_names book t
lib_names-with_tech_old book name t below = ap (map (λ (lib : Lib). name_at book.names lib.id)) (libs_of-with_tech_old book name t below)

-- after a library cell is added
pub lib_names-with_lib : (book : Book) (t : ℕ) (name : List ℕ) (width height : ℕ) → IsBook book → t < length book.techs
    → lib_names (with_lib book t name width height) t ≡ lib_names book t ++ name ∷ []
lib_names-with_lib book t name width height is below =
    ap (map (λ (lib : Lib). name_at (with_name book.names name) lib.id)) (libs_of-with_lib book t name width height below)
    ∙ map-append (λ (lib : Lib). name_at (with_name book.names name) lib.id) (libs_of book t) (record { id = id_for book name; width = width; height = height; pins = [] } ∷ [])
    ∙ ap (λ front. front ++ name_at (with_name book.names name) (id_for book name) ∷ [])
    (same_names book.names (with_name book.names name) (libs_of book t) (libs_named book t is below) (λ k within. name_at-old (is_among name book.names) book.names name k within))
    ∙ ap (λ last. lib_names book t ++ last ∷ []) (name_at-with_name book.names name)

pub lib_names-with_lib_other : (book : Book) (t u : ℕ) (name : List ℕ) (width height : ℕ) → IsBook book → u < length book.techs → u ≢ t
    → lib_names (with_lib book t name width height) u ≡ lib_names book u
lib_names-with_lib_other book t u name width height is below other =
    ap (map (λ (lib : Lib). name_at (with_name book.names name) lib.id)) (libs_of-with_lib_other book t u name width height other)
    ∙ same_names book.names (with_name book.names name) (libs_of book u) (libs_named book u is below) (λ k within. name_at-old (is_among name book.names) book.names name k within)

ids_same : (names : List (List ℕ)) (id : ℕ) (pin : Pin) (libs : List Lib) → map (λ lib. name_at names lib.id) (map (more_pins id pin) libs) ≡ map (λ lib. name_at names lib.id) libs
ids_same names id pin [] = refl
ids_same names id pin (x ∷ xs) =
    ap (λ n. name_at names n ∷ map (λ (lib : Lib). name_at names lib.id) (map (more_pins id pin) xs)) (by (nat_eq x.id id))
    ∙ ap (λ rest. name_at names x.id ∷ rest) (ids_same names id pin xs)
  where
    by : (b : Bool) → (if b then record x { pins = x.pins ++ pin ∷ [] } else x).id ≡ x.id
    by true = refl
    by false = refl

-- after a pin is added
pub lib_names-with_pin : (book : Book) (t id : ℕ) (pin : Pin) → lib_names (with_pin book t id pin) t ≡ lib_names book t
lib_names-with_pin book t id pin =
    ap (map (λ (lib : Lib). name_at book.names lib.id)) (libs_of-with_pin book t id pin) ∙ ids_same book.names id pin (libs_of book t)

pub lib_names-with_pin_other : (book : Book) (t u id : ℕ) (pin : Pin) → u ≢ t → lib_names (with_pin book t id pin) u ≡ lib_names book u
lib_names-with_pin_other book t u id pin other = ap (map (λ (lib : Lib). name_at book.names lib.id)) (libs_of-with_pin_other book t u id pin other)
