-- What adding makes of a book and of its kept lists, and that both stay within the limits.
use Rattle.std.proofs.Common.{◌≡◌, ◌==◌, ℕ, zero, suc, ◌+◌, ◌<◌, ◌≤◌, ◌^◌, Bool, true, false, ◌||◌, List, [], ◌∷◌, ◌++◌, length, map, take, Option, Some, None, is_some, IsTrue, if◌then◌else◌, get_or, refl, sym, ap, subst, ◌∙◌, arith, Result, Ok, Err}
use Rattle.std.specs.Prelude.{nat_eq, nat_le, slice_get, slice_set, find, unwrap_or, All, sum_by}
use Rattle.std.specs.List.{IsDistinct, list_any, position_or_len}
use Rattle.std.specs.Option.{option_map}
use Rattle.std.specs.Str.{bytes_eq}
use Rattle.std.proofs.lemmas.Cmp.{nat_eq_equiv}
use Rattle.std.proofs.lemmas.List.{map-append, length-append, length-map, length-set, set-get_or}
use Rattle.std.proofs.lemmas.List.Sums.{sum_by-append, sum_by-cons}
use Rattle.std.proofs.lemmas.List.Folds.{find_at}
use Rattle.std.proofs.lemmas.List.Elements.{All-nil, All-cons, All-head, All-tail, All-push, All-set}
use Rattle.std.proofs.lemmas.Option.{get_or_from_slice_get, slice_get_within}
use Rattle.std.proofs.lemmas.Bool.Decides.{nat_tests}
use Rattle.std.proofs.lemmas.Map.Keys.{IsDistinct-push}
use Rattle.std.proofs.Math.Seq.{take-append_seam, take-length}
use Rattle.fp_tech.specs.declared.fault.BuildFault.{BuildFault}
use Rattle.fp_tech.specs.declared.fault.BuildFault.TheVariants.{Twice, Unknown, Limit, Memory}
use Rattle.fp_tech.specs.Book.{Pin, Lib, Tech, Book, place_of, is_among, tech_names, pin_names, libs_of, lib_in, has, has_name, id_for, changed_at, with_name, with_tech, with_lib, with_pin, more_libs, more_pins, pins_added, refusal, pins_refusal, pin_refusal, Adds, IsLib, IsTech, IsBook}
use Rattle.fp_tech.specs.BookLaws.{place_within, length-changed_at, map-changed_at, libs_at, number_free, distinct_names}
use Rattle.fp_tech.specs.KeptBook.{techs_of, book_of, IsKeptBook, id_of, pins_at}
use Rattle.fp_tech.proofs.LibraryLemmas.{absent_at, touched, found_id}
use Rattle.fp_tech.proofs.BookLemmas.{distinct-nil, IsSeen, seen, has_in_range}

-- adding a technology
pub with_tech_is_book : (book : Book) (name : List ℕ) → IsBook book → length book.techs < 16 → place_of name (tech_names book) ≡ None → IsBook (with_tech book name)
with_tech_is_book book name is room new = record {
  few_techs = omega (arith, length-append book.techs (record { name = name; libs = [] } ∷ []));
  techs_apart = subst (IsDistinct bytes_eq) (sym (map-append (λ (t : Tech). t.name) book.techs (record { name = name; libs = [] } ∷ []))) (distinct_names (tech_names book) name is.techs_apart new);
  names_apart = is.names_apart;
  names_used = omega (arith, is.names_used, sum_by-append (λ (t : Tech). length t.libs) book.techs (record { name = name; libs = [] } ∷ []));
  techs = All-push (IsTech (length book.names)) book.techs (record { name = name; libs = [] }) is.techs (record {
    few_libs = omega arith;
    libs_apart = distinct-nil nat_eq;
    libs = All-nil (IsLib (length book.names));
  });
}

techs_of-push : (names : List (List ℕ)) (libraries : List (List Lib)) (name : List ℕ) → length names ≡ length libraries
    → techs_of (names ++ name ∷ []) (libraries ++ [] ∷ []) ≡ techs_of names libraries ++ record { name = name; libs = [] } ∷ []
techs_of-push [] [] name h = refl
techs_of-push [] (l ∷ ls) name h = absurd (omega (arith, h))
techs_of-push (n ∷ ns) [] name h = absurd (omega (arith, h))
techs_of-push (n ∷ ns) (l ∷ ls) name h = ap (λ rest. record { name = n; libs = l } ∷ rest) (techs_of-push ns ls name (omega arith))

-- kept lists are those of a value
pub record IsKeptAs (names techs : List (List ℕ)) (libraries : List (List Lib)) (book : Book) : Type 0 where
  pub kept : IsKeptBook names techs libraries
  pub view : book_of names techs libraries ≡ book

pub tech_added : (names techs : List (List ℕ)) (libraries : List (List Lib)) (book : Book) (name : List ℕ) (new_techs : List (List ℕ)) (new_libraries : List (List Lib))
    → IsKeptBook names techs libraries → book_of names techs libraries ≡ book → length book.techs < 16 → place_of name (tech_names book) ≡ None
    → new_techs ≡ techs ++ name ∷ [] → new_libraries ≡ libraries ++ [] ∷ [] → IsKeptAs names new_techs new_libraries (with_tech book name)
tech_added names techs libraries book name new_techs new_libraries kept view room new more_techs more_libraries =
    subst (λ ts. IsKeptAs names ts new_libraries (with_tech book name)) (sym more_techs)
    (subst (λ ls. IsKeptAs names (techs ++ name ∷ []) ls (with_tech book name)) (sym more_libraries) (record { kept = grown; view = as_added }))
  where
    s : IsSeen names techs libraries book
    s = seen names techs libraries book kept view

    as_added : book_of names (techs ++ name ∷ []) (libraries ++ [] ∷ []) ≡ with_tech book name
    as_added = ap (λ ts. record { names = names; techs = ts }) (techs_of-push techs libraries name kept.as_many) ∙ ap (λ b. with_tech b name) view

    grown : IsKeptBook names (techs ++ name ∷ []) (libraries ++ [] ∷ [])
    grown = record {
      as_many = omega (arith, kept.as_many, length-append techs (name ∷ []), length-append libraries ([] ∷ []));
      is_book = subst IsBook (sym as_added) (with_tech_is_book book name s.is_book room new);
    }

-- what was added is taken off again
pub taken_back : {A : Type 0} (old grown back : List A) (x : A) (n : ℕ) → grown ≡ old ++ x ∷ [] → n ≡ length old → back ≡ take n grown → back ≡ old
taken_back old grown back x n more many taken = taken ∙ ap (λ k. take k grown) many ∙ ap (take (length old)) more ∙ take-append_seam old (x ∷ [])

pub name_taken_back : (old grown back : List (List ℕ)) (name : List ℕ) (n : ℕ) → grown ≡ with_name old name → n ≡ length old → back ≡ take n grown → back ≡ old
name_taken_back old grown back name n more many taken = by (is_among name old) (taken ∙ ap (λ k. take k grown) many ∙ ap (take (length old)) more)
  where
    by : (b : Bool) → back ≡ take (length old) (if b then old else old ++ name ∷ []) → back ≡ old
    by true e = e ∙ take-length old
    by false e = e ∙ take-append_seam old (name ∷ [])

-- a change at one place of technologies and of kept lists
pub changed_kept : (change : Tech → Tech) (library : List Lib → List Lib) → ((name : List ℕ) (libs : List Lib) → change (record { name = name; libs = libs }) ≡ record { name = name; libs = library libs })
    → (names : List (List ℕ)) (libraries : List (List Lib)) (t : ℕ) (d : List Lib) → t < length libraries → length names ≡ length libraries
    → techs_of names (slice_set libraries t (library (get_or libraries t d))) ≡ changed_at t change (techs_of names libraries)
unfolding changed_at
changed_kept change library alike [] [] t d below h = absurd (omega arith)
changed_kept change library alike [] (l ∷ ls) t d below h = absurd (omega (arith, h))
changed_kept change library alike (n ∷ ns) [] t d below h = absurd (omega (arith, h))
changed_kept change library alike (n ∷ ns) (l ∷ ls) zero d below h = ap (λ x. x ∷ techs_of ns ls) (sym (alike n l))
changed_kept change library alike (n ∷ ns) (l ∷ ls) (suc t) d below h =
    ap (λ rest. record { name = n; libs = l } ∷ rest) (changed_kept change library alike ns ls t d (omega arith) (omega arith))

sum-changed_at : {A : Type 0} (f : A → ℕ) (t : ℕ) (change : A → A) (n : ℕ) → ((x : A) → f (change x) ≡ f x + n) → (xs : List A) → t < length xs
    → sum_by f (changed_at t change xs) ≡ sum_by f xs + n
unfolding changed_at
sum-changed_at f t change n more [] below = absurd (omega arith)
sum-changed_at f zero change n more (x ∷ xs) below = let first : f (change x) ≡ f x + n = more x in omega (arith, first, sum_by-cons f x xs, sum_by-cons f (change x) xs)
sum-changed_at f (suc t) change n more (x ∷ xs) below =
    let rest : sum_by f (changed_at t change xs) ≡ sum_by f xs + n = sum-changed_at f t change n more xs (omega arith) in omega (arith, rest, sum_by-cons f x xs, sum_by-cons f x (changed_at t change xs))

All-changed_at : {A : Type 0} (P Q : A → Type 0) (t : ℕ) (change : A → A) (xs : List A) → All P xs → ((x : A) → P x → Q x)
    → ((x : A) → slice_get xs t ≡ Some x → P x → Q (change x)) → All Q (changed_at t change xs)
unfolding changed_at
All-changed_at P Q t change [] all keeps changes = All-nil Q
All-changed_at P Q zero change (x ∷ xs) all keeps changes =
    All-cons Q (change x) xs (changes x refl (All-head P x xs all)) (λ k d below. keeps (get_or xs k d) (All-tail P x xs all k d below))
All-changed_at P Q (suc t) change (x ∷ xs) all keeps changes =
    All-cons Q x (changed_at t change xs) (keeps x (All-head P x xs all)) (All-changed_at P Q t change xs (All-tail P x xs all) keeps changes)

-- a library cell of more names
more_named : (n m : ℕ) → n ≤ m → (lib : Lib) → IsLib n lib → IsLib m lib
more_named n m more lib is = record {
  named = omega (arith, is.named);
  some_width = is.some_width;
  width = is.width;
  some_height = is.some_height;
  height = is.height;
  few_pins = is.few_pins;
  pins_apart = is.pins_apart;
  offsets = is.offsets;
}

all_more_named : (n m : ℕ) → n ≤ m → (tech : Tech) → IsTech n tech → IsTech m tech
all_more_named n m more tech is = record {
  few_libs = is.few_libs;
  libs_apart = is.libs_apart;
  libs = λ k d below. more_named n m more (get_or tech.libs k d) (is.libs k d below);
}

absent_id : (id : ℕ) (libs : List Lib) → find (λ lib. lib.id == id) libs ≡ None → list_any (nat_eq id) (map (λ lib. lib.id) libs) ≡ false
absent_id id libs none = numbers libs ∙ absent_at id libs ∙ ap is_some none
  where
    numbers : (ls : List Lib) → list_any (nat_eq id) (map (λ lib. lib.id) ls) ≡ list_any (λ k. nat_eq id k.0) (map id_of ls)
    numbers [] = refl
    numbers (x ∷ xs) = ap (λ b. nat_eq id x.id || b) (numbers xs)

-- a name's number is below the number of names, once it is added
id_named : (names : List (List ℕ)) (name : List ℕ) → unwrap_or (place_of name names) (length names) < length (with_name names name)
id_named names name = by (place_of name names) refl
  where
    by : (o : Option ℕ) → place_of name names ≡ o → unwrap_or o (length names) < length (if is_some o then names else names ++ name ∷ [])
    by None e = omega (arith, length-append names (name ∷ []))
    by (Some p) e = place_within name names p e

pub more_names : (names : List (List ℕ)) (name : List ℕ) → (length names ≤ length (with_name names name)) × (length (with_name names name) ≤ length names + 1)
more_names names name = by (is_among name names)
  where
    by : (b : Bool) → (length names ≤ length (if b then names else names ++ name ∷ [])) × (length (if b then names else names ++ name ∷ []) ≤ length names + 1)
    by true = (omega arith, omega arith)
    by false = (omega (arith, length-append names (name ∷ [])), omega (arith, length-append names (name ∷ [])))

with_name_apart : (names : List (List ℕ)) (name : List ℕ) → IsDistinct bytes_eq names → IsDistinct bytes_eq (with_name names name)
with_name_apart names name apart = by (place_of name names) refl
  where
    by : (o : Option ℕ) → place_of name names ≡ o → IsDistinct bytes_eq (if is_some o then names else names ++ name ∷ [])
    by None e = distinct_names names name apart e
    by (Some p) e = apart

pub with_lib_is_book : (book : Book) (t : ℕ) (name : List ℕ) (width height : ℕ) → IsBook book → t < length book.techs
    → 1 ≤ width → width ≤ 2 ^ 30 → 1 ≤ height → height ≤ 2 ^ 30
    → length (libs_of book t) < 4096 → has_name book t name ≡ false → IsBook (with_lib book t name width height)
with_lib_is_book book t name width height is below some_width is_width some_height is_height room free = record {
  few_techs = omega (arith, is.few_techs, length-changed_at t (more_libs lib) book.techs);
  techs_apart = subst (IsDistinct bytes_eq) (sym (map-changed_at (λ (x : Tech). x.name) t (more_libs lib) (λ x. refl) book.techs)) is.techs_apart;
  names_apart = with_name_apart book.names name is.names_apart;
  names_used = omega (
    arith,
    is.names_used,
    (more_names book.names name).1,
    sum-changed_at (λ (x : Tech). length x.libs) t (more_libs lib) 1 (λ x. length-append x.libs (lib ∷ [])) book.techs below,
  );
  techs = All-changed_at (IsTech n) (IsTech m) t (more_libs lib) book.techs is.techs (all_more_named n m (more_names book.names name).0) grown;
}
  where
    n : ℕ
    n = length book.names

    m : ℕ
    m = length (with_name book.names name)

    lib : Lib
    lib = record { id = id_for book name; width = width; height = height; pins = [] }

    is_lib : IsLib (length (with_name book.names name)) (record { id = id_for book name; width = width; height = height; pins = [] })
    is_lib = record {
      named = id_named book.names name;
      some_width = some_width;
      width = is_width;
      some_height = some_height;
      height = is_height;
      few_pins = omega arith;
      pins_apart = distinct-nil bytes_eq;
      offsets = All-nil (λ (pin : Pin). (pin.x ≤ 2 ^ 30) × (pin.y ≤ 2 ^ 30));
    }

    grown : (x : Tech) → slice_get book.techs t ≡ Some x → IsTech (length book.names) x
        → IsTech (length (with_name book.names name)) (more_libs (record { id = id_for book name; width = width; height = height; pins = [] }) x)
    grown x at x_is =
        let libs = libs_at book t x at in
        let none : find (λ (l : Lib). l.id == id_for book name) x.libs ≡ None = ap (find (λ (l : Lib). l.id == id_for book name)) (sym libs) ∙ number_free book t name is below free in
        record {
          few_libs = omega (arith, ap length libs, room, length-append x.libs (record { id = id_for book name; width = width; height = height; pins = [] } ∷ []));
          libs_apart = subst (IsDistinct nat_eq) (sym (map-append (λ (l : Lib). l.id) x.libs (record { id = id_for book name; width = width; height = height; pins = [] } ∷ [])))
              (IsDistinct-push nat_eq_equiv (map (λ (l : Lib). l.id) x.libs) (id_for book name) x_is.libs_apart (absent_id (id_for book name) x.libs none));
          libs = All-push (IsLib (length (with_name book.names name))) x.libs (record { id = id_for book name; width = width; height = height; pins = [] })
              (λ k d in_range. more_named (length book.names) (length (with_name book.names name)) (more_names book.names name).0 (get_or x.libs k d) (x_is.libs k d in_range)) is_lib;
        }

pub lib_added : (names techs : List (List ℕ)) (libraries : List (List Lib)) (book : Book) (t : ℕ) (name : List ℕ) (width height : ℕ) (d : List Lib)
    (new_names : List (List ℕ)) (lib : Lib) (library : List Lib)
    → IsKeptBook names techs libraries → book_of names techs libraries ≡ book → t < length book.techs
    → 1 ≤ width → width ≤ 2 ^ 30 → 1 ≤ height → height ≤ 2 ^ 30
    → length (libs_of book t) < 4096 → has_name book t name ≡ false
    → new_names ≡ with_name names name → lib ≡ record { id = id_for book name; width = width; height = height; pins = [] }
    → library ≡ get_or libraries t d ++ lib ∷ []
    → IsKeptAs new_names techs (slice_set libraries t library) (with_lib book t name width height)
lib_added names techs libraries book t name width height d new_names lib library kept view below some_width is_width some_height is_height room free named made grown =
    subst (λ ns. IsKeptAs ns techs (slice_set libraries t library) (with_lib book t name width height)) (sym named)
    (subst (λ l. IsKeptAs (with_name names name) techs (slice_set libraries t l) (with_lib book t name width height)) (sym (grown ∙ ap (λ x. get_or libraries t d ++ x ∷ []) made))
    (record { kept = is_kept; view = as_added }))
  where
    s : IsSeen names techs libraries book
    s = seen names techs libraries book kept view

    cell : Lib
    cell = record { id = id_for book name; width = width; height = height; pins = [] }

    as_added : book_of (with_name names name) techs (slice_set libraries t (get_or libraries t d ++ record { id = id_for book name; width = width; height = height; pins = [] } ∷ []))
        ≡ with_lib book t name width height
    as_added =
        ap (λ ts. record { names = with_name names name; techs = ts })
        (changed_kept (more_libs (record { id = id_for book name; width = width; height = height; pins = [] })) (λ libs. libs ++ record { id = id_for book name; width = width; height = height; pins = [] } ∷ []) (λ n libs. refl)
        techs libraries t d (omega (arith, s.many)) kept.as_many)
        ∙ ap (λ (b : Book). record { names = with_name b.names name; techs = changed_at t (more_libs (record { id = id_for book name; width = width; height = height; pins = [] })) b.techs }) view

    is_kept : IsKeptBook (with_name names name) techs (slice_set libraries t (get_or libraries t d ++ record { id = id_for book name; width = width; height = height; pins = [] } ∷ []))
    is_kept = record {
      as_many = kept.as_many ∙ sym (length-set libraries t (get_or libraries t d ++ record { id = id_for book name; width = width; height = height; pins = [] } ∷ []));
      is_book = subst IsBook (sym as_added) (with_lib_is_book book t name width height s.is_book below some_width is_width some_height is_height room free);
    }

-- adding a pin
more_pins_keep : (id : ℕ) (pin : Pin) (libs : List Lib) → map (λ lib. lib.id) (map (more_pins id pin) libs) ≡ map (λ lib. lib.id) libs
more_pins_keep id pin [] = refl
more_pins_keep id pin (x ∷ xs) = ap (λ n. n ∷ map (λ (l : Lib). l.id) (map (more_pins id pin) xs)) (by (nat_eq x.id id)) ∙ ap (λ rest. x.id ∷ rest) (more_pins_keep id pin xs)
  where
    by : (b : Bool) → (if b then record x { pins = x.pins ++ pin ∷ [] } else x).id ≡ x.id
    by true = refl
    by false = refl

grown_is_lib : (n : ℕ) (lib : Lib) (pin : Pin) → IsLib n lib → length lib.pins < 1024 → place_of pin.name (pin_names lib) ≡ None → pin.x ≤ 2 ^ 30 → pin.y ≤ 2 ^ 30
    → IsLib n (record lib { pins = lib.pins ++ pin ∷ [] })
grown_is_lib n lib pin is room new small_x small_y = record {
  named = is.named;
  some_width = is.some_width;
  width = is.width;
  some_height = is.some_height;
  height = is.height;
  few_pins = omega (arith, length-append lib.pins (pin ∷ []));
  pins_apart = subst (IsDistinct bytes_eq) (sym (map-append (λ (p : Pin). p.name) lib.pins (pin ∷ []))) (distinct_names (pin_names lib) pin.name is.pins_apart new);
  offsets = All-push (λ (p : Pin). (p.x ≤ 2 ^ 30) × (p.y ≤ 2 ^ 30)) lib.pins pin is.offsets (small_x, small_y);
}

same_sum : (id : ℕ) (pin : Pin) (t : ℕ) (xs : List Tech) → sum_by (λ x. length x.libs) xs ≡ sum_by (λ x. length x.libs) (changed_at t (pins_added id pin) xs)
unfolding changed_at
same_sum id pin t [] = refl
same_sum id pin zero (x ∷ xs) =
    sum_by-cons (λ (y : Tech). length y.libs) x xs ∙ ap (λ k. k + sum_by (λ (y : Tech). length y.libs) xs) (sym (length-map x.libs (more_pins id pin)))
    ∙ sym (sum_by-cons (λ (y : Tech). length y.libs) (pins_added id pin x) xs)
same_sum id pin (suc t) (x ∷ xs) =
    sum_by-cons (λ (y : Tech). length y.libs) x xs ∙ ap (λ k. length x.libs + k) (same_sum id pin t xs)
    ∙ sym (sum_by-cons (λ (y : Tech). length y.libs) x (changed_at t (pins_added id pin) xs))

pub with_pin_is_book : (book : Book) (t id : ℕ) (pin : Pin) (old : Lib) → IsBook book → lib_in book t id ≡ Some old → length old.pins < 1024
    → place_of pin.name (pin_names old) ≡ None → pin.x ≤ 2 ^ 30 → pin.y ≤ 2 ^ 30 → IsBook (with_pin book t id pin)
unfolding lib_in
with_pin_is_book book t id pin old is found room new small_x small_y = record {
  few_techs = omega (arith, is.few_techs, length-changed_at t (pins_added id pin) book.techs);
  techs_apart = subst (IsDistinct bytes_eq) (sym (map-changed_at (λ (x : Tech). x.name) t (pins_added id pin) (λ x. refl) book.techs)) is.techs_apart;
  names_apart = is.names_apart;
  names_used = used;
  techs = All-changed_at (IsTech n) (IsTech n) t (pins_added id pin) book.techs is.techs (λ x x_is. x_is) grown;
}
  where
    n : ℕ
    n = length book.names

    used : length book.names ≤ sum_by (λ (x : Tech). length x.libs) (changed_at t (pins_added id pin) book.techs)
    used = subst (λ k. length book.names ≤ k) (same_sum id pin t book.techs) is.names_used

    grown : (x : Tech) → slice_get book.techs t ≡ Some x → IsTech (length book.names) x → IsTech (length book.names) (pins_added id pin x)
    grown x at x_is =
        let here : find (λ (l : Lib). l.id == id) x.libs ≡ Some old = ap (find (λ (l : Lib). l.id == id)) (sym (libs_at book t x at)) ∙ found in
        let place : slice_get x.libs (position_or_len (λ (l : Lib). l.id == id) x.libs) ≡ Some old = sym (find_at (λ (l : Lib). l.id == id) x.libs) ∙ here in
        let changed = touched id pin x.libs (position_or_len (λ (l : Lib). l.id == id) x.libs) old x_is.libs_apart place (found_id x.libs id old here) in
        let old_is : IsLib (length book.names) old = subst (IsLib (length book.names)) (get_or_from_slice_get x.libs (position_or_len (λ (l : Lib). l.id == id) x.libs) old old place)
        (x_is.libs (position_or_len (λ (l : Lib). l.id == id) x.libs) old (slice_get_within x.libs (position_or_len (λ (l : Lib). l.id == id) x.libs) old place)) in
        record {
          few_libs = omega (arith, x_is.few_libs, length-map x.libs (more_pins id pin));
          libs_apart = subst (IsDistinct nat_eq) (sym (more_pins_keep id pin x.libs)) x_is.libs_apart;
          libs = subst (All (IsLib (length book.names))) changed
              (All-set (IsLib (length book.names)) x.libs (position_or_len (λ (l : Lib). l.id == id) x.libs) (record old { pins = old.pins ++ pin ∷ [] })
              (grown_is_lib (length book.names) old pin old_is room new small_x small_y) x_is.libs);
        }

-- where nothing refuses there is room, and the name is new
refusal_cases : (full : Bool) (place : Option ℕ) → refusal full (is_some place) false ≡ None → (full ≡ false) × (place ≡ None)
refusal_cases true place e = absurd (let no : Some Limit ≡ None = e in cc)
refusal_cases false None e = (refl, refl)
refusal_cases false (Some p) e = absurd (let no : Some Twice ≡ None = e in cc)

pub refusal_room : (pins : List Pin) (name : List ℕ) → pins_refusal pins name ≡ None → length pins < 1024
refusal_room pins name none =
    let not_full : nat_le 1024 (length pins) ≡ false = (refusal_cases (nat_le 1024 (length pins)) (place_of name (map (λ (p : Pin). p.name) pins)) none).0 in
    grind (arith, nat_tests)

pub refusal_new : (pins : List Pin) (name : List ℕ) → pins_refusal pins name ≡ None → place_of name (map (λ pin. pin.name) pins) ≡ None
refusal_new pins name none = (refusal_cases (nat_le 1024 (length pins)) (place_of name (map (λ (p : Pin). p.name) pins)) none).1

pub pin_added : (names techs : List (List ℕ)) (libraries : List (List Lib)) (book : Book) (t id : ℕ) (pin : Pin) (d library : List Lib) (r : Result (Unit {0}) BuildFault)
    → IsKeptBook names techs libraries → book_of names techs libraries ≡ book → IsTrue (has book t id) → t < length book.techs → pin.x ≤ 2 ^ 30 → pin.y ≤ 2 ^ 30
    → Adds (pins_refusal (pins_at (get_or libraries t d) id) pin.name) tt (get_or libraries t d) (map (more_pins id pin) (get_or libraries t d)) r library
    → IsKeptBook names techs (slice_set libraries t library)
    × Adds (pin_refusal book t id pin.name) tt book (with_pin book t id pin) r (book_of names techs (slice_set libraries t library))
unfolding lib_in
pin_added names techs libraries book t id pin d library r kept view there below small_x small_y adds = by r adds
  where
    s : IsSeen names techs libraries book
    s = seen names techs libraries book kept view

    refused : pins_refusal (pins_at (get_or libraries t d) id) pin.name ≡ pin_refusal book t id pin.name
    refused = ap (λ libs. pins_refusal (pins_at libs id) pin.name) (s.at t d (omega (arith, s.many)))

    stays : library ≡ get_or libraries t d → slice_set libraries t library ≡ libraries
    stays same = ap (slice_set libraries t) same ∙ set-get_or libraries t d

    unchanged : library ≡ get_or libraries t d → IsKeptBook names techs (slice_set libraries t library)
    unchanged same = subst (IsKeptBook names techs) (sym (stays same)) kept

    same_view : library ≡ get_or libraries t d → book_of names techs (slice_set libraries t library) ≡ book
    same_view same = ap (book_of names techs) (stays same) ∙ view

    as_added : library ≡ map (more_pins id pin) (get_or libraries t d) → book_of names techs (slice_set libraries t library) ≡ with_pin book t id pin
    as_added grown =
        ap (λ l. book_of names techs (slice_set libraries t l)) grown
        ∙ ap (λ ts. record { names = names; techs = ts })
        (changed_kept (pins_added id pin) (map (more_pins id pin)) (λ n libs. refl) techs libraries t d (omega (arith, s.many)) kept.as_many)
        ∙ ap (λ b. with_pin b t id pin) view

    some_lib : (o : Option Lib) → IsTrue (is_some o) → (l : Lib) × (o ≡ Some l)
    some_lib None h = absurd (let no : false ≡ true = h in cc)
    some_lib (Some l) h = (l, refl)

    is_grown : pin_refusal book t id pin.name ≡ None → IsBook (with_pin book t id pin)
    is_grown none =
        let old = some_lib (lib_in book t id) there in
        let free : pins_refusal old.0.pins pin.name ≡ None = ap (λ o. pins_refusal (unwrap_or (option_map (λ (l : Lib). l.pins) o) []) pin.name) (sym old.1) ∙ none in
        with_pin_is_book book t id pin old.0 s.is_book old.1 (refusal_room old.0.pins pin.name free) (refusal_new old.0.pins pin.name free) small_x small_y

    by : (r : Result (Unit {0}) BuildFault)
        → Adds (pins_refusal (pins_at (get_or libraries t d) id) pin.name) tt (get_or libraries t d) (map (more_pins id pin) (get_or libraries t d)) r library
        → IsKeptBook names techs (slice_set libraries t library)
        × Adds (pin_refusal book t id pin.name) tt book (with_pin book t id pin) r (book_of names techs (slice_set libraries t library))
    by (Ok x) adds =
        let none : pin_refusal book t id pin.name ≡ None = sym refused ∙ adds.0 in (
          record {
            as_many = kept.as_many ∙ sym (length-set libraries t library);
            is_book = subst IsBook (sym (as_added adds.2)) (is_grown none);
          },
          (none, adds.1, as_added adds.2),
        )
    by (Err Memory) adds = (unchanged adds, same_view adds)
    by (Err Twice) adds = (unchanged adds.1, (sym refused ∙ adds.0, same_view adds.1))
    by (Err Unknown) adds = (unchanged adds.1, (sym refused ∙ adds.0, same_view adds.1))
    by (Err Limit) adds = (unchanged adds.1, (sym refused ∙ adds.0, same_view adds.1))

pub none_from : {A : Type 0} (f : ℕ → A) (o : Option ℕ) → is_some (option_map f o) ≡ false → o ≡ None
none_from f None e = refl
none_from f (Some k) e = cc

pub nothing_refused : (n most : ℕ) (twice : Bool) → n < most → twice ≡ false → refusal (nat_le most n) twice false ≡ None
nothing_refused n most twice room once = grind (arith, nat_tests)

pub same_kept : (names techs new_names new_techs : List (List ℕ)) (libraries new_libraries : List (List Lib)) (book : Book)
    → IsKeptBook names techs libraries → book_of names techs libraries ≡ book → new_names ≡ names → new_techs ≡ techs → new_libraries ≡ libraries
    → IsKeptAs new_names new_techs new_libraries book
same_kept names techs new_names new_techs libraries new_libraries book kept view same_names same_techs same_libraries =
    subst (λ ns. IsKeptAs ns new_techs new_libraries book) (sym same_names)
    (subst (λ ts. IsKeptAs names ts new_libraries book) (sym same_techs)
    (subst (λ ls. IsKeptAs names techs ls book) (sym same_libraries) (record { kept = kept; view = view })))

pub number_small : (names : List (List ℕ)) (name : List ℕ) → length names ≤ 2 ^ 16 → unwrap_or (place_of name names) (length names) ≤ 2 ^ 16
number_small names name few = omega (arith, id_named names name, (more_names names name).1)

-- the library that is written is a technology's, and so is its value afterwards
pub pin_added_at : (names techs : List (List ℕ)) (libraries : List (List Lib)) (book : Book) (t id : ℕ) (pin : Pin) (old new : List Lib) (r : Result (Unit {0}) BuildFault)
    → IsKeptBook names techs libraries → book_of names techs libraries ≡ book → IsTrue (has book t id) → pin.x ≤ 2 ^ 30 → pin.y ≤ 2 ^ 30
    → old ≡ get_or libraries t old
    → Adds (pins_refusal (pins_at old id) pin.name) tt old (map (more_pins id pin) old) r new
    → IsKeptBook names techs (slice_set libraries t new)
    × Adds (pin_refusal book t id pin.name) tt book (with_pin book t id pin) r (book_of names techs (slice_set libraries t new))
pin_added_at names techs libraries book t id pin old new r kept view there small_x small_y value adds =
    pin_added names techs libraries book t id pin old new r kept view there (has_in_range book t id there) small_x small_y
    (subst (λ l. Adds (pins_refusal (pins_at l id) pin.name) tt l (map (more_pins id pin) l) r new) value adds)
