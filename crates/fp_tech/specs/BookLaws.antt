-- Laws of the book: what is there after each adding.
use Rattle.std.specs.Prelude.{◌≡◌, ◌≢◌, ◌==◌, ◌||◌, ℕ, ◌+◌, ◌<◌, Bool, true, false, cond, List, [], ◌∷◌, ◌++◌, length, map, Option, Some, None, is_some, option_map, option_and_then, unwrap_or, slice_get, nat_eq, find, All, IsTrue, if◌then◌else◌}
use Rattle.std.proofs.Common.{zero, suc, refl, sym, ap, subst, ◌∙◌, arith}
use Rattle.std.specs.Str.{bytes_eq}
use Rattle.std.specs.List.{IsDistinct, list_any, position_or_len}
use Rattle.std.proofs.lemmas.Cmp.{nat_list_eq_equiv}
use Rattle.std.proofs.lemmas.Map.Keys.{IsDistinct-push}
use Rattle.std.proofs.lemmas.List.Folds.{find_at}
use Rattle.std.proofs.lemmas.List.{map-append, length-append}
use Rattle.std.proofs.lemmas.List.Elements.{All-head, All-tail}
use Rattle.std.proofs.lemmas.Option.{get_or_from_slice_get, slice_get_within}
use Rattle.std.proofs.lemmas.Bool.{eq-eqb}
use Rattle.std.proofs.lemmas.Bool.Decides.{nat_tests}
use Rattle.fp_tech.specs.Book.{Pin, Lib, Tech, Book, place_of, tech_names, libs_of, lib_in, pins_in, has, has_name, id_for, changed_at, with_tech, with_lib, with_pin, more_libs, more_pins, pins_added, IsLib, IsTech, IsBook}

place_behind : (p n : ℕ) (o : Option ℕ) → option_map (λ k. k + 1) o ≡ Some p → ((q : ℕ) → o ≡ Some q → q < n) → p < suc n
place_behind p n None f rest = absurd (let no : None ≡ Some p = f in cc)
place_behind p n (Some q) f rest = let below : q < n = rest q refl in let same : q + 1 ≡ p = cc in omega arith

place_cases : (b : Bool) (p n : ℕ) (o : Option ℕ) → (if b then Some 0 else option_map (λ k. k + 1) o) ≡ Some p → ((q : ℕ) → o ≡ Some q → q < n) → p < suc n
place_cases true p n o f rest = let same : 0 ≡ p = cc in omega arith
place_cases false p n o f rest = place_behind p n o f rest

pub place_within : (name : List ℕ) (names : List (List ℕ)) (p : ℕ) → place_of name names ≡ Some p → p < length names
unfolding place_of
place_within name [] p e = absurd (let no : None ≡ Some p = e in cc)
place_within name (n ∷ ns) p e = place_cases (bytes_eq n name) p (length ns) (place_of name ns) e (λ q at. place_within name ns q at)

-- a name that has no place is equal to none, so with it the names stay distinct
is_among-any : (name : List ℕ) (names : List (List ℕ)) → list_any (bytes_eq name) names ≡ is_some (place_of name names)
unfolding place_of
is_among-any name [] = refl
is_among-any name (n ∷ ns) =
    ap (λ b. b || list_any (bytes_eq name) ns) (nat_list_eq_equiv.symm name n)
    ∙ ap (λ b. bytes_eq n name || b) (is_among-any name ns)
    ∙ by (bytes_eq n name) (place_of name ns)
  where
    by : (b : Bool) (rest : Option ℕ) → (b || is_some rest) ≡ is_some (if b then Some 0 else option_map (λ k. k + 1) rest)
    by true rest = refl
    by false None = refl
    by false (Some k) = refl

pub distinct_names : (names : List (List ℕ)) (name : List ℕ) → IsDistinct bytes_eq names → place_of name names ≡ None → IsDistinct bytes_eq (names ++ name ∷ [])
distinct_names names name apart new = IsDistinct-push nat_list_eq_equiv names name apart (is_among-any name names ∙ ap is_some new)

pub slice_get_some : {A : Type 0} (xs : List A) (k : ℕ) → k < length xs → slice_get xs k ≡ None → ⊥
slice_get_some [] k below none = omega arith
slice_get_some (x ∷ xs) zero below none = cc
slice_get_some (x ∷ xs) (suc k) below none = slice_get_some xs k (omega arith) none

pub length-changed_at : {A : Type 0} (t : ℕ) (change : A → A) (xs : List A) → length (changed_at t change xs) ≡ length xs
unfolding changed_at
length-changed_at t change [] = refl
length-changed_at zero change (x ∷ xs) = refl
length-changed_at (suc t) change (x ∷ xs) = ap suc (length-changed_at t change xs)

pub map-changed_at : {A B : Type 0} (f : A → B) (t : ℕ) (change : A → A) → ((x : A) → f (change x) ≡ f x) → (xs : List A) → map f (changed_at t change xs) ≡ map f xs
unfolding changed_at
map-changed_at f t change same [] = refl
map-changed_at f zero change same (x ∷ xs) = ap (λ y. y ∷ map f xs) (same x)
map-changed_at f (suc t) change same (x ∷ xs) = ap (λ rest. f x ∷ rest) (map-changed_at f t change same xs)

-- numbers that are all less
pub find_none : (n : ℕ) (libs : List Lib) → All (IsLib n) libs → find (λ lib. lib.id == n) libs ≡ None
find_none n [] all = refl
find_none n (x ∷ xs) all =
    let less : x.id < n = (All-head (IsLib n) x xs all).named in
    let other : nat_eq x.id n ≡ false = grind (arith, nat_tests) in
    ap (λ b. cond b (Some x) (find (λ lib. lib.id == n) xs)) other ∙ find_none n xs (All-tail (IsLib n) x xs all)

-- the libraries of a technology that is there
pub libs_at : (book : Book) (t : ℕ) (tech : Tech) → slice_get book.techs t ≡ Some tech → libs_of book t ≡ tech.libs
unfolding libs_of
libs_at book t tech at = ap (λ o. unwrap_or (option_map (λ x. x.libs) o) []) at

-- each library is within the limits
pub libs_within : (book : Book) (t : ℕ) → IsBook book → t < length book.techs → (tech : Tech) × (slice_get book.techs t ≡ Some tech) × IsTech (length book.names) tech
libs_within book t is below = by (slice_get book.techs t) refl
  where
    by : (o : Option Tech) → slice_get book.techs t ≡ o → (tech : Tech) × (slice_get book.techs t ≡ Some tech) × IsTech (length book.names) tech
    by None e = absurd (slice_get_some book.techs t below e)
    by (Some tech) e = (tech, e, subst (IsTech (length book.names)) (get_or_from_slice_get book.techs t tech tech e) (is.techs t tech below))

-- a library cell that is found is within the limits
pub cell_within : (book : Book) (t id : ℕ) (l : Lib) → IsBook book → lib_in book t id ≡ Some l → IsLib (length book.names) l
unfolding libs_of lib_in
cell_within book t id l is found = by (slice_get book.techs t) refl
  where
    at : (o : Option Tech) → slice_get book.techs t ≡ o → find (λ (lib : Lib). lib.id == id) (unwrap_or (option_map (λ (tech : Tech). tech.libs) o) []) ≡ Some l
    at o e = ap (λ o. find (λ (lib : Lib). lib.id == id) (unwrap_or (option_map (λ (tech : Tech). tech.libs) o) [])) (sym e) ∙ found

    by : (o : Option Tech) → slice_get book.techs t ≡ o → IsLib (length book.names) l
    by None e = absurd (let no : None ≡ Some l = at None e in cc)
    by (Some tech) e =
        let tech_is : IsTech (length book.names) tech = subst (IsTech (length book.names)) (get_or_from_slice_get book.techs t tech tech e) (is.techs t tech (slice_get_within book.techs t tech e)) in
        let place : slice_get tech.libs (position_or_len (λ (lib : Lib). lib.id == id) tech.libs) ≡ Some l = sym (find_at (λ (lib : Lib). lib.id == id) tech.libs) ∙ at (Some tech) e in
        subst (IsLib (length book.names)) (get_or_from_slice_get tech.libs (position_or_len (λ (lib : Lib). lib.id == id) tech.libs) l l place)
        (tech_is.libs (position_or_len (λ (lib : Lib). lib.id == id) tech.libs) l (slice_get_within tech.libs (position_or_len (λ (lib : Lib). lib.id == id) tech.libs) l place))

-- a technology without the name has no cell of the number that the name has or gets
pub number_free : (book : Book) (t : ℕ) (name : List ℕ) → IsBook book → t < length book.techs → has_name book t name ≡ false
    → find (λ lib. lib.id == id_for book name) (libs_of book t) ≡ None
unfolding lib_in
number_free book t name is below free = by (place_of name book.names) free
  where
    within : All (IsLib (length book.names)) (libs_of book t)
    within = let tech = libs_within book t is below in subst (All (IsLib (length book.names))) (sym (libs_at book t tech.0 tech.1)) tech.2.libs

    none_if : {A : Type 0} (o : Option A) → is_some o ≡ false → o ≡ None
    none_if None e = refl
    none_if (Some x) e = cc

    by : (o : Option ℕ) → is_some (option_and_then (λ id. lib_in book t id) o) ≡ false → find (λ lib. lib.id == unwrap_or o (length book.names)) (libs_of book t) ≡ None
    by None e = find_none (length book.names) (libs_of book t) within
    by (Some id) e = none_if (find (λ lib. lib.id == id) (libs_of book t)) e

-- an element of a list that is changed at one place
pub slice_get-changed_at : {A : Type 0} (t : ℕ) (change : A → A) (xs : List A) → slice_get (changed_at t change xs) t ≡ option_map change (slice_get xs t)
unfolding changed_at
slice_get-changed_at t change [] = refl
slice_get-changed_at zero change (x ∷ xs) = refl
slice_get-changed_at (suc t) change (x ∷ xs) = slice_get-changed_at t change xs

pub slice_get-changed_other : {A : Type 0} (t u : ℕ) (change : A → A) (xs : List A) → u ≢ t → slice_get (changed_at t change xs) u ≡ slice_get xs u
unfolding changed_at
slice_get-changed_other t u change [] other = refl
slice_get-changed_other zero zero change (x ∷ xs) other = absurd (other refl)
slice_get-changed_other zero (suc u) change (x ∷ xs) other = refl
slice_get-changed_other (suc t) zero change (x ∷ xs) other = refl
slice_get-changed_other (suc t) (suc u) change (x ∷ xs) other = slice_get-changed_other t u change xs (λ e. other (ap suc e))

pub slice_get-last : {A : Type 0} (xs : List A) (x : A) → slice_get (xs ++ x ∷ []) (length xs) ≡ Some x
slice_get-last [] x = refl
slice_get-last (y ∷ ys) x = slice_get-last ys x

pub slice_get-front : {A : Type 0} (xs : List A) (x : A) (k : ℕ) → k < length xs → slice_get (xs ++ x ∷ []) k ≡ slice_get xs k
slice_get-front [] x k below = absurd (omega arith)
slice_get-front (y ∷ ys) x zero below = refl
slice_get-front (y ∷ ys) x (suc k) below = slice_get-front ys x k (omega arith)

-- a last element is found where none before it is
find_last : {A : Type 0} (p : A → Bool) (xs : List A) (x : A) → find p xs ≡ None → p x ≡ true → find p (xs ++ x ∷ []) ≡ Some x
find_last p [] x none passes = ap (λ b. cond b (Some x) None) passes
find_last p (y ∷ ys) x none passes = step (p y) refl (λ behind. find_last p ys x behind passes)
  where
    at : (b : Bool) → p y ≡ b → cond b (Some y) (find p ys) ≡ None
    at b e = ap (λ t. cond t (Some y) (find p ys)) (sym e) ∙ none

    step : (b : Bool) → p y ≡ b → (find p ys ≡ None → find p (ys ++ x ∷ []) ≡ Some x) → cond (p y) (Some y) (find p (ys ++ x ∷ [])) ≡ Some x
    step true e behind = absurd (let no : Some y ≡ None = at true e in cc)
    step false e behind = ap (λ t. cond t (Some y) (find p (ys ++ x ∷ []))) e ∙ behind (at false e)

-- after a technology is added
pub techs-with_tech : (book : Book) (name : List ℕ) → length (with_tech book name).techs ≡ length book.techs + 1
techs-with_tech book name = length-append book.techs (record { name = name; libs = [] } ∷ [])

pub tech_names-with_tech : (book : Book) (name : List ℕ) → tech_names (with_tech book name) ≡ tech_names book ++ name ∷ []
tech_names-with_tech book name = map-append (λ tech. tech.name) book.techs (record { name = name; libs = [] } ∷ [])

pub libs_of-with_tech_new : (book : Book) (name : List ℕ) → libs_of (with_tech book name) (length book.techs) ≡ []
unfolding libs_of
libs_of-with_tech_new book name = ap (λ o. unwrap_or (option_map (λ (tech : Tech). tech.libs) o) []) (slice_get-last book.techs (record { name = name; libs = [] }))

pub libs_of-with_tech_old : (book : Book) (name : List ℕ) (t : ℕ) → t < length book.techs → libs_of (with_tech book name) t ≡ libs_of book t
unfolding libs_of
libs_of-with_tech_old book name t below = ap (λ o. unwrap_or (option_map (λ (tech : Tech). tech.libs) o) []) (slice_get-front book.techs (record { name = name; libs = [] }) t below)

-- after a library cell is added
pub techs-with_lib : (book : Book) (t : ℕ) (name : List ℕ) (width height : ℕ) → length (with_lib book t name width height).techs ≡ length book.techs
techs-with_lib book t name width height = length-changed_at t (more_libs (record { id = id_for book name; width = width; height = height; pins = [] })) book.techs

pub tech_names-with_lib : (book : Book) (t : ℕ) (name : List ℕ) (width height : ℕ) → tech_names (with_lib book t name width height) ≡ tech_names book
tech_names-with_lib book t name width height = map-changed_at (λ tech. tech.name) t (more_libs (record { id = id_for book name; width = width; height = height; pins = [] })) (λ tech. refl) book.techs

pub libs_of-with_lib : (book : Book) (t : ℕ) (name : List ℕ) (width height : ℕ) → t < length book.techs
    → libs_of (with_lib book t name width height) t ≡ libs_of book t ++ record { id = id_for book name; width = width; height = height; pins = [] } ∷ []
unfolding libs_of
libs_of-with_lib book t name width height below =
    ap (λ o. unwrap_or (option_map (λ (tech : Tech). tech.libs) o) []) (slice_get-changed_at t (more_libs lib) book.techs) ∙ by (slice_get book.techs t) (slice_get_some book.techs t below)
  where
    lib : Lib
    lib = record { id = id_for book name; width = width; height = height; pins = [] }

    by : (o : Option Tech) → (o ≡ None → ⊥) → unwrap_or (option_map (λ (tech : Tech). tech.libs) (option_map (more_libs (record { id = id_for book name; width = width; height = height; pins = [] })) o)) []
        ≡ unwrap_or (option_map (λ (tech : Tech). tech.libs) o) [] ++ record { id = id_for book name; width = width; height = height; pins = [] } ∷ []
    by None some = absurd (some refl)
    by (Some tech) some = refl

pub libs_of-with_lib_other : (book : Book) (t u : ℕ) (name : List ℕ) (width height : ℕ) → u ≢ t → libs_of (with_lib book t name width height) u ≡ libs_of book u
unfolding libs_of
libs_of-with_lib_other book t u name width height other =
    ap (λ o. unwrap_or (option_map (λ (tech : Tech). tech.libs) o) []) (slice_get-changed_other t u (more_libs (record { id = id_for book name; width = width; height = height; pins = [] })) book.techs other)

-- the new library cell is the one of its number
pub lib_in-with_lib : (book : Book) (t : ℕ) (name : List ℕ) (width height : ℕ) → IsBook book → t < length book.techs → has_name book t name ≡ false
    → lib_in (with_lib book t name width height) t (id_for book name) ≡ Some (record { id = id_for book name; width = width; height = height; pins = [] })
unfolding lib_in
lib_in-with_lib book t name width height is below free =
    ap (find (λ (lib : Lib). lib.id == id_for book name)) (libs_of-with_lib book t name width height below)
    ∙ find_last (λ (lib : Lib). lib.id == id_for book name) (libs_of book t) (record { id = id_for book name; width = width; height = height; pins = [] })
    (number_free book t name is below free) (eq-eqb (id_for book name) (id_for book name) refl)

pub has-with_lib : (book : Book) (t : ℕ) (name : List ℕ) (width height : ℕ) → IsBook book → t < length book.techs → has_name book t name ≡ false
    → has (with_lib book t name width height) t (id_for book name) ≡ true
has-with_lib book t name width height is below free = ap is_some (lib_in-with_lib book t name width height is below free)

pub pins_in-with_lib : (book : Book) (t : ℕ) (name : List ℕ) (width height : ℕ) → IsBook book → t < length book.techs → has_name book t name ≡ false
    → pins_in (with_lib book t name width height) t (id_for book name) ≡ []
pins_in-with_lib book t name width height is below free =
    ap (λ o. unwrap_or (option_map (λ (lib : Lib). lib.pins) o) []) (lib_in-with_lib book t name width height is below free)

-- after a pin is added
pub techs-with_pin : (book : Book) (t id : ℕ) (pin : Pin) → length (with_pin book t id pin).techs ≡ length book.techs
techs-with_pin book t id pin = length-changed_at t (pins_added id pin) book.techs

pub tech_names-with_pin : (book : Book) (t id : ℕ) (pin : Pin) → tech_names (with_pin book t id pin) ≡ tech_names book
tech_names-with_pin book t id pin = map-changed_at (λ tech. tech.name) t (pins_added id pin) (λ tech. refl) book.techs

pub libs_of-with_pin : (book : Book) (t id : ℕ) (pin : Pin) → libs_of (with_pin book t id pin) t ≡ map (more_pins id pin) (libs_of book t)
unfolding libs_of
libs_of-with_pin book t id pin =
    ap (λ o. unwrap_or (option_map (λ (tech : Tech). tech.libs) o) []) (slice_get-changed_at t (pins_added id pin) book.techs) ∙ by (slice_get book.techs t)
  where
    by : (o : Option Tech) → unwrap_or (option_map (λ (tech : Tech). tech.libs) (option_map (pins_added id pin) o)) [] ≡ map (more_pins id pin) (unwrap_or (option_map (λ (tech : Tech). tech.libs) o) [])
    by None = refl
    by (Some tech) = refl

pub libs_of-with_pin_other : (book : Book) (t u id : ℕ) (pin : Pin) → u ≢ t → libs_of (with_pin book t id pin) u ≡ libs_of book u
unfolding libs_of
libs_of-with_pin_other book t u id pin other =
    ap (λ o. unwrap_or (option_map (λ (tech : Tech). tech.libs) o) []) (slice_get-changed_other t u (pins_added id pin) book.techs other)

found_more_pins : (j id : ℕ) (pin : Pin) (libs : List Lib) → find (λ lib. lib.id == j) (map (more_pins id pin) libs) ≡ option_map (more_pins id pin) (find (λ lib. lib.id == j) libs)
found_more_pins j id pin [] = refl
found_more_pins j id pin (x ∷ xs) =
    ap (λ n. cond (nat_eq n j) (Some (more_pins id pin x)) (find (λ lib. lib.id == j) (map (more_pins id pin) xs))) (same (nat_eq x.id id))
    ∙ ap (λ rest. cond (nat_eq x.id j) (Some (more_pins id pin x)) rest) (found_more_pins j id pin xs)
    ∙ by (nat_eq x.id j) (find (λ lib. lib.id == j) xs)
  where
    same : (b : Bool) → (if b then record x { pins = x.pins ++ pin ∷ [] } else x).id ≡ x.id
    same true = refl
    same false = refl

    by : (b : Bool) (rest : Option Lib) → cond b (Some (more_pins id pin x)) (option_map (more_pins id pin) rest) ≡ option_map (more_pins id pin) (cond b (Some x) rest)
    by true rest = refl
    by false rest = refl

-- a library cell of the technology, which has the pin where it is of that number
pub lib_in-with_pin : (book : Book) (t id : ℕ) (pin : Pin) (j : ℕ) → lib_in (with_pin book t id pin) t j ≡ option_map (more_pins id pin) (lib_in book t j)
unfolding lib_in
lib_in-with_pin book t id pin j = ap (find (λ (lib : Lib). lib.id == j)) (libs_of-with_pin book t id pin) ∙ found_more_pins j id pin (libs_of book t)

pub has-with_pin : (book : Book) (t id : ℕ) (pin : Pin) (j : ℕ) → has (with_pin book t id pin) t j ≡ has book t j
has-with_pin book t id pin j = ap is_some (lib_in-with_pin book t id pin j) ∙ by (lib_in book t j)
  where
    by : (o : Option Lib) → is_some (option_map (more_pins id pin) o) ≡ is_some o
    by None = refl
    by (Some lib) = refl

found_number : (id : ℕ) (libs : List Lib) (old : Lib) → find (λ lib. lib.id == id) libs ≡ Some old → nat_eq old.id id ≡ true
found_number id [] old found = absurd (let nothing : None ≡ Some old = found in cc)
found_number id (x ∷ xs) old found = by (nat_eq x.id id) refl (found_number id xs old)
  where
    at : (b : Bool) → nat_eq x.id id ≡ b → cond b (Some x) (find (λ lib. lib.id == id) xs) ≡ Some old
    at b e = ap (λ t. cond t (Some x) (find (λ lib. lib.id == id) xs)) (sym e) ∙ found

    by : (b : Bool) → nat_eq x.id id ≡ b → (find (λ lib. lib.id == id) xs ≡ Some old → nat_eq old.id id ≡ true) → nat_eq old.id id ≡ true
    by true e behind = let first : Some x ≡ Some old = at true e in let here : x ≡ old = cc in ap (λ l. nat_eq l.id id) (sym here) ∙ e
    by false e behind = behind (at false e)

-- the library cell's pins, with the new one last
pub pins_in-with_pin : (book : Book) (t id : ℕ) (pin : Pin) → IsTrue (has book t id) → pins_in (with_pin book t id pin) t id ≡ pins_in book t id ++ pin ∷ []
unfolding lib_in
pins_in-with_pin book t id pin there =
    ap (λ o. unwrap_or (option_map (λ (lib : Lib). lib.pins) o) []) (lib_in-with_pin book t id pin id) ∙ by (lib_in book t id) refl there
  where
    by : (o : Option Lib) → lib_in book t id ≡ o → is_some o ≡ true
        → unwrap_or (option_map (λ (lib : Lib). lib.pins) (option_map (more_pins id pin) o)) [] ≡ unwrap_or (option_map (λ (lib : Lib). lib.pins) o) [] ++ pin ∷ []
    by None e some = absurd (let no : false ≡ true = some in cc)
    by (Some old) e some = ap (λ b. (if b then record old { pins = old.pins ++ pin ∷ [] } else old).pins) (found_number id (libs_of book t) old e)
