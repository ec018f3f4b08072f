-- A book that grows item by item, as a loop reads them.
use Rattle.std.proofs.Common.{◌≡◌, ℕ, ◌+◌, ◌-◌, ◌<◌, ◌≤◌, Bool, true, false, cond, List, [], ◌∷◌, ◌++◌, length, map, Option, Some, None, Ok, IsTrue, refl, sym, ap, subst, ◌∙◌, arith, append_assoc, inl, inr}
use Rattle.std.specs.Prelude.{is_some, option_map, option_and_then, unwrap_or, find, nat_eq}
use Rattle.std.specs.Str.{bytes_eq}
use Rattle.std.proofs.lemmas.List.{append-nil, length-append, length-map}
use Rattle.std.proofs.lemmas.Bool.{ne_eqb, eq-eqb, cases_Bool, both_ways}
use Rattle.std.proofs.lemmas.Slice.Eq.{bytes_eq-Decides}
use Rattle.fp_text.specs.Reading.{Left, Read, GivesFault, many_next}
use Rattle.fp_text.specs.ReadingLaws.{many_step, many_ends, many_done}
use Rattle.fp_text.specs.declared.fault.TextFault.{TextFault}
use Rattle.fp_tech.specs.Book.{Pin, Lib, Book, place_of, tech_names, libs_of, lib_in, has, has_name, pins_in, id_for, with_name, with_tech, with_lib, with_pin, more_pins}
use Rattle.fp_tech.specs.BookLaws.{techs-with_lib, techs-with_pin, tech_names-with_lib, tech_names-with_pin, libs_of-with_lib, libs_of-with_pin, has-with_pin, pins_in-with_pin, place_within, libs_of-with_tech_new, tech_names-with_tech}
use Rattle.fp_contest_in.specs.Text.{LibText, TechText, grown, with_pins, with_lib_text, with_lib_texts, with_tech_text}
use Rattle.fp_contest_in.specs.Growing.{Knows}
use Rattle.fp_contest_in.specs.NamesLaws.{place_same, place_stays, place-push, is_among-push}

-- ---- a loop

-- so far these items were read, and the value grew by them
pub record Grown {V A : Type 0} (grow : V → A → V) (item : List A → Left → Read A) (count i : ℕ) (old now : V) (l : Left) (total : Read (List A)) (items : List A) : Type 0 where
  pub value : now ≡ grown grow old items
  pub reading : many_next item (count - i) items l ≡ total

pub grown-push : {V A : Type 0} (grow : V → A → V) (old : V) (xs : List A) (x : A) → grown grow old (xs ++ x ∷ []) ≡ grow (grown grow old xs) x
unfolding grown
grown-push grow old [] x = refl
grown-push grow old (y ∷ ys) x = grown-push grow (grow old y) ys x

pub grown_none : {V A : Type 0} (grow : V → A → V) (item : List A → Left → Read A) (count : ℕ) (old : V) (l : Left) → Grown grow item count 0 old old l (many_next item count [] l) []
unfolding grown
grown_none grow item count old l = record { value = refl; reading = ap (λ (n : ℕ). many_next item n [] l) (omega arith) }

pub grown_more : {V A : Type 0} (grow : V → A → V) (item : List A → Left → Read A) (count i : ℕ) (old now next : V) (l after : Left) (total : Read (List A)) (items : List A) (x : A) → i < count
    → item items l ≡ Ok (x, after) → next ≡ grow now x → Grown grow item count i old now l total items → Grown grow item count (i + 1) old next after total (items ++ x ∷ [])
grown_more grow item count i old now next l after total items x lt read is so_far = record {
  value = is ∙ ap (λ v. grow v x) so_far.value ∙ sym (grown-push grow old items x);
  reading = many_step item count i items l x after total lt read so_far.reading;
}

pub grown_fault : {V A : Type 0} (e : TextFault) (grow : V → A → V) (item : List A → Left → Read A) (count i : ℕ) (old now : V) (l : Left) (total : Read (List A)) (items : List A) → i < count
    → GivesFault e (item items l) → Grown grow item count i old now l total items → GivesFault e total
grown_fault e grow item count i old now l total items lt fails so_far = many_ends e item count i items l total lt fails so_far.reading

pub grown_all : {V A : Type 0} (grow : V → A → V) (item : List A → Left → Read A) (count i : ℕ) (old now : V) (l : Left) (total : Read (List A)) (items : List A) → count ≤ i
    → Grown grow item count i old now l total items → total ≡ Ok (items, l)
grown_all grow item count i old now l total items le so_far = many_done item count i items l total le so_far.reading

-- the items so far, one a turn
pub record Counted {V A : Type 0} (grow : V → A → V) (item : List A → Left → Read A) (count i : ℕ) (old now : V) (l : Left) (total : Read (List A)) : Type 0 where
  pub items : List A
  pub grown : Grown grow item count i old now l total items
  pub count_is : length items ≡ i

pub counted_none : {V A : Type 0} (grow : V → A → V) (item : List A → Left → Read A) (count : ℕ) (old : V) (l : Left) → Counted grow item count 0 old old l (many_next item count [] l)
counted_none grow item count old l = record { items = []; grown = grown_none grow item count old l; count_is = refl }

pub counted_more : {V A : Type 0} (grow : V → A → V) (item : List A → Left → Read A) (count i : ℕ) (old now next : V) (l after : Left) (total : Read (List A)) (x : A) → i < count
    → (so_far : Counted grow item count i old now l total) → item so_far.items l ≡ Ok (x, after) → next ≡ grow now x → Counted grow item count (i + 1) old next after total
counted_more grow item count i old now next l after total x lt so_far read is = record {
  items = so_far.items ++ x ∷ [];
  grown = grown_more grow item count i old now next l after total so_far.items x lt read is so_far.grown;
  count_is = length-append so_far.items (x ∷ []) ∙ ap (λ (n : ℕ). n + 1) so_far.count_is;
}

pub counted_all : {V A : Type 0} (grow : V → A → V) (item : List A → Left → Read A) (count i : ℕ) (old now : V) (l : Left) (total : Read (List A)) → count ≤ i
    → (so_far : Counted grow item count i old now l total) → total ≡ Ok (so_far.items, l)
counted_all grow item count i old now l total le so_far = grown_all grow item count i old now l total so_far.items le so_far.grown

-- ---- pins

pub has-with_pins : (t id : ℕ) (book : Book) (pins : List Pin) → has (with_pins t id book pins) t id ≡ has book t id
unfolding grown
has-with_pins t id book [] = refl
has-with_pins t id book (pin ∷ pins) = has-with_pins t id (with_pin book t id pin) pins ∙ has-with_pin book t id pin id

pub pins_in-with_pins : (t id : ℕ) (book : Book) (pins : List Pin) → IsTrue (has book t id) → pins_in (with_pins t id book pins) t id ≡ pins_in book t id ++ pins
unfolding grown
pins_in-with_pins t id book [] there = sym (append-nil (pins_in book t id))
pins_in-with_pins t id book (pin ∷ pins) there =
    let still : IsTrue (has (with_pin book t id pin) t id) = subst IsTrue (sym (has-with_pin book t id pin id)) there in
    pins_in-with_pins t id (with_pin book t id pin) pins still ∙ ap (λ (ps : List Pin). ps ++ pins) (pins_in-with_pin book t id pin there) ∙ append_assoc (pins_in book t id) (pin ∷ []) pins

pub techs-with_pins : (t id : ℕ) (book : Book) (pins : List Pin) → length (with_pins t id book pins).techs ≡ length book.techs
unfolding grown
techs-with_pins t id book [] = refl
techs-with_pins t id book (pin ∷ pins) = techs-with_pins t id (with_pin book t id pin) pins ∙ techs-with_pin book t id pin

pub tech_names-with_pins : (t id : ℕ) (book : Book) (pins : List Pin) → tech_names (with_pins t id book pins) ≡ tech_names book
unfolding grown
tech_names-with_pins t id book [] = refl
tech_names-with_pins t id book (pin ∷ pins) = tech_names-with_pins t id (with_pin book t id pin) pins ∙ tech_names-with_pin book t id pin

-- ---- library cells

abbrev place_at : ℕ → Option ℕ
place_at k = Some k

abbrev no_place : Option ℕ
no_place = None

some_is : (a b : ℕ) → place_at a ≡ Some b → a ≡ b
some_is a b e = cc

none_some : (a : ℕ) → no_place ≡ Some a → ⊥
none_some a e = absurd cc

mapped_is_some : {A B : Type 0} (change : A → B) (o : Option A) → is_some (option_map change o) ≡ is_some o
mapped_is_some change None = refl
mapped_is_some change (Some x) = refl

has_name-with_pin : (book : Book) (t id : ℕ) (pin : Pin) (name : List ℕ) → has_name (with_pin book t id pin) t name ≡ has_name book t name
has_name-with_pin book t id pin name = by (place_of name book.names)
  where
    by : (o : Option ℕ) → is_some (option_and_then (λ j. lib_in (with_pin book t id pin) t j) o) ≡ is_some (option_and_then (λ j. lib_in book t j) o)
    by None = refl
    by (Some j) = has-with_pin book t id pin j

has_name-with_pins : (t id : ℕ) (book : Book) (pins : List Pin) (name : List ℕ) → has_name (with_pins t id book pins) t name ≡ has_name book t name
unfolding grown
has_name-with_pins t id book [] name = refl
has_name-with_pins t id book (pin ∷ pins) name = has_name-with_pins t id (with_pin book t id pin) pins name ∙ has_name-with_pin book t id pin name

-- the first that passes, in a list with one more at the end
find-push : (test : Lib → Bool) (libs : List Lib) (lib : Lib) → is_some (find test (libs ++ lib ∷ [])) ≡ cond (test lib) true (is_some (find test libs))
find-push test [] lib = one (test lib)
  where
    one : (b : Bool) → is_some (cond b (Some lib) None) ≡ cond b true false
    one true = refl
    one false = refl
find-push test (x ∷ xs) lib = by (test x) (test lib) (find test xs) (find test (xs ++ lib ∷ [])) (find-push test xs lib)
  where
    by : (b c : Bool) (o p : Option Lib) → is_some p ≡ cond c true (is_some o) → is_some (cond b (Some x) p) ≡ cond c true (is_some (cond b (Some x) o))
    by true true o p e = refl
    by true false o p e = refl
    by false c o p e = e

has-with_lib_at : (book : Book) (t : ℕ) (name : List ℕ) (width height j : ℕ) → t < length book.techs
    → has (with_lib book t name width height) t j ≡ cond (nat_eq (id_for book name) j) true (has book t j)
unfolding lib_in
has-with_lib_at book t name width height j below =
    let lib : Lib = record { id = id_for book name; width = width; height = height; pins = [] } in
    ap (λ (libs : List Lib). is_some (find (λ l. nat_eq l.id j) libs)) (libs_of-with_lib book t name width height below)
    ∙ find-push (λ l. nat_eq l.id j) (libs_of book t) lib

-- whether a technology has a library cell of the number that a place of the names gives
abbrev found_at : Book → ℕ → Option ℕ → Bool
found_at book t place = is_some (option_and_then (λ j. lib_in book t j) place)

-- a technology has the name of a library cell that was added, and those that it had
pub has_name-with_lib : (book : Book) (t : ℕ) (name : List ℕ) (width height : ℕ) (other : List ℕ) → t < length book.techs
    → has_name (with_lib book t name width height) t other ≡ cond (bytes_eq name other) true (has_name book t other)
has_name-with_lib book t name width height other below = by (place_of other book.names) refl (place_of name book.names) refl
  where
    at : (j : ℕ) → is_some (lib_in (with_lib book t name width height) t j) ≡ cond (nat_eq (id_for book name) j) true (has book t j)
    at j = has-with_lib_at book t name width height j below

    -- the number of the new library cell is k exactly where the names are one
    both : (k : ℕ) → (name ≡ other → id_for book name ≡ k) → (id_for book name ≡ k → name ≡ other) → nat_eq (id_for book name) k ≡ bytes_eq name other
    both k there back = elim (cases_Bool (bytes_eq name other)) [
      | inl same_name ↦ eq-eqb (id_for book name) k (there ((bytes_eq-Decides name other).0 same_name)) ∙ sym same_name
      | inr other_name ↦ ne_eqb (id_for book name) k (λ e. both_ways (bytes_eq name other) other_name ((bytes_eq-Decides name other).1 (back e))) ∙ sym other_name
    ]

    last : (b : Bool) → has (with_lib book t name width height) t (length book.names) ≡ true
        → is_some (option_and_then (λ j. lib_in (with_lib book t name width height) t j) (cond b (Some (length book.names)) None)) ≡ cond b true false
    last true new = new
    last false new = refl

    by : (o : Option ℕ) → place_of other book.names ≡ o → (p : Option ℕ) → place_of name book.names ≡ p
        → is_some (option_and_then (λ j. lib_in (with_lib book t name width height) t j) (place_of other (with_name book.names name)))
        ≡ cond (bytes_eq name other) true (is_some (option_and_then (λ j. lib_in book t j) (place_of other book.names)))
    by (Some k) is (Some p) there =
        let id : id_for book name ≡ p = ap (λ (o : Option ℕ). unwrap_or o (length book.names)) there in
        let test = both k
        (λ same. id ∙ some_is p k (sym there ∙ ap (λ (n : List ℕ). place_of n book.names) same ∙ is))
        (λ e. place_same name other book.names k (there ∙ ap Some (sym id ∙ e)) is) in
        let found : place_of other (with_name book.names name) ≡ Some k = ap (λ (o : Option ℕ). place_of other (cond (is_some o) book.names (book.names ++ name ∷ []))) there ∙ is in
        ap (found_at (with_lib book t name width height) t) found ∙ at k ∙ ap (λ (b : Bool). cond b true (has book t k)) test ∙ sym (ap (λ (o : Option ℕ). cond (bytes_eq name other) true (found_at book t o)) is)
    by (Some k) is None there =
        let id : id_for book name ≡ length book.names = ap (λ (o : Option ℕ). unwrap_or o (length book.names)) there in
        let small : k < length book.names = place_within other book.names k is in
        let test = both k
        (λ same. absurd (none_some k (sym there ∙ ap (λ (n : List ℕ). place_of n book.names) same ∙ is)))
        (λ e. absurd (omega (arith, id, e))) in
        let found : place_of other (with_name book.names name) ≡ Some k =
        ap (λ (o : Option ℕ). place_of other (cond (is_some o) book.names (book.names ++ name ∷ []))) there ∙ place_stays other book.names (name ∷ []) k is in
        ap (found_at (with_lib book t name width height) t) found ∙ at k ∙ ap (λ (b : Bool). cond b true (has book t k)) test ∙ sym (ap (λ (o : Option ℕ). cond (bytes_eq name other) true (found_at book t o)) is)
    by None is (Some p) there =
        let no : bytes_eq name other ≡ false = elim (cases_Bool (bytes_eq name other)) [
          | inl same_name ↦ absurd (none_some p (sym is ∙ ap (λ (n : List ℕ). place_of n book.names) (sym ((bytes_eq-Decides name other).0 same_name)) ∙ there))
          | inr other_name ↦ other_name
        ] in
        let found : place_of other (with_name book.names name) ≡ None = ap (λ (o : Option ℕ). place_of other (cond (is_some o) book.names (book.names ++ name ∷ []))) there ∙ is in
        ap (found_at (with_lib book t name width height) t) found ∙ sym (ap (λ (b : Bool). cond b true false) no) ∙ sym (ap (λ (o : Option ℕ). cond (bytes_eq name other) true (found_at book t o)) is)
    by None is None there =
        let id : id_for book name ≡ length book.names = ap (λ (o : Option ℕ). unwrap_or o (length book.names)) there in
        let new : has (with_lib book t name width height) t (length book.names) ≡ true =
        at (length book.names) ∙ ap (λ (b : Bool). cond b true (has book t (length book.names))) (eq-eqb (id_for book name) (length book.names) id) in
        let found : place_of other (with_name book.names name) ≡ cond (bytes_eq name other) (Some (length book.names)) None =
        ap (λ (o : Option ℕ). place_of other (cond (is_some o) book.names (book.names ++ name ∷ []))) there ∙ place-push other name book.names is in
        ap (found_at (with_lib book t name width height) t) found ∙ last (bytes_eq name other) new ∙ sym (ap (λ (o : Option ℕ). cond (bytes_eq name other) true (found_at book t o)) is)

-- ---- the names of a technology's library cells

pub knows_none : (book : Book) (tech : List ℕ) → Knows (with_tech book tech) (length book.techs) []
unfolding place_of lib_in
knows_none book tech name = by (place_of name book.names)
  where
    by : (o : Option ℕ) → is_some (option_and_then (λ j. lib_in (with_tech book tech) (length book.techs) j) o) ≡ false
    by None = refl
    by (Some j) = ap (λ (libs : List Lib). is_some (find (λ lib. nat_eq lib.id j) libs)) (libs_of-with_tech_new book tech)

pub knows_more : (t : ℕ) (book : Book) (lib : LibText) (names : List (List ℕ)) → t < length book.techs → Knows book t names → Knows (with_lib_text t book lib) t (names ++ lib.name ∷ [])
knows_more t book lib names below knows name =
    has_name-with_pins t (id_for book lib.name) (with_lib book t lib.name lib.width lib.height) lib.pins name
    ∙ has_name-with_lib book t lib.name lib.width lib.height name below
    ∙ ap (cond (bytes_eq lib.name name) true) (knows name) ∙ sym (is_among-push name lib.name names)

pub techs-with_lib_text : (t : ℕ) (book : Book) (lib : LibText) → length (with_lib_text t book lib).techs ≡ length book.techs
techs-with_lib_text t book lib =
    techs-with_pins t (id_for book lib.name) (with_lib book t lib.name lib.width lib.height) lib.pins ∙ techs-with_lib book t lib.name lib.width lib.height

libs_of-with_pins : (t id : ℕ) (book : Book) (pins : List Pin) → length (libs_of (with_pins t id book pins) t) ≡ length (libs_of book t)
unfolding grown
libs_of-with_pins t id book [] = refl
libs_of-with_pins t id book (pin ∷ pins) =
    libs_of-with_pins t id (with_pin book t id pin) pins ∙ ap (λ (libs : List Lib). length libs) (libs_of-with_pin book t id pin) ∙ length-map (libs_of book t) (more_pins id pin)

pub libs_of-with_lib_text : (t : ℕ) (book : Book) (lib : LibText) → t < length book.techs → length (libs_of (with_lib_text t book lib) t) ≡ length (libs_of book t) + 1
libs_of-with_lib_text t book lib below =
    libs_of-with_pins t (id_for book lib.name) (with_lib book t lib.name lib.width lib.height) lib.pins
    ∙ ap (λ (libs : List Lib). length libs) (libs_of-with_lib book t lib.name lib.width lib.height below) ∙ length-append (libs_of book t) _

pub tech_names-with_lib_text : (t : ℕ) (book : Book) (lib : LibText) → tech_names (with_lib_text t book lib) ≡ tech_names book
tech_names-with_lib_text t book lib =
    tech_names-with_pins t (id_for book lib.name) (with_lib book t lib.name lib.width lib.height) lib.pins ∙ tech_names-with_lib book t lib.name lib.width lib.height

pub tech_names-with_lib_texts : (t : ℕ) (book : Book) (libs : List LibText) → tech_names (with_lib_texts t book libs) ≡ tech_names book
unfolding grown
tech_names-with_lib_texts t book [] = refl
tech_names-with_lib_texts t book (lib ∷ libs) = tech_names-with_lib_texts t (with_lib_text t book lib) libs ∙ tech_names-with_lib_text t book lib

pub techs-with_lib_texts : (t : ℕ) (book : Book) (libs : List LibText) → length (with_lib_texts t book libs).techs ≡ length book.techs
unfolding grown
techs-with_lib_texts t book [] = refl
techs-with_lib_texts t book (lib ∷ libs) = techs-with_lib_texts t (with_lib_text t book lib) libs ∙ techs-with_lib_text t book lib

-- ---- the names of technologies

pub tech_names-grown : (book : Book) (techs : List TechText) → tech_names (grown with_tech_text book techs) ≡ tech_names book ++ map (λ tech. tech.name) techs
unfolding grown
tech_names-grown book [] = sym (append-nil (tech_names book))
tech_names-grown book (tech ∷ techs) =
    tech_names-grown (with_tech_text book tech) techs
    ∙ ap (λ (names : List (List ℕ)). names ++ map (λ t. t.name) techs)
    (tech_names-with_lib_texts (length book.techs) (with_tech book tech.name) tech.libs ∙ tech_names-with_tech book tech.name)
    ∙ append_assoc (tech_names book) (tech.name ∷ []) (map (λ t. t.name) techs)
