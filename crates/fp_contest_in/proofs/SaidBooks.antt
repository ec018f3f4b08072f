-- The book of technologies says the technologies that it was made of.
use Rattle.std.proofs.Common.{◌≡◌, ℕ, ◌<◌, ◌≤◌, Bool, true, false, if◌then◌else◌, List, [], ◌∷◌, ◌++◌, length, map, nat_eq, unwrap_or, Option, Some, None, is_some, refl, sym, ap, subst, ◌∙◌, append_assoc, arith}
use Rattle.std.proofs.lemmas.List.{append-nil, map-append, map_push, length-append}
use Rattle.std.proofs.lemmas.Bool.{ne_eqb, eq-eqb, both_ways}
use Rattle.std.specs.Str.{bytes_eq}
use Rattle.fp_tech.specs.Book.{Pin, Lib, Tech, Book, no_techs, place_of, is_among, name_at, with_name, with_pin, more_libs, more_pins, pins_added, changed_at}
use Rattle.fp_tech.specs.BookLaws.{place_within, slice_get-front}
use Rattle.fp_tech.specs.LibNameLaws.{name_at-place, name_at-with_name}
use Rattle.fp_contest_in.specs.Text.{LibText, TechText, lib_name_list, grown, with_pins, with_lib_text, with_lib_texts, with_tech_texts}
use Rattle.fp_contest_in.specs.PrintedText.{lib_said, tech_said}
use Rattle.fp_contest_in.specs.NamesLaws.{AreNew, not_among, same_bytes}

-- ---- numbers of library cells

abbrev Below : ℕ → List Lib → Type 0
Below n [] = Unit {0}
Below n (lib ∷ libs) = (lib.id < n) × Below n libs

abbrev AllBelow : ℕ → List Tech → Type 0
AllBelow n [] = Unit {0}
AllBelow n (tech ∷ techs) = Below n tech.libs × AllBelow n techs

abbrev NoId : ℕ → List Lib → Type 0
NoId id [] = Unit {0}
NoId id (lib ∷ libs) = (nat_eq lib.id id ≡ false) × NoId id libs

below_more : (n m : ℕ) (libs : List Lib) → n ≤ m → Below n libs → Below m libs
below_more n m [] le below = tt
below_more n m (lib ∷ libs) le below = (let less : lib.id < n = below.0 in omega arith, below_more n m libs le below.1)

below_push : (n : ℕ) (libs : List Lib) (lib : Lib) → Below n libs → lib.id < n → Below n (libs ++ lib ∷ [])
below_push n [] lib below less = (less, tt)
below_push n (first ∷ libs) lib below less = (below.0, below_push n libs lib below.1 less)

all_below_more : (n m : ℕ) (techs : List Tech) → n ≤ m → AllBelow n techs → AllBelow m techs
all_below_more n m [] le below = tt
all_below_more n m (tech ∷ techs) le below = (below_more n m tech.libs le below.0, all_below_more n m techs le below.1)

all_below_push : (n : ℕ) (techs : List Tech) (tech : Tech) → AllBelow n techs → Below n tech.libs → AllBelow n (techs ++ tech ∷ [])
all_below_push n [] tech below less = (less, tt)
all_below_push n (first ∷ techs) tech below less = (below.0, all_below_push n techs tech below.1 less)

-- a longer list of names has the names of before
record Keeps (names more : List (List ℕ)) : Type 0 where
  longer : length names ≤ length more
  same : (k : ℕ) → k < length names → name_at more k ≡ name_at names k

keeps_all : (names : List (List ℕ)) → Keeps names names
keeps_all names = record { longer = omega arith; same = λ k below. refl }

keeps_then : (one two three : List (List ℕ)) → Keeps one two → Keeps two three → Keeps one three
keeps_then one two three p q =
    let longer : length one ≤ length two = p.longer in
    let longest : length two ≤ length three = q.longer in
    record { longer = omega arith; same = λ k below. q.same k (omega arith) ∙ p.same k below }

keeps_name : (names : List (List ℕ)) (name : List ℕ) → Keeps names (with_name names name)
keeps_name names name = by (is_among name names)
  where
    by : (b : Bool) → Keeps names (if b then names else names ++ name ∷ [])
    by true = keeps_all names
    by false = record {
      longer = omega (arith, length-append names (name ∷ []));
      same = λ k below. ap (λ o. unwrap_or o []) (slice_get-front names name k below);
    }

abbrev number_for : List (List ℕ) → List ℕ → ℕ
number_for names name = unwrap_or (place_of name names) (length names)

number_below : (names : List (List ℕ)) (name : List ℕ) → number_for names name < length (with_name names name)
number_below names name = by (place_of name names) refl
  where
    by : (o : Option ℕ) → place_of name names ≡ o → unwrap_or o (length names) < length (if is_some o then names else names ++ name ∷ [])
    by None e = omega (arith, length-append names (name ∷ []))
    by (Some p) e = place_within name names p e

other_number : (names : List (List ℕ)) (name : List ℕ) (id : ℕ) → id < length names → bytes_eq (name_at names id) name ≡ false → nat_eq id (number_for names name) ≡ false
other_number names name id below other = by (place_of name names) refl
  where
    by : (o : Option ℕ) → place_of name names ≡ o → nat_eq id (unwrap_or o (length names)) ≡ false
    by None e = ne_eqb id (length names) (λ same. omega arith)
    by (Some p) e = ne_eqb id p (λ same. absurd (both_ways (bytes_eq (name_at names id) name) other (same_bytes (name_at names id) name (ap (name_at names) same ∙ name_at-place names name p e))))

no_number : (names : List (List ℕ)) (name : List ℕ) (libs : List Lib) → Below (length names) libs → is_among name (lib_name_list (map (lib_said names) libs)) ≡ false → NoId (number_for names name) libs
unfolding place_of
no_number names name [] below new = tt
no_number names name (lib ∷ libs) below new =
    let p = not_among (bytes_eq (name_at names lib.id) name) (place_of name (lib_name_list (map (lib_said names) libs))) new in
    (other_number names name lib.id below.0 p.0, no_number names name libs below.1 p.1)

-- ---- one library cell with its pins

abbrev book_with : List (List ℕ) → List Tech → List ℕ → List Lib → Book
book_with names done name libs = record { names = names; techs = done ++ record { name = name; libs = libs } ∷ [] }

abbrev book_of : List (List ℕ) → List Tech → Book
book_of names techs = record { names = names; techs = techs }

changed_last : {A : Type 0} (change : A → A) (xs : List A) (x : A) → changed_at (length xs) change (xs ++ x ∷ []) ≡ xs ++ change x ∷ []
unfolding changed_at
changed_last change [] x = refl
changed_last change (y ∷ ys) x = ap (λ rest. y ∷ rest) (changed_last change ys x)

others_stay : (id : ℕ) (pin : Pin) (libs : List Lib) → NoId id libs → map (more_pins id pin) libs ≡ libs
others_stay id pin [] none = refl
others_stay id pin (lib ∷ libs) none =
    (λ i. (if none.0 i then record lib { pins = lib.pins ++ pin ∷ [] } else lib) ∷ others_stay id pin libs none.1 i)

abbrev lib_with : ℕ → ℕ → ℕ → List Pin → Lib
lib_with id width height pins = record { id = id; width = width; height = height; pins = pins }

one_pin : (id width height : ℕ) (pins : List Pin) (pin : Pin) → more_pins id pin (lib_with id width height pins) ≡ lib_with id width height (pins ++ pin ∷ [])
one_pin id width height pins pin = ap (λ b. if b then lib_with id width height (pins ++ pin ∷ []) else lib_with id width height pins) (eq-eqb id id refl)

pins_grow : (names : List (List ℕ)) (done : List Tech) (name : List ℕ) (libs : List Lib) (id width height : ℕ) (pins more : List Pin) → NoId id libs
    → with_pins (length done) id (book_with names done name (libs ++ lib_with id width height pins ∷ [])) more ≡ book_with names done name (libs ++ lib_with id width height (pins ++ more) ∷ [])
unfolding grown
pins_grow names done name libs id width height pins [] none = ap (λ (ps : List Pin). book_with names done name (libs ++ lib_with id width height ps ∷ [])) (sym (append-nil pins))
pins_grow names done name libs id width height pins (pin ∷ more) none =
    let tech : Tech = record { name = name; libs = libs ++ lib_with id width height pins ∷ [] } in
    let pinned : map (more_pins id pin) (libs ++ lib_with id width height pins ∷ []) ≡ libs ++ lib_with id width height (pins ++ pin ∷ []) ∷ [] =
    map-append (more_pins id pin) libs (lib_with id width height pins ∷ []) ∙ (λ i. others_stay id pin libs none i ++ one_pin id width height pins pin i ∷ []) in
    let one : with_pin (book_with names done name (libs ++ lib_with id width height pins ∷ [])) (length done) id pin ≡ book_with names done name (libs ++ lib_with id width height (pins ++ pin ∷ []) ∷ []) =
    ap (book_of names) (changed_last (pins_added id pin) done tech)
    ∙ ap (λ (ls : List Lib). book_with names done name ls) pinned in
    ap (λ (b : Book). with_pins (length done) id b more) one
    ∙ pins_grow names done name libs id width height (pins ++ pin ∷ []) more none
    ∙ ap (λ (ps : List Pin). book_with names done name (libs ++ lib_with id width height ps ∷ [])) (append_assoc pins (pin ∷ []) more)

abbrev lib_made : List (List ℕ) → LibText → Lib
lib_made names lib = lib_with (number_for names lib.name) lib.width lib.height lib.pins

lib_grows : (names : List (List ℕ)) (done : List Tech) (name : List ℕ) (libs : List Lib) (lib : LibText) → NoId (number_for names lib.name) libs
    → with_lib_text (length done) (book_with names done name libs) lib ≡ book_with (with_name names lib.name) done name (libs ++ lib_made names lib ∷ [])
lib_grows names done name libs lib none =
    let id = number_for names lib.name in
    let fresh = lib_with id lib.width lib.height [] in
    ap (λ (techs : List Tech). with_pins (length done) id (book_of (with_name names lib.name) techs) lib.pins)
    (changed_last (more_libs fresh) done (record { name = name; libs = libs }))
    ∙ pins_grow (with_name names lib.name) done name libs id lib.width lib.height [] lib.pins none

-- ---- what is said

same_libs : (names more : List (List ℕ)) (libs : List Lib) → Below (length names) libs → Keeps names more → map (lib_said more) libs ≡ map (lib_said names) libs
same_libs names more [] below keeps = refl
same_libs names more (lib ∷ libs) below keeps =
    (λ i. record { name = keeps.same lib.id below.0 i; width = lib.width; height = lib.height; pins = lib.pins } ∷ same_libs names more libs below.1 keeps i)

same_techs : (names more : List (List ℕ)) (techs : List Tech) → AllBelow (length names) techs → Keeps names more → map (tech_said more) techs ≡ map (tech_said names) techs
same_techs names more [] below keeps = refl
same_techs names more (tech ∷ techs) below keeps =
    (λ i. record { name = tech.name; libs = same_libs names more tech.libs below.0 keeps i } ∷ same_techs names more techs below.1 keeps i)

lib_is_said : (names : List (List ℕ)) (lib : LibText) → lib_said (with_name names lib.name) (lib_made names lib) ≡ lib
lib_is_said names lib = λ i. record { name = name_at-with_name names lib.name i; width = lib.width; height = lib.height; pins = lib.pins }

one_said : (names : List (List ℕ)) (libs : List Lib) (lib : LibText) → Below (length names) libs
    → map (lib_said (with_name names lib.name)) (libs ++ lib_made names lib ∷ []) ≡ map (lib_said names) libs ++ lib ∷ []
one_said names libs lib below =
    map-append (lib_said (with_name names lib.name)) libs (lib_made names lib ∷ [])
    ∙ (λ i. same_libs names (with_name names lib.name) libs below (keeps_name names lib.name) i ++ lib_is_said names lib i ∷ [])

record LibsGrew (names : List (List ℕ)) (done : List Tech) (name : List ℕ) (libs : List Lib) (texts : List LibText) (book : Book) : Type 0 where
  more : List (List ℕ)
  all : List Lib
  is : book ≡ book_with more done name all
  said : map (lib_said more) all ≡ map (lib_said names) libs ++ texts
  below : Below (length more) all
  kept : Keeps names more

libs_grow : (names : List (List ℕ)) (done : List Tech) (name : List ℕ) (libs : List Lib) (texts : List LibText) → Below (length names) libs
    → AreNew (lib_name_list (map (lib_said names) libs)) (lib_name_list texts)
    → LibsGrew names done name libs texts (with_lib_texts (length done) (book_with names done name libs) texts)
unfolding grown
libs_grow names done name libs [] below new =
    record { more = names; all = libs; is = refl; said = sym (append-nil (map (lib_said names) libs)); below = below; kept = keeps_all names }
libs_grow names done name libs (lib ∷ texts) below new =
    let names1 = with_name names lib.name in
    let libs1 = libs ++ lib_made names lib ∷ [] in
    let keeps = keeps_name names lib.name in
    let one = lib_grows names done name libs lib (no_number names lib.name libs below new.0) in
    let said1 = one_said names libs lib below in
    let below1 = below_push (length names1) libs (lib_made names lib) (below_more (length names) (length names1) libs keeps.longer below) (number_below names lib.name) in
    let new1 = subst (λ ns. AreNew ns (lib_name_list texts)) (sym (ap lib_name_list said1 ∙ map_push (λ (l : LibText). l.name) (map (lib_said names) libs) lib)) new.1 in
    let rest = libs_grow names1 done name libs1 texts below1 new1 in
    record {
      more = rest.more;
      all = rest.all;
      is = ap (λ (b : Book). with_lib_texts (length done) b texts) one ∙ rest.is;
      said = rest.said ∙ ap (λ ls. ls ++ texts) said1 ∙ append_assoc (map (lib_said names) libs) (lib ∷ []) texts;
      below = rest.below;
      kept = keeps_then names names1 rest.more keeps rest.kept;
    }

-- the library cells of each technology have distinct names
abbrev pub AllNew : List TechText → Type 0
AllNew [] = Unit {0}
AllNew (tech ∷ techs) = AreNew [] (lib_name_list tech.libs) × AllNew techs

record TechsGrew (names : List (List ℕ)) (done : List Tech) (texts : List TechText) (book : Book) : Type 0 where
  more : List (List ℕ)
  all : List Tech
  is : book ≡ record { names = more; techs = all }
  said : map (tech_said more) all ≡ map (tech_said names) done ++ texts

techs_grow : (names : List (List ℕ)) (done : List Tech) (texts : List TechText) → AllBelow (length names) done → AllNew texts
    → TechsGrew names done texts (with_tech_texts (record { names = names; techs = done }) texts)
unfolding grown
techs_grow names done [] below new = record { more = names; all = done; is = refl; said = sym (append-nil (map (tech_said names) done)) }
techs_grow names done (tech ∷ texts) below new =
    let one = libs_grow names done tech.name [] tech.libs tt new.0 in
    let made : Tech = record { name = tech.name; libs = one.all } in
    let rest = techs_grow one.more (done ++ made ∷ []) texts
    (all_below_push (length one.more) done made (all_below_more (length names) (length one.more) done one.kept.longer below) one.below) new.1 in
    let said1 : map (tech_said one.more) (done ++ made ∷ []) ≡ map (tech_said names) done ++ tech ∷ [] =
    map-append (tech_said one.more) done (made ∷ []) ∙ (λ i. same_techs names one.more done below one.kept i ++ record { name = tech.name; libs = one.said i } ∷ []) in
    record {
      more = rest.more;
      all = rest.all;
      is = ap (λ (b : Book). with_tech_texts b texts) one.is ∙ rest.is;
      said = rest.said ∙ ap (λ ts. ts ++ texts) said1 ∙ append_assoc (map (tech_said names) done) (tech ∷ []) texts;
    }

pub techs_are_said : (techs : List TechText) → AllNew techs → map (tech_said (with_tech_texts no_techs techs).names) (with_tech_texts no_techs techs).techs ≡ techs
techs_are_said techs new =
    let all = techs_grow [] [] techs tt new in
    ap (λ (b : Book). map (tech_said b.names) b.techs) all.is ∙ all.said
