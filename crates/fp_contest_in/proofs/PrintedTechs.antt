-- The lines of the technologies, one element more at a time.
use Rattle.std.specs.Prelude.{codes}
use Rattle.std.specs.List.{IsDistinct, AllByRecursion}
use Rattle.std.proofs.Common.{◌≡◌, ℕ, zero, suc, ◌+◌, ◌<◌, ◌≤◌, ◌==◌, false, cond, List, [], ◌∷◌, ◌++◌, length, map, take, find, get_or, slice_get, flat_map, nat_eq, Option, Some, None, option_map, refl, sym, ap, subst, ◌∙◌, arith}
use Rattle.std.proofs.lemmas.Bool.{eq-eqb}
use Rattle.std.proofs.lemmas.List.{length-map}
use Rattle.fp_base.specs.declared.ids.LibId.{LibId}
use Rattle.std.proofs.lemmas.Option.{same_Some, slice_get-map, slice_get_within, get_or_from_slice_get}
use Rattle.std.proofs.lemmas.Map.Keys.{IsDistinct-head, IsDistinct-tail}
use Rattle.fp_tech.specs.Book.{Pin, Lib, Tech, Book, names_of, tech_names, libs_of, lib_ids, lib_in, IsLib, IsBook}
use Rattle.fp_tech.specs.BookLaws.{libs_within, libs_at}
use Rattle.fp_contest_in.specs.PrintedText.{line, numbers, pin_line, pin_lines, lib_lines, libs_lines, tech_lines, lib_said, tech_said}
use Rattle.fp_contest_in.proofs.Pieces.{piece_more, mapped_at, element, element_in}

-- ---- pins

abbrev place_of_pin : Pin → ℕ × ℕ
place_of_pin p = (p.x, p.y)

one_pin : (pin : Option Pin) (name : List ℕ) (x y : ℕ) → option_map (λ p. p.name) pin ≡ Some name → option_map place_of_pin pin ≡ Some (x, y)
    → (p : Pin) × (pin ≡ Some p) × (pin_line p ≡ line (codes "Pin") (name ∷ numbers (x ∷ y ∷ [])))
one_pin None name x y named offset = absurd (let no : None ≡ Some name = named in cc)
one_pin (Some pin) name x y named offset =
    let same_name : pin.name ≡ name = same_Some pin.name name named in
    let same : (pin.x, pin.y) ≡ (x, y) = same_Some (pin.x, pin.y) (x, y) offset in
    (pin, refl, λ i. line (codes "Pin") (same_name i ∷ numbers ((same i).0 ∷ (same i).1 ∷ [])))

pub pin_more : (pins : List Pin) (i : ℕ) (name : List ℕ) (x y : ℕ) → slice_get (names_of pins) i ≡ Some name → option_map place_of_pin (slice_get pins i) ≡ Some (x, y)
    → pin_lines (take i pins) ++ line (codes "Pin") (name ∷ numbers (x ∷ y ∷ [])) ≡ pin_lines (take (i + 1) pins)
pin_more pins i name x y named offset =
    let one = one_pin (slice_get pins i) name x y (sym (slice_get-map (λ (p : Pin). p.name) pins i) ∙ named) offset in
    ap (λ t. pin_lines (take i pins) ++ t) (sym one.2) ∙ piece_more pin_line pins i one.0 one.1

-- ---- library cells

apart_at : (x : ℕ) (xs : List ℕ) (i y : ℕ) → AllByRecursion (λ y. nat_eq x y ≡ false) xs → slice_get xs i ≡ Some y → nat_eq x y ≡ false
apart_at x [] i y all at = absurd (let no : None ≡ Some y = at in cc)
apart_at x (z ∷ zs) zero y all at = ap (nat_eq x) (sym (same_Some z y at)) ∙ all.0
apart_at x (z ∷ zs) (suc i) y all at = apart_at x zs i y all.1 at

find_self : (libs : List Lib) (i : ℕ) (lib : Lib) → IsDistinct nat_eq (map (λ l. l.id) libs) → slice_get libs i ≡ Some lib → find (λ l. l.id == lib.id) libs ≡ Some lib
find_self [] i lib apart at = absurd (let no : None ≡ Some lib = at in cc)
find_self (x ∷ xs) zero lib apart at =
    let same : x ≡ lib = same_Some x lib at in
    ap (λ b. cond b (Some x) (find (λ l. l.id == lib.id) xs)) (eq-eqb x.id lib.id (ap (λ (l : Lib). l.id) same)) ∙ ap (λ (l : Lib). Some l) same
find_self (x ∷ xs) (suc i) lib apart at =
    let other = apart_at x.id (map (λ (l : Lib). l.id) xs) i lib.id (IsDistinct-head nat_eq x.id (map (λ (l : Lib). l.id) xs) apart) (slice_get-map (λ (l : Lib). l.id) xs i ∙ ap (option_map (λ (l : Lib). l.id)) at) in
    ap (λ b. cond b (Some x) (find (λ l. l.id == lib.id) xs)) other ∙ find_self xs i lib (IsDistinct-tail nat_eq x.id (map (λ (l : Lib). l.id) xs) apart) at

-- a technology's library cell is found by its number
pub lib_found : (book : Book) (t i : ℕ) (lib : Lib) → IsBook book → t < length book.techs → slice_get (libs_of book t) i ≡ Some lib → lib_in book t lib.id ≡ Some lib
unfolding lib_in
lib_found book t i lib is below at =
    let tech = libs_within book t is below in
    let same = libs_at book t tech.0 tech.1 in
    ap (find (λ (l : Lib). l.id == lib.id)) same ∙ find_self tech.0.libs i lib tech.2.libs_apart (ap (λ (l : List Lib). slice_get l i) (sym same) ∙ at)

pub lib_more : (names : List (List ℕ)) (libs : List Lib) (i : ℕ) (lib : Lib) → slice_get libs i ≡ Some lib
    → flat_map lib_lines (take i (map (lib_said names) libs)) ++ lib_lines (lib_said names lib) ≡ flat_map lib_lines (take (i + 1) (map (lib_said names) libs))
lib_more names libs i lib at = piece_more lib_lines (map (lib_said names) libs) i (lib_said names lib) (mapped_at (lib_said names) libs i lib at)

-- the lines of a technology, from what the book answers
pub tech_written : (book : Book) (t : ℕ) (tech : Tech) (name : List ℕ) (count : ℕ) → slice_get book.techs t ≡ Some tech → slice_get (tech_names book) t ≡ Some name → count ≡ length (libs_of book t)
    → line (codes "Tech") (name ∷ numbers (count ∷ [])) ++ libs_lines (map (lib_said book.names) (libs_of book t)) ≡ tech_lines (tech_said book.names tech)
tech_written book t tech name count at named counted =
    let libs : libs_of book t ≡ tech.libs = libs_at book t tech at in
    let called : name ≡ tech.name = same_Some name tech.name (sym named ∙ mapped_at (λ (t : Tech). t.name) book.techs t tech at) in
    let many : count ≡ length (map (lib_said book.names) tech.libs) = counted ∙ ap length libs ∙ sym (length-map tech.libs (lib_said book.names)) in
    λ i. line (codes "Tech") (called i ∷ numbers (many i ∷ [])) ++ libs_lines (map (lib_said book.names) (libs i))

abbrev lib_id : ℕ → LibId
lib_id id = record { 0 = id }

-- the library cell at a place of a technology's numbers
pub record IsLibAt (book : Book) (t i id : ℕ) : Type 0 where
  pub lib : Lib
  pub at : slice_get (libs_of book t) i ≡ Some lib
  pub numbered : lib.id ≡ id
  pub found : lib_in book t id ≡ Some lib
  pub named : id < length book.names

pub lib_at_place : (book : Book) (t i : ℕ) (ids : List LibId) (d : LibId) → IsBook book → t < length book.techs → ids ≡ map lib_id (lib_ids book t) → i < length ids → IsLibAt book t i (get_or ids i d).0
lib_at_place book t i ids d is below all within =
    let id = element_in lib_id (lib_ids book t) d i (subst (λ (l : List LibId). i < length l) all within) in
    let lib = element (libs_of book t) i (omega (arith, length-map (libs_of book t) (λ (l : Lib). l.id), slice_get_within (lib_ids book t) i id.0 id.1)) in
    let same : lib.0.id ≡ id.0 = same_Some lib.0.id id.0 (sym (mapped_at (λ (l : Lib). l.id) (libs_of book t) i lib.0 lib.1) ∙ id.1) in
    let this : lib.0.id ≡ (get_or ids i d).0 = same ∙ sym (ap (λ (l : List LibId). (get_or l i d).0) all ∙ ap (λ (x : LibId). x.0) id.2) in
    let tech = libs_within book t is below in
    let there : slice_get tech.0.libs i ≡ Some lib.0 = ap (λ (l : List Lib). slice_get l i) (sym (libs_at book t tech.0 tech.1)) ∙ lib.1 in
    let limits : IsLib (length book.names) lib.0 = subst (IsLib (length book.names)) (get_or_from_slice_get tech.0.libs i lib.0 lib.0 there) (tech.2.libs i lib.0 (slice_get_within tech.0.libs i lib.0 there)) in
    record {
      lib = lib.0;
      at = lib.1;
      numbered = this;
      found = ap (lib_in book t) (sym this) ∙ lib_found book t i lib.0 is below lib.1;
      named = subst (λ k. k < length book.names) this limits.named;
    }

pub few_libs : (book : Book) (t : ℕ) (ids : List LibId) → IsBook book → t < length book.techs → ids ≡ map lib_id (lib_ids book t) → (length ids ≡ length (libs_of book t)) × (length ids ≤ 4096)
few_libs book t ids is below all =
    let tech = libs_within book t is below in
    let many : length ids ≡ length (libs_of book t) = ap length all ∙ length-map (lib_ids book t) lib_id ∙ length-map (libs_of book t) (λ (l : Lib). l.id) in
    let few : length tech.0.libs ≤ 4096 = tech.2.few_libs in
    (many, omega (arith, ap length (libs_at book t tech.0 tech.1)))
